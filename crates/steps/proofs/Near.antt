-- What is known at a stage of send or receive: of its core, its process and its channel, and of the partner where there is one.
use Rattle.std.proofs.Common.{◌≡◌, ℕ, ◌^◌, ◌<◌, ◌&&◌, T, List, length, get_or, sym, ap, ◌∙◌, arith}
use Rattle.rules.specs.State.{Way, Stage, look, park, copy, clear, wake, wiring}
use Rattle.rules.specs.Items.{channel_of}
use Rattle.rules.specs.Layout.{channel_at, channel_holder}
use Rattle.rules.specs.Packing.{view, word_numbered}
use Rattle.rules.specs.Soundness.{is_process, own_end}
use Rattle.rules.proofs.Tests.{both, within_means}
use Rattle.words.specs.Meaning.{meaning}
use Rattle.words.specs.declared.Holder.{Holder}
use Rattle.table.specs.Has.{HasCore, HasProcess, HasChannel}
use Rattle.parts.specs.Does.{Card, At}
use Rattle.parts.proofs.Card.{card_inside, card_core, card_process, card_channel, runs_range, runs_process, name_fits, stage_valid, own_end_range}
use Rattle.parts.proofs.Packs.{Packs, IsProcess, IsChannel, card_packs, who_stands}

-- the core k, the process p that runs there and its channel c
pub record Near (t : List ℕ) (cores processes k p c : ℕ) : Type 0 where
  pub card : Card t cores processes k
  pub packs : Packs t cores processes (view t)
  pub inside : k < length (view t).cores
  pub is_process : IsProcess (view t) p
  pub is_channel : IsChannel (view t) c
  pub core : HasCore t k
  pub process : HasProcess t cores p
  pub channel : HasChannel t cores processes c

-- the partner q
pub record Partner (t : List ℕ) (cores q : ℕ) : Type 0 where
  pub is_process : IsProcess (view t) q
  pub process : HasProcess t cores q

-- who is found in the channel's word stands there
pub found_near : {t : List ℕ} {cores processes k p c : ℕ} → Near t cores processes k p c → {found h : Holder} → found ≡ h
    → meaning found ≡ word_numbered (get_or t (channel_at cores processes c channel_holder) 0) → (channel_of (view t) c).word ≡ meaning h
found_near {c = c} near told means = sym (who_stands near.card c near.is_channel) ∙ sym means ∙ ap meaning told

module _ {t : List ℕ} {cores processes k p : ℕ} {x : Stage} (at : At t cores processes k p x) where
  -- at a channel whose end the process is
  near_own : (w : Way) (c : ℕ) → T (own_end (wiring (view t)) w p c) → Near t cores processes k p c
  near_own w c own =
      let range = own_end_range (view t) w p c own in
      record {
        card = at.card;
        packs = card_packs at.card;
        inside = card_inside at.card;
        is_process = runs_range t cores processes k p x at;
        is_channel = range;
        core = card_core t cores processes k at.card;
        process = runs_process t cores processes k p x at;
        channel = card_channel t cores processes k at.card c range.0 range.1;
      }

  -- and with a partner
  with_partner : (w : Way) (c q : ℕ) → T (own_end (wiring (view t)) w p c && is_process (wiring (view t)) q)
      → Near t cores processes k p c × Partner t cores q
  with_partner w c q valid =
      let known = both (own_end (wiring (view t)) w p c) (is_process (wiring (view t)) q) valid in
      let range = within_means 1 (length (view t).processes) q known.1 in (
        near_own w c known.0,
        record { is_process = range; process = card_process t cores processes k at.card q range.0 range.1 },
      )

-- at each stage
module _ {t : List ℕ} {cores processes k p c : ℕ} {w : Way} where
  pub at_look : At t cores processes k p (look w c) → Near t cores processes k p c
  at_look at = near_own at w c (stage_valid t cores processes k p (look w c) at)

  pub at_park : At t cores processes k p (park w c) → Near t cores processes k p c
  at_park at = near_own at w c (stage_valid t cores processes k p (park w c) at)

  module _ {q : ℕ} where
    pub at_copy : At t cores processes k p (copy w c q) → Near t cores processes k p c × Partner t cores q
    at_copy at = with_partner at w c q (stage_valid t cores processes k p (copy w c q) at)

    pub at_clear : At t cores processes k p (clear w c q) → Near t cores processes k p c × Partner t cores q
    at_clear at = with_partner at w c q (stage_valid t cores processes k p (clear w c q) at)

    pub at_wake : At t cores processes k p (wake w c q) → Near t cores processes k p c × Partner t cores q
    at_wake at = with_partner at w c q (stage_valid t cores processes k p (wake w c q) at)

-- What is asked of the table where words were written since, as many as there were

module _ {t u : List ℕ} {cores processes k p : ℕ} {x : Stage} (at : At t cores processes k p x) (same : length u ≡ length t) where
  pub stage_core : HasCore u k
  stage_core = let has = card_core t cores processes k at.card in omega arith

  pub stage_process : HasProcess u cores p
  stage_process = let has = runs_process t cores processes k p x at in omega arith

pub later_process : {t u : List ℕ} {cores p : ℕ} → HasProcess t cores p → length u ≡ length t → HasProcess u cores p
later_process has same = omega arith

near_channel : {t u : List ℕ} {cores processes k p c : ℕ} → length u ≡ length t → Near t cores processes k p c → HasChannel u cores processes c
near_channel same near = omega arith

module _ {t u : List ℕ} {cores processes k p c : ℕ} {w : Way} (same : length u ≡ length t) where
  pub look_channel : At t cores processes k p (look w c) → HasChannel u cores processes c
  look_channel at = near_channel same (at_look at)

  pub park_channel : At t cores processes k p (park w c) → HasChannel u cores processes c
  park_channel at = near_channel same (at_park at)

  module _ {q : ℕ} where
    pub copy_channel : At t cores processes k p (copy w c q) → HasChannel u cores processes c
    copy_channel at = near_channel same (at_copy at).0

    pub clear_channel : At t cores processes k p (clear w c q) → HasChannel u cores processes c
    clear_channel at = near_channel same (at_clear at).0

-- the partner, before anything is written
pub copy_partner : {t : List ℕ} {cores processes k p c q : ℕ} {w : Way} → At t cores processes k p (copy w c q) → HasProcess t cores q
copy_partner at = (at_copy at).1.process

-- the name of the running process fits a word
pub stage_name : {t : List ℕ} {cores processes k p : ℕ} {x : Stage} → At t cores processes k p x → p < 2 ^ 31
stage_name {t} {cores} {processes} {k} {p} {x} at = name_fits at.card (runs_range t cores processes k p x at).1
