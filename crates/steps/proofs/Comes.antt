-- What the writes of look, park, copy and clear come to: each step does its rule.
use Rattle.std.proofs.Common.{◌≡◌, ℕ, ◌+◌, ◌%◌, List, [], ◌∷◌, get_or, set, sym, refl, ap, ◌∙◌, subst, lit<}
use Rattle.rules.specs.Numbers.{Said, Answer, MOVED, SLEPT, yes_with}
use Rattle.rules.specs.State.{Way, sending, receiving, look, park, copy, clear, wake, doing, due, Task, no_task, trigger, free, nobody, plain, State}
use Rattle.rules.specs.Items.{process_of, channel_of, put, data_word, progress, channel_word, transfers}
use Rattle.rules.specs.Layout.{process_at, channel_at, process_data, process_progress, process_partner, channel_holder, channel_transfers, task_none, task_trigger, at_send_park, at_send_copy, at_send_clear, at_send_wake}
use Rattle.rules.specs.Packing.{pack, view, work_words, word_number, word_numbered}
use Rattle.rules.specs.Rule.{Rule, run}
use Rattle.rules.specs.Steps.{sleeps, after_look, outcome, parked, look_step, park_step, copy_step, clear_step}
use Rattle.words.specs.Meaning.{meaning}
use Rattle.words.specs.declared.Holder.{Holder}
use Rattle.words.specs.declared.Holder.TheVariants.{Nobody, Plain, Choosing}
use Rattle.parts.specs.Does.{At, Comes, Does}
use Rattle.layout.specs.Numbers.{of_way}
use Rattle.parts.specs.Shared.{asleep_table}
use Rattle.parts.proofs.Packs.{Packs, IsProcess, still_process, progress_kept, channel_read, process_read, word_written, transfers_written, data_written, asleep_written}
use Rattle.steps.specs.Outcomes.{due_of, copied, counted}
use Rattle.steps.proofs.Moves.{stage_words, goes_on, finds}
use Rattle.steps.proofs.Near.{found_near, at_look, at_park, at_copy, at_clear}

-- who is found in the channel's word, as it was read
abbrev Found : List ℕ → ℕ → ℕ → ℕ → Holder → Type 0
Found t cores processes c found = meaning found ≡ word_numbered (get_or t (channel_at cores processes c channel_holder) 0)

module _ {t : List ℕ} {cores processes k p c : ℕ} {w : Way} (at : At t cores processes k p (look w c)) {found : Holder}
    (means : Found t cores processes c found) where
  -- look: nobody to copy with is there
  pub look_parks : {h : Holder} → found ≡ h → after_look w c (meaning h) ≡ park w c → {r : Said} {u : List ℕ}
      → r ≡ yes_with MOVED → u ≡ set t (process_at cores p process_progress) (of_way w at_send_park) → Does (look_step p w c) t r u
  look_parks is next reply written =
      let near = at_look at in
      let words = stage_words w c 0 in
      let parking = goes_on near.packs p near.is_process at.stage (doing (park w c)) words.look words.park in
      rw (found_near near is means, next) (reply, written ∙ parking.is_pack)

  -- a partner is
  pub look_copies : {q : ℕ} → found ≡ Plain q → {r : Said} {u : List ℕ} → r ≡ yes_with MOVED
      → u ≡ set (set t (process_at cores p process_partner) q) (process_at cores p process_progress) (of_way w at_send_copy)
      → Does (look_step p w c) t r u
  look_copies {q} is reply written =
      let near = at_look at in
      let words = stage_words w c q in
      let copying = finds near.packs p near.is_process at.stage (doing (copy w c q)) words.look words.copy in
      rw (found_near near is means) (reply, written ∙ copying.is_pack)

module _ {t : List ℕ} {cores processes k p c : ℕ} {w : Way} (at : At t cores processes k p (park w c)) {name : ℕ}
    (called : name ≡ word_number (plain p)) {u : List ℕ} (swapped : u ≡ set t (channel_at cores processes c channel_holder) name) where
  -- park: one's name stands in the word
  named : Packs u cores processes (put channel_word c (plain p) (view t))
  named = let near = at_park at in rw (swapped, called) (word_written near.packs c near.is_channel (plain p))

  module _ {found : Holder} (means : Found t cores processes c found) where
    -- what stood there decides
    parked_does : {h : Holder} → found ≡ h → (r : Said) (v : List ℕ) {rule : Rule Answer} → parked k p w c (meaning h) ≡ rule
        → Comes (run rule (put channel_word c (plain p) (view t))) t r v → Does (park_step k p w c) t r v
    parked_does is r v e d =
        subst (λ (x : Rule Answer). Comes (run x (put channel_word c (plain p) (view t))) t r v)
        (sym (ap (parked k p w c) (found_near (at_park at) is means) ∙ e)) d

    -- the look was stale
    pub park_copies : {q : ℕ} → found ≡ Plain q → {r : Said} {v : List ℕ} → r ≡ yes_with MOVED
        → v ≡ set (set u (process_at cores p process_partner) q) (process_at cores p process_progress) (of_way w at_send_copy)
        → Does (park_step k p w c) t r v
    park_copies {q} is {r} {v} reply written =
        let words = stage_words w c q in
        let copying = finds named p (at_park at).is_process at.stage (doing (copy w c q)) words.park words.copy in
        parked_does is r v refl (reply, written ∙ copying.is_pack)

    -- one falls asleep, and the core has a task
    park_sleeps : (y : Task) {task q : ℕ} → work_words (free y) ≡ 0 ∷ task ∷ q ∷ [] → {h : Holder} → found ≡ h
        → parked k p w c (meaning h) ≡ sleeps k p (due (outcome w c)) y → {r : Said} {v : List ℕ} → r ≡ yes_with (SLEPT p)
        → v ≡ asleep_table (set u (process_at cores p process_progress) (due_of w)) cores k p task q → Does (park_step k p w c) t r v
    park_sleeps y {task} {q} e is next {r} {v} reply written =
        let near = at_park at in
        let words = stage_words w c 0 in
        let outcome_due = goes_on named p near.is_process at.stage (due (outcome w c)) words.park words.due in
        let sleeping = asleep_written outcome_due k near.inside p (still_process (put channel_word c (plain p) (view t)) p p _ near.is_process) y task q e in
        parked_does is r v next (reply, written ∙ sleeping.is_pack)

    -- which is none, or to trigger the one who is choosing
    pub park_alone : found ≡ Nobody → {r : Said} {v : List ℕ} → r ≡ yes_with (SLEPT p)
        → v ≡ asleep_table (set u (process_at cores p process_progress) (due_of w)) cores k p task_none 0 → Does (park_step k p w c) t r v
    park_alone is = park_sleeps no_task refl is refl

    pub park_triggers : {q : ℕ} → found ≡ Choosing q → {r : Said} {v : List ℕ} → r ≡ yes_with (SLEPT p)
        → v ≡ asleep_table (set u (process_at cores p process_progress) (due_of w)) cores k p task_trigger q → Does (park_step k p w c) t r v
    park_triggers {q} is = park_sleeps (trigger q) refl is refl

-- the data word of one process is written into that of another
data_copied : {t : List ℕ} {cores processes : ℕ} {s : State} → Packs t cores processes s → (d e : ℕ) → IsProcess s d → IsProcess s e
    → Packs (set t (process_at cores d process_data) (get_or t (process_at cores e process_data) 0)) cores processes (put data_word d (process_of s e).data_word s)
data_copied {s = s} packs d e is is' = rw (process_read packs e is' process_data (lit< tt)) (data_written packs d is (process_of s e).data_word)

module _ {t : List ℕ} {cores processes k p c q : ℕ} where
  -- copy: one transfer more, after the data word of d was written
  one_more : {w : Way} → At t cores processes k p (copy w c q) → {u : List ℕ} (d v : ℕ) → Packs u cores processes (put data_word d v (view t))
      → set (counted u cores processes c) (process_at cores p process_progress) (of_way w at_send_clear)
      ≡ pack
      (put progress p (doing (clear w c q))
      (put transfers c (((channel_of (view t) c).transfers + 1) % 4294967296) (put data_word d v (view t))))
  one_more {w} at d v packs =
      let near = (at_copy at).0 in
      let words = stage_words w c q in
      let counted = transfers_written packs c near.is_channel (((channel_of (view t) c).transfers + 1) % 4294967296) in
      let had = progress_kept data_word tt d v (view t) p ∙ at.stage in
      let is : IsProcess (put data_word d v (view t)) p = still_process (view t) p d _ near.is_process in
      rw (channel_read packs c near.is_channel channel_transfers (lit< tt)) (goes_on counted p is had (doing (clear w c q)) words.copy words.clear).is_pack

  pub copy_does : (w : Way) → At t cores processes k p (copy w c q) → {u : List ℕ} → u ≡ copied w t cores p q
      → {v z : List ℕ} {r : Said} → v ≡ counted u cores processes c → r ≡ yes_with MOVED → z ≡ set v (process_at cores p process_progress) (of_way w at_send_clear)
      → Does (copy_step p w c q) t r z
  copy_does sending at e₁ e₂ reply written =
      let near = (at_copy at).0 in
      let partner = (at_copy at).1 in
      (reply, (cc (one_more at q _ (data_copied near.packs q p partner.is_process near.is_process))))
  copy_does receiving at e₁ e₂ reply written =
      let near = (at_copy at).0 in
      let partner = (at_copy at).1 in
      (reply, (cc (one_more at p _ (data_copied near.packs p q near.is_process partner.is_process))))

  -- clear
  pub clear_does : {w : Way} → At t cores processes k p (clear w c q) → {u v : List ℕ} {r : Said}
      → u ≡ set t (channel_at cores processes c channel_holder) 0 → r ≡ yes_with MOVED → v ≡ set u (process_at cores p process_progress) (of_way w at_send_wake)
      → Does (clear_step p w c q) t r v
  clear_does {w} at {u} e reply written =
      let near = (at_clear at).0 in
      let words = stage_words w c q in
      let cleared : Packs u cores processes (put channel_word c nobody (view t)) = rw e (word_written near.packs c near.is_channel nobody) in
      let waking = goes_on cleared p near.is_process at.stage (doing (wake w c q)) words.clear words.wake in
      (reply, written ∙ waking.is_pack)
