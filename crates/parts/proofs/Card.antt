-- What is known of a sound table and of the process that runs on one of its cores.
use Prim.Native.Nat.{ℕ, ◌≤◌, ◌<◌, ◌^◌}
use mathlib.Core.Path.{◌≡◌, sym, ap, ◌∙◌, subst}
use mathlib.Core.List.{List}
use native.Mathlib.Omega.{arith}
use lib.Dec.{T, eqb}
use lib.ListN.{length, length-map}
use Rattle.rules.specs.State.{Way, Stage, Progress, Work, Channel, State, wiring, end_of}
use Rattle.rules.specs.Items.{core_of}
use Rattle.rules.specs.Layout.{room}
use Rattle.rules.specs.Packing.{pack, view, k_of, n_of, m_of}
use Rattle.rules.specs.Lists.{same_words, within}
use Rattle.rules.specs.Soundness.{own_end, valid_stage, valid_progress, valid_work, valid, sound}
use Rattle.rules.proofs.Packing.Blocks.{pack_holds}
use Rattle.rules.proofs.Tests.{both, within_means, same_words_means}
use Rattle.rules.proofs.Packing.Reflect.{Valid, valid_means}
use Rattle.rules.proofs.Packing.Reading.{header_of_pack}
use Rattle.packing.specs.Queues.{Queued}
use Rattle.packing.proofs.Queued.{valid_queued}
use Rattle.table.specs.Has.{HasCore, HasProcess, HasChannel}
use Rattle.parts.specs.Does.{Card, At}

module _ (t : List ℕ) (sure : T (sound t)) where
  -- the table is the packing of the state that is read out of it, which is valid
  pub packed : t ≡ pack (view t)
  unfolding sound
  packed = sym (same_words_means (pack (view t)) t (both (valid (view t)) (same_words (pack (view t)) t) sure).1)

  pub view_valid : T (valid (view t))
  unfolding sound
  view_valid = (both (valid (view t)) (same_words (pack (view t)) t) sure).0

  pub facts : Valid (view t)
  facts = valid_means (view t) view_valid

  -- the header's K, N and M, and the table's length
  pub k_is : k_of t ≡ length (view t).cores
  k_is = ap k_of packed ∙ (header_of_pack (view t)).cores

  pub n_is : n_of t ≡ length (view t).processes
  n_is = ap n_of packed ∙ (header_of_pack (view t)).processes

  pub m_is : m_of t ≡ length (view t).channels
  m_is = ap m_of packed ∙ (header_of_pack (view t)).channels

  pub length_is : length t ≡ room (length (view t).cores) (length (view t).processes) (length (view t).channels)
  length_is = ap length packed ∙ (pack_holds (view t)).size

module _ (t : List ℕ) (cores processes k : ℕ) (card : Card t cores processes k) where
  -- as many cores and processes as the state has
  pub cores_are : cores ≡ length (view t).cores
  cores_are = card.all_cores ∙ k_is t card.is_sound

  pub processes_are : processes ≡ length (view t).processes
  processes_are = card.all_processes ∙ n_is t card.is_sound

  -- the words of the core, of a process and of a channel are in the table
  pub card_core : HasCore t k
  card_core = omega (arith, cores_are, length_is t card.is_sound, card.inside)

  pub card_process : (p : ℕ) → 1 ≤ p → p ≤ length (view t).processes → HasProcess t cores p
  card_process p low high = omega (arith, cores_are, length_is t card.is_sound)

  pub card_channel : (c : ℕ) → 1 ≤ c → c ≤ length (view t).channels → HasChannel t cores processes c
  card_channel c low high = omega (arith, cores_are, processes_are, length_is t card.is_sound)

module _ {t : List ℕ} {cores processes k : ℕ} (card : Card t cores processes k) where
  -- the core is one of the state's, and the queues are in order
  pub card_inside : k < length (view t).cores
  card_inside = let e = cores_are t cores processes k card in let h = card.inside in omega arith

  pub card_order : Queued (view t)
  card_order = valid_queued (view t) (view_valid t card.is_sound)

  -- the work of the core is valid
  pub work_valid : {w : Work} → (core_of (view t) k).work ≡ w → T (valid_work (wiring (view t)) w)
  work_valid e = subst (λ (w : Work). T (valid_work (wiring (view t)) w)) e ((facts t card.is_sound).cores k card_inside).work

  -- the name of a process fits a word
  pub name_fits : {p : ℕ} → p ≤ length (view t).processes → p < 2 ^ 31
  name_fits high = let sizes = (facts t card.is_sound).sizes in omega arith

-- a channel whose end a process is
pub own_end_range : (s : State) (way : Way) (p c : ℕ) → T (own_end (wiring s) way p c) → (1 ≤ c) × (c ≤ length s.channels)
own_end_range s way p c h =
    let r = within_means 1 (length (wiring s).ends) c (both (within 1 (length (wiring s).ends) c) (eqb (end_of (wiring s) way c) p) h).0 in
    (r.0, subst (λ (m : ℕ). c ≤ m) (length-map s.channels (λ (x : Channel). x.ends)) r.1)

module _ (t : List ℕ) (cores processes k p : ℕ) (x : Stage) (at : At t cores processes k p x) where
  -- the running process is one of the state's
  pub runs_range : (1 ≤ p) × (p ≤ length (view t).processes)
  runs_range = within_means 1 (length (view t).processes) p (work_valid at.card at.runs)

  -- its stage is valid
  pub stage_valid : T (valid_stage (wiring (view t)) p x)
  stage_valid =
      let progress = ((facts t at.card.is_sound).processes p runs_range.0 runs_range.1).in_hand in
      subst (λ (y : Progress). T (valid_progress (wiring (view t)) p y)) at.stage progress

  -- its words are in the table
  pub runs_process : HasProcess t cores p
  runs_process = card_process t cores processes k at.card p runs_range.0 runs_range.1
