-- The words of the state that set-up builds, before its processes stand in batches, block by block.
use Prim.Native.Nat.{ℕ, zero, suc, ◌+◌, ◌*◌, ◌-◌, ◌≤◌, ◌<◌}
use mathlib.Core.Path.{◌≡◌, refl, ap, ◌∙◌}
use mathlib.Core.List.{List, [], ◌∷◌, ◌++◌}
use native.Mathlib.Omega.{arith}
use lib.ListN.{length, get_or, replicate, get_or-map}
use Rattle.rules.specs.Lists.{total, follows, last}
use Rattle.rules.specs.State.{Core, State, queues_of}
use Rattle.rules.specs.Items.{core_of, process_of, channel_of, no_process}
use Rattle.rules.specs.Layout.{core_stride, process_stride, channel_stride, process_place, process_progress, process_spare, links_size, channel_writer, channel_reader, place_queued, due_go}
use Rattle.rules.specs.SetUp.{ends_of, new_core, new_process, new_channel}
use Rattle.rules.specs.Packing.{heads, if_head, next_link, head_link, batch_link, core_words, process_words, channel_words, progress_words, spare}
use Rattle.rules.proofs.Packing.Reading.{link_words}
use Rattle.packing.proofs.ReadLaws.{core_listed, own_words, process_split}
use Rattle.rules.proofs.Tabulate.{tabulate_at}
use Rattle.rules.proofs.Validity.SetUp.{total_none}
use Rattle.packing.proofs.Focus.{writes}
use Rattle.set_up.proofs.Batches.{batched, core_new}
use Rattle.set_up.proofs.Pairs.{ends_at}

module _ (k n : ℕ) (pairs : List ℕ) (some_core : 0 < k) where
  abbrev s : State
  s = batched k n pairs some_core 0

  -- Cores

  pub new_core_words : (j : ℕ) → j < k → core_words (core_of s j) ≡ replicate core_stride 0
  new_core_words j inside = ap core_words (core_new k n pairs some_core 0 j inside) ∙ core_listed (new_core k 0 j)

  -- Processes

  module _ (p : ℕ) where
    -- no queue has a member
    no_links : link_words s p ≡ replicate links_size 0
    unfolding next_link head_link batch_link
    no_links =
        let none : (share : Core → ℕ) → ((j : ℕ) → share (new_core k 0 j) ≡ 0) → total share s.cores ≡ 0 =
        λ share no_share. total_none (new_core k 0) share 0 k (λ j low. no_share j) in
        let e₁ = none (λ (c : Core). total (follows p) (queues_of c)) (λ j. refl) in
        let e₂ = none (λ (c : Core). total (if_head last p) c.run_queue) (λ j. refl) in
        let e₃ = none (λ (c : Core). total (if_head length p) c.run_queue) (λ j. refl) in
        let e₄ = none (λ (c : Core). follows p (heads c.run_queue)) (λ j. refl) in
        λ i. e₁ i ∷ e₂ i ∷ e₃ i ∷ e₄ i ∷ []

    is_new : (q : ℕ) → 1 ≤ q → q ≤ n → process_of s q ≡ new_process q
    is_new zero low high = absurd (omega arith)
    is_new (suc i) low high = tabulate_at new_process 1 n no_process i (omega arith)

    pub new_process_words : 1 ≤ p → p ≤ n
        → process_words s p ≡ writes ((process_place, place_queued) ∷ (process_progress, due_go) ∷ []) (λ f. f) (replicate process_stride 0)
    unfolding progress_words
    new_process_words low high =
        process_split s p ∙ (λ i. own_words (is_new p low high i) ++ (no_links i ++ spare process_stride process_spare))

  -- Channels

  pub new_channel_words : (c : ℕ) → 1 ≤ c → 2 * c ≤ length pairs
      → channel_words (channel_of s c)
      ≡ writes ((channel_writer, get_or pairs (2 * (c - 1)) 0) ∷ (channel_reader, get_or pairs (2 * (c - 1) + 1) 0) ∷ []) (λ f. f) (replicate channel_stride 0)
  unfolding channel_words
  new_channel_words zero low high = absurd (omega arith)
  new_channel_words (suc i) low high =
      let back : suc i - 1 ≡ i = omega arith in
      let its = get_or-map new_channel (ends_of pairs) i _ ∙ ap new_channel (ends_at pairs i _ (omega arith)) in
      rw back (ap channel_words its)
