-- A table that fits holds the words of the state that is read out of it.
use Prim.Native.Nat.{ℕ, zero, suc, ◌-◌, ◌≤◌, ◌<◌}
use mathlib.Core.Path.{◌≡◌, refl, sym, ap, ◌∙◌, subst}
use mathlib.Core.Bool.{Bool, true, false}
use mathlib.Core.List.{List, [], ◌∷◌, ◌++◌}
use native.Mathlib.Omega.{arith}
use native.Mathlib.Nat.{zero-add}
use lib.Dec.{leb, lit<}
use lib.ListN.{length, get_or}
use borrow.Author.Tests.{leb-true, leb-false}
use Rattle.rules.specs.Layout.{header_size, core_stride, process_stride, header_spare, core_first, core_last, core_size, core_first_head, core_last_head, core_spare, process_progress, process_next, process_last, process_size, process_next_head, process_spare, progress_size, links_size}
use Rattle.rules.specs.Lists.{total, tabulate, bit, times, first, last, follows}
use Rattle.rules.specs.State.{Core, Process, Channel, queues_of, State}
use Rattle.rules.specs.Items.{core_of, process_of, no_core}
use Rattle.rules.specs.Packing.{
  heads,
  core_words,
  progress_words,
  next_link,
  head_link,
  batch_link,
  process_words,
  channel_words,
  header_words,
  k_of,
  n_of,
  m_of,
  word_of_core,
  word_of_process,
  view_core,
  view_process,
  view,
}
use Rattle.rules.specs.Soundness.{in_queues}
use Rattle.rules.proofs.Packing.Regions.{Holds}
use Rattle.rules.proofs.Packing.Blocks.{dims, words_of}
use Rattle.rules.proofs.Tabulate.{tabulate_at}
use Rattle.rules.proofs.Packing.Reflect.{Valid, valid_means}
use Rattle.rules.proofs.Sums.{positive_term}
use Rattle.rules.proofs.Packing.Chains.{next_follows, batch_follows}
use Rattle.rules.proofs.Packing.Reading.{state_words, link_words}
use Rattle.fitting.proofs.Tests.{zero_block}
use Rattle.fitting.proofs.Walks.{next_of, batch_of, batch_behind}
use Rattle.fitting.proofs.CoreWalks.{chain_first, heads_of, heads_are}
use Rattle.fitting.proofs.Views.{cores_of_view, processes_of_view, channels_of_view, core_of_view, process_of_view, channel_of_view}
use Rattle.fitting.proofs.FitsChannel.{channel_words_back}
use Rattle.fitting.proofs.Fitting.{processes_limits, Fitting}
use Rattle.fitting.proofs.Links.{
  linked_follows,
  last_from_zero,
  heads_in,
  no_next,
  no_head_link,
  no_batch_link,
  head_found,
  head_keeps,
}
use Rattle.fitting.proofs.FitsValid.{
  batch_is,
  batch_from,
  batch_fits,
  heads_below,
  standing_once,
  flat_core,
  stands_linked,
  fits_valid,
}
use Rattle.fitting.specs.Twin.{word}

-- a word of a block whose words are these
block_word : (f : ℕ → ℕ) (n i : ℕ) (l : List ℕ) → l ≡ tabulate f 0 n → i < n → f i ≡ get_or l i 0
block_word f n i l e b = sym (ap (λ (m : List ℕ). get_or m i 0) e ∙ tabulate_at f 0 n 0 i b ∙ ap f (zero-add i))

module _ (t : List ℕ) (words : (i : ℕ) → get_or t i 0 < 4294967296) (h : Fitting t) where
  -- the state that is read out
  abbrev s : State
  s = view t

  -- there is a process
  some : 1 ≤ n_of t
  some = (processes_limits t h.header).0

  -- the state is valid
  v : Valid s
  v = valid_means s (fits_valid t words h)

  -- a core of the state
  inside : (k : ℕ) → k < length s.cores → k < k_of t
  inside k b = subst (λ (n : ℕ). k < n) (cores_of_view t) b

  -- what follows p in a queue of this core is p's link
  abbrev LinkFollows : ℕ → Core → Type 0
  LinkFollows p x =
      (i : ℕ) → i < length (queues_of x) → 1 ≤ times p (get_or (queues_of x) i []) → follows p (get_or (queues_of x) i []) ≡ word_of_process t p process_next

  -- it is, on each core that fits
  queue_follows : (k : ℕ) → k < k_of t → (p : ℕ) → LinkFollows p (view_core t k)
  queue_follows k b p zero c m =
      linked_follows (next_of t) (word_of_core t k core_first) (view_core t k).active (h.cores k b).active.linked p m
  queue_follows k b p (suc i) c m =
      let l = get_or (view_core t k).run_queue i [] in
      let e : l ≡ batch_of t (first l) = batch_is t some k i (omega arith) in
      let x = batch_fits t some h.cores k i b (omega arith) in
      ap (follows p) e
      ∙ linked_follows (next_of t) (first l) (batch_of t (first l)) x.queue.linked p (omega (arith, ap (times p) e))

  module _ (p : ℕ) (l : 1 ≤ p) (b : p ≤ n_of t) where
    -- who follows it
    next_is : next_link s p ≡ word_of_process t p process_next
    unfolding in_queues
    next_is = cases (leb 1 (in_queues s p)) refl
      where
        found : 1 ≤ in_queues s p → next_link s p ≡ word_of_process t p process_next
        found m =
            let c = positive_term (λ (c : Core). total (times p) (queues_of c)) s.cores no_core m in
            let k = c.0 in
            let q = positive_term (times p) (queues_of (core_of s k)) [] c.2 in
            let d = inside k c.1 in
            next_follows s v k c.1 q.0 q.1 p q.2
            ∙ subst (LinkFollows p) (sym (core_of_view t k d)) (queue_follows k d p) q.0 q.1 q.2

        cases : (y : Bool) → leb 1 (in_queues s p) ≡ y → next_link s p ≡ word_of_process t p process_next
        cases true e = found (leb-true 1 (in_queues s p) e)
        cases false e =
            let none : in_queues s p ≡ 0 = omega (arith, leb-false 1 (in_queues s p) e) in
            no_next s p none ∙ sym ((stands_linked t words h p l b).1.next none)

    -- what a batch's head keeps
    abbrev HeadWords : Type 0
    HeadWords =
        (head_link last s p ≡ word_of_process t p process_last) × (head_link length s p ≡ word_of_process t p process_size) × (batch_link s p ≡ word_of_process t p process_next_head)

    -- of a process that heads a batch
    heads_found : 1 ≤ heads_in s p → HeadWords
    unfolding heads_in
    heads_found m =
        let c = positive_term (λ (c : Core). times p (heads c.run_queue)) s.cores no_core m in
        let k = c.0 in
        let d = inside k c.1 in
        let core : core_of s k ≡ view_core t k = core_of_view t k d in
        let batches = (core_of s k).run_queue in
        let q = head_found batches p c.2 in
        let i = q.0 in
        let one : heads_in s p ≤ 1 = omega (arith, heads_below t some h.cores p, standing_once t words h p) in
        let batch : get_or batches i [] ≡ batch_of t p = batch_from t some k d i q.1 p q.2 in
        let keeps : (f : List ℕ → ℕ) → head_link f s p ≡ f (batch_of t p) =
        λ f. head_keeps s p f one k c.1 i q.1 q.2 ∙ ap f batch in
        let all_heads : heads batches ≡ heads_of t k = ap (λ (x : Core). heads x.run_queue) core ∙ heads_are t some k in
        let stands : 1 ≤ times p (heads_of t k) = omega (arith, c.2, ap (times p) all_heads) in
        let x = (h.cores k d).batches in
        let queue = (x.each p stands).queue in (
          keeps last ∙ sym (last_from_zero (batch_of t p)) ∙ sym queue.last_is,
          keeps length ∙ sym (zero-add (length (batch_of t p))) ∙ sym queue.size_is ∙ ap (word t) (omega arith),
          batch_follows s v k c.1 p c.2 ∙ ap (follows p) all_heads
              ∙ linked_follows (batch_behind t) (word_of_core t k core_first_head) (heads_of t k) x.linked p stands,
        )

    -- of one that heads none
    heads_none : heads_in s p ≡ 0 → HeadWords
    heads_none e =
        let z = (stands_linked t words h p l b).1.batch e in (
          no_head_link s p last e ∙ sym (z 0 (lit< tt)) ∙ ap (word t) (omega arith),
          no_head_link s p length e ∙ sym (z 1 (lit< tt)) ∙ ap (word t) (omega arith),
          no_batch_link s p e ∙ sym (z 2 (lit< tt)) ∙ ap (word t) (omega arith),
        )

    -- the link words of a process
    links_are : link_words s p ≡ tabulate (word_of_process t p) process_next links_size
    links_are = cases (leb 1 (heads_in s p)) refl
      where
        all_of : HeadWords → link_words s p ≡ tabulate (word_of_process t p) process_next links_size
        all_of x = cc (next_is, x.0, x.1, x.2)

        cases : (y : Bool) → leb 1 (heads_in s p) ≡ y → link_words s p ≡ tabulate (word_of_process t p) process_next links_size
        cases true e = all_of (heads_found (leb-true 1 (heads_in s p) e))
        cases false e = all_of (heads_none (omega (arith, leb-false 1 (heads_in s p) e)))

    -- the words of a process
    process_is : process_words s p ≡ tabulate (word_of_process t p) 0 process_stride
    unfolding process_words
    process_is =
        let r : process_of s p ≡ view_process t p = process_of_view t p l b in
        let state : state_words (process_of s p) ≡ tabulate (word_of_process t p) 0 process_progress = ap state_words r ∙ (h.processes p l b).state in
        let progress : progress_words (process_of s p).progress ≡ tabulate (word_of_process t p) process_progress progress_size =
        ap (λ (x : Process). progress_words x.progress) r ∙ (h.processes p l b).words in
        let unused = zero_block (word_of_process t p) process_spare (process_stride - process_spare) (λ f c. ap (word t) (omega arith) ∙ (h.processes p l b).unused f c) in
        λ i. state i ++ (progress i ++ (links_are i ++ unused i))

  -- the words of a core
  core_is : (k : ℕ) → k < k_of t → core_words (view_core t k) ≡ tabulate (word_of_core t k) 0 core_stride
  unfolding core_words view_core
  core_is k b =
      let w = word_of_core t k in
      let c = view_core t k in
      let flat = flat_core t words h k b in
      let fits = h.cores k b in
      let link = next_of t in
      let all_heads : heads c.run_queue ≡ heads_of t k = heads_are t some k in
      let first_active : first c.active ≡ w core_first = chain_first link (n_of t) (w core_first) some in
      let last_active : last c.active ≡ w core_last = sym (last_from_zero c.active) ∙ sym fits.active.last_is in
      let size_active : length c.active ≡ w core_size =
      sym (zero-add (length c.active)) ∙ sym fits.active.size_is ∙ ap (word t) (omega arith) in
      let first_head : first (heads c.run_queue) ≡ w core_first_head = ap first all_heads ∙ chain_first (batch_behind t) (n_of t) (w core_first_head) some in
      let last_head : last (heads c.run_queue) ≡ w core_last_head =
      ap last all_heads ∙ sym (last_from_zero (heads_of t k)) ∙ sym fits.batches.last_is in
      let queues : first c.active ∷ last c.active ∷ length c.active ∷ c.dispatch ∷ bit c.mark ∷ first (heads c.run_queue)
      ∷ last (heads c.run_queue) ∷ [] ≡ tabulate w core_first (core_spare - core_first) =
      cc (first_active, last_active, size_active, flat.mark, first_head, last_head) in
      let unused = zero_block w core_spare (core_stride - core_spare) (λ f b. ap (word t) (omega arith) ∙ flat.unused f b) in
      λ i. flat.work.1 i ++ (queues i ++ unused i)

  -- the header's words
  header_is : header_words s ≡ tabulate (word t) 0 header_size
  unfolding header_words
  header_is =
      let sizes : length s.cores ∷ length s.processes ∷ length s.channels ∷ [] ≡ tabulate (word t) 0 header_spare =
      cc (cores_of_view t, processes_of_view t, channels_of_view t) in
      let unused = zero_block (word t) header_spare (header_size - header_spare) h.header.unused in
      λ i. sizes i ++ unused i

  -- The table holds the words of the state.
  pub fits_holds : Holds (dims s) (words_of s) t
  fits_holds =
      record {
        size = rw (cores_of_view, processes_of_view, channels_of_view) h.header.length;
        header = λ f b. block_word (word t) header_size f (header_words s) header_is b;
        core = λ k f b c.
            let d = inside k b in
            block_word (word_of_core t k) core_stride f (core_words (core_of s k)) (ap core_words (core_of_view t k d) ∙ core_is k d) c;
        process = λ p f l b c.
            let d : p ≤ n_of t = subst (λ (n : ℕ). p ≤ n) (processes_of_view t) b in
            rw cores_of_view (block_word (word_of_process t p) process_stride f (process_words s p) (process_is p l d) c);
        channel = λ c f l b d.
            let e : c ≤ m_of t = subst (λ (n : ℕ). c ≤ n) (channels_of_view t) b in
            rw (cores_of_view, processes_of_view)
            (sym (ap (λ (x : Channel). get_or (channel_words x) f 0) (channel_of_view t c l e) ∙ channel_words_back t c f d));
      }
