-- The words of a packing that mean nothing are 0.
use Prim.Native.Nat.{ℕ, zero, suc, ◌+◌, ◌-◌, ◌≤◌, ◌<◌}
use mathlib.Core.Path.{◌≡◌, refl, ap, ◌∙◌}
use mathlib.Core.List.{List, [], ◌∷◌, ◌++◌}
use mathlib.Core.Option.{Option, none}
use native.Mathlib.Omega.{arith}
use lib.Dec.{T, eqb, lit<}
use lib.ListN.{length, get_or, take}
use Rattle.rules.specs.Lists.{total, from, member, first, last, follows}
use Rattle.rules.specs.State.{Progress, Core, queues_of, State, wiring}
use Rattle.rules.specs.Items.{core_of, process_of}
use Rattle.rules.specs.Layout.{header_size, core_stride, header_spare, core_task, core_task_process, core_first, core_last, core_size, core_first_head, core_last_head, core_spare, process_progress, process_channel, process_partner, process_guards, process_index, process_first_ready, process_first_guard, process_next, process_last, process_size, process_next_head, process_spare, guard_places}
use Rattle.rules.specs.Packing.{Carried, bare, channel_only, channel_partner, guards_only, guards_index, guards_index_ready, guards_ready, packed_as, carried_words, work_words, heads, padded, ready_number, of_channel, of_choice, progress_words, next_link, if_head, head_link, batch_link, header_words, pack, word_of_core, word_of_process}
use Rattle.rules.specs.UsedWords.{guards_used, used_by, used_words}
use Rattle.rules.specs.Soundness.{is_process, in_queues}
use Rattle.rules.specs.Claims.{UnusedOfCore, batches_headed, UnusedOfProcess, UnusedWordsZero}
use Rattle.rules.proofs.Tests.{or_left, or_right, eqb_means, within_means}
use Rattle.rules.proofs.Sums.{total_zero}
use Rattle.rules.proofs.QueueLists.{follows_none, no_next, heads_none}
use Rattle.rules.proofs.Packing.Blocks.{pack_holds}
use Rattle.rules.proofs.Packing.Reading.{queue_words, work_word, queue_word, progress_word, link_word, spare_word}

-- zeros are read where nothing but zeros stands
zeros : (n i : ℕ) → get_or (padded n []) i 0 ≡ 0
zeros zero i = refl
zeros (suc n) zero = refl
zeros (suc n) (suc i) = zeros n i

-- and behind a list that only zeros follow
behind : (l : List ℕ) (n i : ℕ) → length l ≤ i → get_or (l ++ padded n []) i 0 ≡ 0
behind [] n i b = zeros n i
behind (x ∷ l) n zero b = absurd (omega arith)
behind (x ∷ l) n (suc i) b = behind l n i (omega arith)

-- A core: the words that mean nothing where nothing runs or waits, and what is left of its record

unused_of_core : (s : State) (k : ℕ) → k < length s.cores → UnusedOfCore (core_of s k) (word_of_core (pack s) k)
unused_of_core s k b =
    let c = core_of s k in
    let work = work_word s k b in
    let queues = queue_word s k b in
    record {
      spare = λ f low high.
          let e : core_first + (f - core_first) ≡ f = omega arith in
          rw (← e) (queues (f - core_first) (omega arith)
          ∙ behind (take (core_spare - core_first) (queue_words c)) (core_stride - core_spare) (f - core_first) (omega arith));
      task = λ p e. (
        work core_task (lit< tt) ∙ ap (λ w. get_or (work_words w) core_task 0) e,
        work core_task_process (lit< tt) ∙ ap (λ w. get_or (work_words w) core_task_process 0) e,
      );
      task_process = λ e. work core_task_process (lit< tt) ∙ ap (λ w. get_or (work_words w) core_task_process 0) e;
      active = λ e. (
        queues 0 (lit< tt) ∙ ap first e,
        queues (core_last - core_first) (lit< tt) ∙ ap last e,
        queues (core_size - core_first) (lit< tt) ∙ ap length e,
      );
      run_queue = λ e. (
        queues (core_first_head - core_first) (lit< tt) ∙ ap (λ l. first (heads l)) e,
        queues (core_last_head - core_first) (lit< tt) ∙ ap (λ l. last (heads l)) e,
      );
    }

-- A progress: its words have one of two shapes

-- a word with the value v is 0, if it isn't used
abbrev ZeroUnless : List ℕ → ℕ → ℕ → Type 0
ZeroUnless used f v = (T (member f used) → ⊥) → v ≡ 0

-- each word behind the progress's number is
abbrev Unused : List ℕ → List ℕ → Type 0
Unused used l = (i : ℕ) → 1 ≤ i → ZeroUnless used (process_progress + i) (get_or l i 0)

-- with a channel and a partner
channel_unused : (used : List ℕ) (number c q : ℕ) → ZeroUnless used process_channel c → ZeroUnless used process_partner q
    → Unused used (of_channel number c q)
channel_unused used number c q channel partner zero l h = absurd (omega arith)
channel_unused used number c q channel partner (suc zero) l h = channel h
channel_unused used number c q channel partner (suc (suc zero)) l h = partner h
channel_unused used number c q channel partner (suc (suc (suc i))) l h = zeros (process_next - process_guards) i

-- a guard's word, of those from a on, behind as many as there are guards
guard_unused : (a n : ℕ) (gs : List ℕ) (i : ℕ) → ZeroUnless (from a (length gs)) (a + i) (get_or (padded n gs) i 0)
guard_unused a zero gs i h = refl
guard_unused a (suc n) [] i h = zeros (suc n) i
guard_unused a (suc n) (g ∷ gs) zero h = absurd (h (or_left (eqb a (a + 0)) _ ((eqb_means a (a + 0)).1 (omega arith))))
guard_unused a (suc n) (g ∷ gs) (suc i) h =
    let e : suc a + i ≡ a + suc i = omega arith in guard_unused (suc a) n gs i (λ m. h (or_right (eqb a (a + suc i)) _ (rw e at m)))

-- what stands in a list stands there behind others
member_behind : (n : ℕ) (more l : List ℕ) → T (member n l) → T (member n (more ++ l))
member_behind n [] l m = m
member_behind n (x ∷ more) l m = or_right (eqb x n) _ (member_behind n more l m)

-- with guards, a guard index and a first ready guard
choice_unused : (more : List ℕ) (number : ℕ) (gs : List ℕ) (i : ℕ) (r : Option ℕ) → let used = more ++ guards_used gs in
    ZeroUnless used process_index i → ZeroUnless used process_first_ready (ready_number r) → Unused used (of_choice number gs i r)
choice_unused more number gs i r index ready zero l h = absurd (omega arith)
choice_unused more number gs i r index ready (suc zero) l h = refl
choice_unused more number gs i r index ready (suc (suc zero)) l h = refl
choice_unused more number gs i r index ready (suc (suc (suc zero))) l h = absurd (h (member_behind process_guards more (guards_used gs) tt))
choice_unused more number gs i r index ready (suc (suc (suc (suc zero)))) l h = index h
choice_unused more number gs i r index ready (suc (suc (suc (suc (suc zero))))) l h = ready h
choice_unused more number gs i r index ready (suc (suc (suc (suc (suc (suc j)))))) l h =
    let f : ℕ = process_progress + suc (suc (suc (suc (suc (suc j))))) in
    let e : process_first_guard + j ≡ f = omega arith in
    guard_unused process_first_guard guard_places gs j (λ m. h (member_behind f more (guards_used gs) (or_right (eqb process_guards f) _ (rw e at m))))

-- by what it carries
carried_unused : (number : ℕ) (x : Carried) → Unused (used_by x) (carried_words number x)
carried_unused number bare = channel_unused [] number 0 0 (λ h. refl) (λ h. refl)
carried_unused number (channel_only c) = channel_unused (process_channel ∷ []) number c 0 (λ h. absurd (h tt)) (λ h. refl)
carried_unused number (channel_partner c q) =
    channel_unused (process_channel ∷ process_partner ∷ []) number c q (λ h. absurd (h tt)) (λ h. absurd (h tt))
carried_unused number (guards_only gs) = choice_unused [] number gs 0 none (λ h. refl) (λ h. refl)
carried_unused number (guards_index gs i) = choice_unused (process_index ∷ []) number gs i none (λ h. absurd (h tt)) (λ h. refl)
carried_unused number (guards_index_ready gs i r) =
    choice_unused (process_index ∷ process_first_ready ∷ []) number gs i r (λ h. absurd (h tt)) (λ h. absurd (h tt))
carried_unused number (guards_ready gs r) = choice_unused (process_first_ready ∷ []) number gs 0 r (λ h. refl) (λ h. absurd (h tt))

progress_unused : (x : Progress) → Unused (used_words x) (progress_words x)
unfolding progress_words
progress_unused x = carried_unused (packed_as x).0 (packed_as x).1

-- A process

module _ (s : State) (p : ℕ) where
  -- one that stands in no queue has no next
  next_unused : in_queues s p ≡ 0 → next_link s p ≡ 0
  unfolding next_link in_queues
  next_unused = total_zero _ (λ (c : Core). total (follows p) (queues_of c)) (λ c. no_next p (queues_of c)) s.cores

  -- one that heads no batch keeps no number of one
  head_unused : (f : List ℕ → ℕ) → batches_headed s p ≡ 0 → head_link f s p ≡ 0
  unfolding head_link
  head_unused f = total_zero _ (λ (c : Core). total (if_head f p) c.run_queue) (λ c. heads_none f p c.run_queue) s.cores

  -- and no next head
  next_head_unused : batches_headed s p ≡ 0 → batch_link s p ≡ 0
  unfolding batch_link
  next_head_unused = total_zero _ (λ (c : Core). follows p (heads c.run_queue)) (λ c. follows_none p (heads c.run_queue)) s.cores

unused_of_process : (s : State) (p : ℕ) → T (is_process (wiring s) p) → UnusedOfProcess s p (word_of_process (pack s) p)
unused_of_process s p there =
    let (low, high) = within_means 1 (length s.processes) p there in
    let link = link_word s p low high in
    record {
      in_hand = λ f from to h.
          let e : process_progress + (f - process_progress) ≡ f = omega arith in
          rw (← e) (progress_word s p low high (f - process_progress) (omega arith)
          ∙ progress_unused (process_of s p).progress (f - process_progress) (omega arith) (rw e h));
      next = λ e. link 0 (lit< tt) ∙ next_unused s p e;
      batch = λ e. (
        link (process_last - process_next) (lit< tt) ∙ head_unused s p _ e,
        link (process_size - process_next) (lit< tt) ∙ head_unused s p _ e,
        link (process_next_head - process_next) (lit< tt) ∙ next_head_unused s p e,
      );
      spare = λ f from to.
          let e : process_spare + (f - process_spare) ≡ f = omega arith in rw (← e) (spare_word s p low high (f - process_spare) (omega arith));
    }

-- Words that mean nothing are 0.
pub unused_words_zero : UnusedWordsZero
unfolding header_words
unused_words_zero = record {
  header = λ s f low high. (pack_holds s).header f high ∙ behind (take header_spare (header_words s)) (header_size - header_spare) f low;
  cores = unused_of_core;
  processes = unused_of_process;
}
