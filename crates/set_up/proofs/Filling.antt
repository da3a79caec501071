-- A table of zeros that is filled in block by block becomes the packing of the state that set-up builds.
use Rattle.std.specs.Prelude.{if◌then◌else◌}
use Prim.Native.Nat.{ℕ, zero, suc, ◌+◌, ◌*◌, ◌-◌, ◌≤◌, ◌<◌}
use mathlib.Core.Path.{◌≡◌, refl, sym, ap, ◌∙◌, subst}
use mathlib.Core.Bool.{Bool, true, false}
use mathlib.Core.List.{List, [], ◌∷◌, ◌++◌}
use native.Mathlib.Omega.{arith}
use lib.Dec.{T, ltb}
use lib.ListN.{length, get_or, set, replicate, length-replicate, replicate-append-replicate, length-append, length-map}
use borrow.Author.Tests.{lt-ltb, le-ltb, ltb-true, ltb-false}
use Rattle.rules.specs.State.{State}
use Rattle.rules.specs.Items.{channel_of, Region, processes, channels}
use Rattle.rules.specs.Layout.{header_size, core_stride, core_at, process_at, channel_at, room, header_cores, header_processes, header_channels, header_spare, process_place, process_progress, channel_writer, channel_reader, place_queued, due_go}
use Rattle.rules.specs.SetUp.{ends_of, new_core, new_process, new_channel, set_up_state}
use Rattle.rules.specs.Packing.{spare, header_words, process_words, channel_words, pack}
use Rattle.rules.proofs.Tests.{here_or_there}
use Rattle.rules.proofs.Packing.Regions.{Dims, Words, Holds, Same, held_once}
use Rattle.rules.proofs.Packing.Blocks.{dims, words_of, pack_holds, first_part, second_part}
use Rattle.packing.proofs.Focus.{size_in, Has, address, words_in, focus, block, focus_start, focus_writes, holds_same, writes, below}
use Rattle.rules.proofs.Tabulate.{length_tabulate}
use Rattle.rules.proofs.Validity.SetUp.{ends_length}
use Rattle.parts.proofs.Packs.{Packs}
use Rattle.set_up.specs.Filled.{in_turn, header_filled, process_filled, channel_filled, in_batches, CanStandAlone, Ready}
use Rattle.set_up.proofs.Batches.{batched, can_stand, all_stand}
use Rattle.set_up.proofs.NewState.{new_core_words, new_process_words, new_channel_words}

-- Zeros

abbrev zeros : ℕ → List ℕ
zeros n = replicate n 0

-- each is 0
zeros_at : (n i : ℕ) → get_or (zeros n) i 0 ≡ 0
zeros_at zero i = refl
zeros_at (suc n) zero = refl
zeros_at (suc n) (suc i) = zeros_at n i

-- Words that are filled in up to the block i

-- the words W before block i, and zeros from there on
abbrev before : ℕ → (ℕ → ℕ → ℕ) → ℕ → ℕ → ℕ
before i W j f = if ltb j i then W j f else 0

-- all words up to the end
all_before : (i : ℕ) (W : ℕ → ℕ → ℕ) (j f : ℕ) → j < i → before i W j f ≡ W j f
all_before i W j f h = rw (lt-ltb j i h)

-- none from there on
none_from : (i : ℕ) (W : ℕ → ℕ → ℕ) (j f : ℕ) → i ≤ j → before i W j f ≡ 0
none_from i W j f h = rw (le-ltb j i h)

-- another block than i is before the next one if it is before i
same_side : (i j : ℕ) → (j ≡ i → ⊥) → ltb j i ≡ ltb j (suc i)
same_side i j ne = cases (ltb j i) refl
  where
    cases : (b : Bool) → ltb j i ≡ b → b ≡ ltb j (suc i)
    cases true q = sym (lt-ltb j (suc i) (omega (arith, ltb-true j i q)))
    cases false q = sym (le-ltb j (suc i) (omega (arith, ltb-false j i q)))

-- with block i they go up to the next
one_more : (i : ℕ) (l : List ℕ) (W : ℕ → ℕ → ℕ) (j f : ℕ) → get_or l f 0 ≡ W i f → block i l (before i W) j f ≡ before (suc i) W j f
one_more i l W j f e =
    here_or_there i j (get_or l f 0) (before i W j f) (λ x. before (suc i) W x f)
    (λ here. e ∙ sym (all_before (suc i) W i f (omega arith)))
    (λ other. ap (λ (b : Bool). if b then W j f else 0) (same_side i j other))

-- what a table holds after writes into a block of zeros
fills : (r : Region) (d : Dims) (w v : Words) (j : ℕ) (ws : List (ℕ × ℕ)) (l t : List ℕ) → Has d r j → T (below (size_in r) (λ f. f) ws)
    → ((f : ℕ) → words_in r w j f ≡ 0) → writes ws (λ f. f) (zeros (size_in r)) ≡ l → Same d (focus r j l w) v
    → Holds d w t → Holds d v (writes ws (address d r j) t)
fills r d w v j ws l t has inside none e same held =
    holds_same d (focus r j l w) v _ same
    (subst (λ (m : List ℕ). Holds d (focus r j m w) (writes ws (address d r j) t)) e
    (focus_writes r d w j (λ f. f) ws (zeros (size_in r)) t has (length-replicate (size_in r) 0) inside
    (focus_start r d w j (zeros (size_in r)) t (λ f. none f ∙ sym (zeros_at (size_in r) f)) held)))

-- what a table holds after writes that are made number by number
in_turn_holds : (d : Dims) (W : ℕ → Words) (f : ℕ → List ℕ → List ℕ) (a n : ℕ) (t : List ℕ)
    → ((i : ℕ) → a ≤ i → i < a + n → (u : List ℕ) → Holds d (W i) u → Holds d (W (suc i)) (f i u))
    → Holds d (W a) t → Holds d (W (a + n)) (in_turn f a n t)
in_turn_holds d W f a zero t step h = let e : a ≡ a + 0 = omega arith in subst (λ (i : ℕ). Holds d (W i) t) e h
in_turn_holds d W f a (suc n) t step h =
    let e : suc a + n ≡ a + suc n = omega arith in
    subst (λ (i : ℕ). Holds d (W i) (in_turn f (suc a) n (f a t))) e
    (in_turn_holds d W f (suc a) n (f a t) (λ i low high. step i (omega arith) (omega arith)) (step a (omega arith) (omega arith) t h))

module _ (k n m : ℕ) (pairs : List ℕ) (some_core : 0 < k) (paired : length pairs ≡ 2 * m) where
  -- the state before its processes stand in batches
  abbrev s : State
  s = batched k n pairs some_core 0

  abbrev d : Dims
  d = record { K = k; N = n; M = m }

  dims_of : dims s ≡ d
  dims_of = λ i. record {
    K = length_tabulate (new_core k 0) 0 k i;
    N = length_tabulate new_process 1 n i;
    M = (length-map (ends_of pairs) new_channel ∙ ends_length pairs m paired) i;
  }

  -- the words of the state, up to process p and channel c
  abbrev stage : ℕ → ℕ → Words
  stage p c =
      record {
        header = (words_of s).header;
        core = (words_of s).core;
        process = before p (words_of s).process;
        channel = before c (words_of s).channel;
      }

  -- one process, one channel more is filled in
  process_step : (c p : ℕ) → 1 ≤ p → p < 1 + n → (t : List ℕ) → Holds d (stage p c) t → Holds d (stage (suc p) c) (process_filled k p t)
  process_step c p low high t h =
      fills processes d (stage p c) (stage (suc p) c) p ((process_place, place_queued) ∷ (process_progress, due_go) ∷ [])
      (process_words s p) t (omega arith) tt (λ f. none_from p (words_of s).process p f (omega arith))
      (sym (new_process_words k n pairs some_core p low (omega arith)))
      (record {
        header = λ f b. refl;
        core = λ i f b b'. refl;
        process = λ i f low b b'. one_more p (process_words s p) (words_of s).process i f refl;
        channel = λ i f low b b'. refl;
      })
      h

  channel_step : (p c : ℕ) → 1 ≤ c → c < 1 + m → (t : List ℕ) → Holds d (stage p c) t → Holds d (stage p (suc c)) (channel_filled k n pairs c t)
  channel_step p c low high t h =
      fills channels d (stage p c) (stage p (suc c)) c
      ((channel_writer, get_or pairs (2 * (c - 1)) 0) ∷ (channel_reader, get_or pairs (2 * (c - 1) + 1) 0) ∷ [])
      (channel_words (channel_of s c)) t (omega arith) tt (λ f. none_from c (words_of s).channel c f (omega arith))
      (sym (new_channel_words k n pairs some_core c low (omega arith)))
      (record {
        header = λ f b. refl;
        core = λ i f b b'. refl;
        process = λ i f low b b'. refl;
        channel = λ i f low b b'. one_more c (channel_words (channel_of s c)) (words_of s).channel i f refl;
      })
      h

  -- the table before: a header, then zeros
  abbrev bare : List ℕ
  bare = set (set (set (zeros (room k n m)) header_cores k) header_processes n) header_channels m

  abbrev tail : List ℕ
  tail = zeros (room k n m - header_size)

  bare_split : bare ≡ header_words s ++ tail
  unfolding header_words
  bare_split =
      let sum : room k n m ≡ header_size + (room k n m - header_size) = omega arith in
      ap (λ (l : List ℕ). set (set (set l header_cores k) header_processes n) header_channels m) {y = zeros header_size ++ tail}
      (ap zeros sum ∙ sym (replicate-append-replicate header_size (room k n m - header_size) 0))
      ∙ ap (λ (e : Dims). e.K ∷ e.N ∷ e.M ∷ spare header_size header_spare ++ tail) (sym dims_of)

  -- behind the header stand zeros
  bare_zeros : (a : ℕ) → header_size ≤ a → get_or (header_words s ++ tail) a 0 ≡ 0
  unfolding header_words
  bare_zeros a h =
      let e : a ≡ header_size + (a - header_size) = omega arith in
      ap (λ (i : ℕ). get_or (header_words s ++ tail) i 0) e
      ∙ second_part (header_words s) tail header_size (a - header_size) refl
      ∙ zeros_at (room k n m - header_size) (a - header_size)

  bare_holds : Holds d (stage 1 1) bare
  unfolding header_words
  bare_holds =
      rw bare_split
      (record {
        size = length-append (header_words s) tail ∙ omega (arith, length-replicate {A = ℕ} (room k n m - header_size) 0);
        header = λ f b. first_part (header_words s) tail header_size f refl b;
        core = λ i f b b'. bare_zeros (core_at i f) (omega arith) ∙ sym (ap (λ (l : List ℕ). get_or l f 0) (new_core_words k n pairs some_core i b) ∙ zeros_at core_stride f);
        process = λ i f low b b'. bare_zeros (process_at k i f) (omega arith) ∙ sym (none_from 1 (words_of s).process i f low);
        channel = λ i f low b b'. bare_zeros (channel_at k n i f) (omega arith) ∙ sym (none_from 1 (words_of s).channel i f low);
      })

  abbrev filled : List ℕ
  filled = in_turn (channel_filled k n pairs) 1 m (in_turn (process_filled k) 1 n bare)

  -- all are filled in
  filled_holds : Holds d (stage (1 + n) (1 + m)) filled
  filled_holds =
      in_turn_holds d (λ c. stage (1 + n) c) (channel_filled k n pairs) 1 m _ (channel_step (1 + n))
      (in_turn_holds d (λ p. stage p 1) (process_filled k) 1 n bare (process_step 1) bare_holds)

  filled_packs : filled ≡ pack s
  filled_packs =
      held_once d (stage (1 + n) (1 + m)) (words_of s) filled (pack s) filled_holds
      (subst (λ (e : Dims). Holds e (words_of s) (pack s)) dims_of (pack_holds s))
      (record {
        header = λ f b. refl;
        core = λ i f b b'. refl;
        process = λ i f low b b'. all_before (1 + n) (words_of s).process i f (omega arith);
        channel = λ i f low b b'. all_before (1 + m) (words_of s).channel i f (omega arith);
      })

module _ (k n m : ℕ) (pairs t : List ℕ) (ready : Ready k n m (length pairs) (length t)) where
  -- what is filled in over zeros in any table of the right size packs the state in which no process stands in a batch
  abbrev pub written : List ℕ
  written = in_turn (channel_filled k n pairs) 1 m (in_turn (process_filled k) 1 n (header_filled k n m t))

  written_packs : Packs written k n (batched k n pairs ready.core 0)
  written_packs =
      record {
        is_pack = rw ready.table (filled_packs k n m pairs ready.core ready.pairs);
        all_cores = sym (length_tabulate (new_core k 0) 0 k);
        all_processes = sym (length_tabulate new_process 1 n);
      }

  -- so each process can come to stand in one, and then it packs the state that set-up builds
  pub queues_fit : (i : ℕ) → i < n → CanStandAlone (in_batches k i written) k (suc i)
  queues_fit = can_stand k n pairs ready.core ready.processes written written_packs

  pub set_up_packs : in_batches k n written ≡ pack (set_up_state k n pairs)
  set_up_packs = all_stand k n pairs ready.core ready.processes written written_packs
