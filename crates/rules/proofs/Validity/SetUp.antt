-- The state that an accepted set-up builds is valid.
use Rattle.std.specs.Prelude.{if◌then◌else◌}
use Prim.Native.Nat.{ℕ, zero, suc, ◌+◌, ◌*◌, ◌-◌, ◌%◌, ◌≤◌, ◌<◌}
use native.Mathlib.Omega.{arith}
use native.Mathlib.Decide.{ℕ_discrete}
use native.Mathlib.Nat.{mod-lt}
use mathlib.Core.Path.{◌≡◌, refl, sym, ap}
use mathlib.Core.Bool.{Bool, true, false, ◌&&◌}
use mathlib.Core.List.{List, [], ◌∷◌, map}
use mathlib.Core.Option.{Option, none, some}
use lib.Dec.{T, eqb, eqb→eq}
use lib.ListN.{length}
use borrow.Author.Tests.{eqb-true, eqb-false}
use Rattle.rules.specs.Lists.{within, all, total, tabulate, from, bit, times}
use Rattle.rules.specs.Numbers.{Refusal, SIZE, PAIRS, ROOM, NAME, SELF}
use Rattle.rules.specs.State.{Ends, Channel, Wiring, wiring}
use Rattle.rules.specs.Items.{no_process, process_of}
use Rattle.rules.specs.Layout.{room}
use Rattle.rules.specs.SetUp.{sizes, ends_of, proper_pairs, set_up_refusal, its_batches, new_core, new_process, new_channel, set_up_state}
use Rattle.rules.specs.Soundness.{is_process, on_cores, in_queues, not_empty, valid_core, valid_channel, valid}
use Rattle.rules.proofs.Tests.{tests, and_means, tabulate_all}
use Rattle.rules.proofs.Tabulate.{length_tabulate, tabulate_at}
use Rattle.rules.proofs.Sums.{counts_once, counts_not}
use Rattle.rules.proofs.Validity.Reflect.{Valid, tested}
use Rattle.rules.proofs.Validity.Changes.{queued_in}
use Rattle.rules.proofs.Validity.Places.{GoodCore, good_core_tested}
use Rattle.rules.proofs.Validity.Channels.{GoodChannel, good_channel_tested}

-- Lists by their numbers

module _ {A : Type 0} (g : ℕ → A) where
  module _ (f : A → ℕ) where
    -- a sum of which each part is 0
    pub total_none : (a n : ℕ) → ((i : ℕ) → a ≤ i → f (g i) ≡ 0) → total f (tabulate g a n) ≡ 0
    total_none a zero h = refl
    total_none a (suc n) h = omega (arith, h a (omega arith), total_none (suc a) n (λ i low. h i (omega arith)))

    -- a sum of which each part but that at x is 0
    pub total_one : (x : ℕ) → ((i : ℕ) → (i ≡ x → ⊥) → f (g i) ≡ 0) → (a n : ℕ) → a ≤ x → x < a + n → total f (tabulate g a n) ≡ f (g x)
    total_one x h a zero low high = absurd (omega arith)
    total_one x h a (suc n) low high = at_head (ℕ_discrete a x) (total_one x h (suc a) n)
      where
        at_head : Dec (a ≡ x) → (suc a ≤ x → x < suc a + n → total f (tabulate g (suc a) n) ≡ f (g x))
            → f (g a) + total f (tabulate g (suc a) n) ≡ f (g x)
        at_head (yes e) later = omega (arith, total_none (suc a) n (λ i above. h i (λ same. omega arith)), ap (λ (i : ℕ). f (g i)) e)
        at_head (no other) later = omega (arith, h a other, later (omega arith) (omega arith))

-- The cores

module _ (k j : ℕ) where
  -- what holds of no processes and their batches on core j, and goes on holding with one process more, holds of all
  pub batches_by : (P : List ℕ → List (List ℕ) → Type 0) → P [] []
      → ((p : ℕ) (l : List ℕ) (batches : List (List ℕ)) → (p - 1) % k ≡ j → P l batches → P (p ∷ l) ((p ∷ []) ∷ batches))
      → ((p : ℕ) (l : List ℕ) (batches : List (List ℕ)) → ((p - 1) % k ≡ j → ⊥) → P l batches → P (p ∷ l) batches)
      → (l : List ℕ) → P l (its_batches k j l)
  batches_by P base own other [] = base
  batches_by P base own other (p ∷ rest) = by_test (eqb ((p - 1) % k) j) refl (batches_by P base own other rest)
    where
      by_test : (b : Bool) → eqb ((p - 1) % k) j ≡ b → P rest (its_batches k j rest)
          → P (p ∷ rest) (if b then ((p ∷ []) ∷ its_batches k j rest) else its_batches k j rest)
      by_test true e h = own p rest (its_batches k j rest) (eqb-true ((p - 1) % k) j e) h
      by_test false e h = other p rest (its_batches k j rest) (eqb-false ((p - 1) % k) j e) h

  -- the batches of core j are not empty
  batches_not_empty : (l : List ℕ) → T (all not_empty (its_batches k j l))
  batches_not_empty = batches_by (λ l batches. T (all not_empty batches)) tt (λ p l batches _ h. h) (λ p l batches _ h. h)

  -- what holds of each process holds of each of theirs
  batches_all : (f : ℕ → Bool) (l : List ℕ) → T (all f l) → T (all (all f) (its_batches k j l))
  batches_all f =
      batches_by (λ l batches. T (all f l) → T (all (all f) batches)) (λ _. tt)
      (λ p l batches _ h t. let t' = (and_means (f p) (all f l)).0 t in simp and_means ((t'.0, tt), h t'.1))
      (λ p l batches _ h t. h ((and_means (f p) (all f l)).0 t).1)

  module _ (q : ℕ) where
    -- a process whose core this is stands in them as often as in the list
    batches_own : (q - 1) % k ≡ j → (l : List ℕ) → total (times q) (its_batches k j l) ≡ times q l
    batches_own its =
        batches_by (λ l batches. total (times q) batches ≡ times q l) refl
        (λ p l batches _ h. omega arith)
        (λ p l batches other h. omega (arith, counts_not p q (λ same. other (rw (← same) its))))

    -- and another doesn't stand there
    batches_other : ((q - 1) % k ≡ j → ⊥) → (l : List ℕ) → total (times q) (its_batches k j l) ≡ 0
    batches_other other =
        batches_by (λ l batches. total (times q) batches ≡ 0) refl
        (λ p l batches own h. omega (arith, counts_not p q (λ same. other (rw same own))))
        (λ p l batches _ h. h)

-- The channels

-- a refusal isn't none
not_refused : (r : Refusal) → some r ≡ none → ⊥
not_refused r e = let z : ◌≡◌ {A = ℕ} 0 1 = cc in omega arith

-- past a test that refuses, the test holds, and what comes after it is not refused
pub past : (b : Bool) (x : Option Refusal) (r : Refusal) → (if b then x else some r) ≡ none → T b × (x ≡ none)
past true x r e = (tt, e)
past false x r e = absurd (not_refused r e)

-- past the test that refuses a pair of one name, the names differ
past_self : (b : Bool) (x : Option Refusal) → (if b then some SELF else x) ≡ none → T (if b then false else true) × (x ≡ none)
past_self true x e = absurd (not_refused SELF e)
past_self false x e = (tt, e)

-- half as many channels as names
pub ends_length : (l : List ℕ) (m : ℕ) → length l ≡ 2 * m → length (ends_of l) ≡ m
ends_length [] m h = omega arith
ends_length (x ∷ []) m h = absurd (omega arith)
ends_length (x ∷ (y ∷ rest)) zero h = absurd (omega arith)
ends_length (x ∷ (y ∷ rest)) (suc m) h = ap suc (ends_length rest m (omega arith))

-- each channel is read back with its ends
ends_kept : (l : List Ends) → map (λ (c : Channel). c.ends) (map new_channel l) ≡ l
ends_kept [] = refl
ends_kept (e ∷ rest) = ap {B = List Ends} (λ l. e ∷ l) (ends_kept rest)

-- proper pairs make good channels
channels_good : (w : Wiring) (l : List Ends) → proper_pairs w.N l ≡ none → T (all (valid_channel w) (map new_channel l))
channels_good w [] h = tt
channels_good w (e ∷ rest) h =
    let both = within 1 w.N e.writer && within 1 w.N e.reader in
    let differ = if eqb e.writer e.reader then false else true in
    let (named, after) = past both _ NAME h in
    let (apart, later) = past_self (eqb e.writer e.reader) (proper_pairs w.N rest) after in
    let g : GoodChannel w (new_channel e) = record { ends = (and_means both differ).1 (named, apart); word = tt; transfers = omega arith } in
    let its_own = good_channel_tested w (new_channel e) g in
    (and_means (valid_channel w (new_channel e)) _).1 (its_own, channels_good w rest later)

-- The state

module _ (k n : ℕ) (pairs : List ℕ) where
  -- what is fixed at set-up
  set_up_wiring : Wiring
  set_up_wiring = record { K = k; N = n; ends = ends_of pairs }

  -- is the wiring of the state
  set_up_wired : wiring (set_up_state k n pairs) ≡ set_up_wiring
  unfolding set_up_wiring
  set_up_wired = simp (length_tabulate, ends_kept)

  -- each process is new
  set_up_process : (p : ℕ) → T (within 1 n p) → process_of (set_up_state k n pairs) p ≡ new_process p
  set_up_process zero is = absurd (omega (arith, simp tests at is))
  set_up_process (suc i) is = tabulate_at new_process 1 n no_process i (omega (arith, simp tests at is))

  -- it runs nowhere
  set_up_cores : (p : ℕ) → on_cores (set_up_state k n pairs) p ≡ 0
  unfolding on_cores
  set_up_cores p = total_none (new_core k n) _ 0 k (λ i low. refl)

  -- it is queued once
  set_up_queues : (p : ℕ) → 0 < k → T (within 1 n p) → in_queues (set_up_state k n pairs) p ≡ 1
  unfolding in_queues
  set_up_queues p some_core is =
      let its_core = (p - 1) % k in
      let (low, high) = simp tests at is in
      let once = total_one (λ i. i) (λ (x : ℕ). bit (eqb x p)) p (λ i other. counts_not i p (λ e. other (sym e))) 1 n low (omega arith) in
      let elsewhere : (j : ℕ) → (j ≡ its_core → ⊥) → queued_in p (new_core k n j) ≡ 0 =
      λ j other. omega (arith, batches_other k j p (λ e. other (sym e)) (from 1 n)) in
      let there = total_one (new_core k n) (queued_in p) its_core elsewhere 0 k (omega arith) (omega (arith, mod-lt (p - 1) some_core)) in
      omega (arith, there, batches_own k its_core p refl (from 1 n), once, counts_once p)

  -- so all is valid
  set_up_good : T (sizes k n (length (ends_of pairs))) → proper_pairs n (ends_of pairs) ≡ none → Valid set_up_wiring (set_up_state k n pairs)
  unfolding set_up_wiring
  set_up_good sized proper =
      record {
        wired = set_up_wired;
        sized = sized;
        cores =
            tabulate_all (valid_core set_up_wiring) (new_core k n) 0 k
            (λ j low high. good_core_tested set_up_wiring (new_core k n j) (core_good j));
        others =
            λ p is _.
            rw (set_up_process p is, set_up_cores p, set_up_queues p (omega (arith, simp tests at sized)) is)
            (record { word = omega arith; count = omega arith; in_hand = tt; fitting = tt; standing = tt });
        channels = channels_good set_up_wiring (ends_of pairs) proper;
      }
    where
      -- each core is as it should be
      core_good : (j : ℕ) → GoodCore set_up_wiring (new_core k n j)
      core_good j =
          record {
            working = tt;
            dispatching = omega arith;
            batches = batches_not_empty k j (from 1 n);
            active = tt;
            waiting =
                batches_all k j (is_process set_up_wiring) (from 1 n)
                (tabulate_all (is_process set_up_wiring) (λ i. i) 1 n (λ p low high. simp tests (low, omega arith)));
          }

-- An accepted set-up builds a valid state.
pub set_up_valid : (k n m : ℕ) (pairs : List ℕ) (size : ℕ) → set_up_refusal k n m pairs size ≡ none → T (valid (set_up_state k n pairs))
set_up_valid k n m pairs size h =
    let (sized, after_size) = past (sizes k n m) _ SIZE h in
    let (paired, after_pairs) = past (eqb (length pairs) (2 * m)) _ PAIRS after_size in
    let (_, proper) = past (eqb size (room k n m)) _ ROOM after_pairs in
    tested (set_up_wiring k n pairs) (set_up_state k n pairs)
    (set_up_good k n pairs (rw (ends_length pairs m (eqb→eq (length pairs) (2 * m) paired)) sized) proper)
