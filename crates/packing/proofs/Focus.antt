-- What a table holds after a word is written; and where its words are known but for one block in focus, a list, after words of that block
-- are written.
use Rattle.std.specs.Prelude.{if◌then◌else◌}
use Prim.Native.Nat.{ℕ, suc, ◌+◌, ◌≤◌, ◌<◌}
use mathlib.Core.Path.{◌≡◌, refl, sym, ap, ◌∙◌}
use mathlib.Core.Bool.{Bool, true, false}
use mathlib.Core.List.{List, [], ◌∷◌, ◌++◌}
use native.Mathlib.Omega.{arith}
use native.Mathlib.Nat.{zero-add}
use lib.Dec.{T, eqb, ltb, ltb→lt}
use lib.ListN.{length, get_or, set, length-set, length-append}
use lib.Seq.{get_or-set_same, get_or-set_other, set-append_left}
use borrow.Author.Tests.{eqb-true, eqb-false, lt-ltb, ne_eqb}
use Rattle.rules.specs.Lists.{all}
use Rattle.rules.specs.Items.{Region, cores, processes, channels}
use Rattle.rules.specs.Layout.{core_stride, process_stride, channel_stride, core_at, process_at, channel_at, room}
use Rattle.rules.proofs.Tests.{same_test, apart, here_or_there, both}
use Rattle.rules.proofs.Packing.Regions.{Dims, Words, Holds, Same}

-- One write

-- w, but v at the address a
abbrev pub written : Dims → ℕ → ℕ → Words → Words
written d a v w =
    record {
      header = λ f. if eqb f a then v else w.header f;
      core = λ k f. if eqb (core_at k f) a then v else w.core k f;
      process = λ p f. if eqb (process_at d.K p f) a then v else w.process p f;
      channel = λ c f. if eqb (channel_at d.K d.N c f) a then v else w.channel c f;
    }

-- one word of a list after another was written
get_or_set : (t : List ℕ) (a v i x : ℕ) → a < length t → get_or t i 0 ≡ x → get_or (set t a v) i 0 ≡ (if eqb i a then v else x)
get_or_set t a v i x inside e = cases (eqb i a) refl
  where
    cases : (b : Bool) → eqb i a ≡ b → get_or (set t a v) i 0 ≡ (if b then v else x)
    cases true q = ap (λ (j : ℕ). get_or (set t a v) j 0) (eqb-true i a q) ∙ get_or-set_same t a v 0 inside
    cases false q = get_or-set_other t a i v 0 (eqb-false i a q) ∙ e

-- What a table holds after one word is written.
pub holds_set : (d : Dims) (w : Words) (t : List ℕ) (a v : ℕ) → Holds d w t → a < length t → Holds d (written d a v w) (set t a v)
holds_set d w t a v h inside =
    record {
      size = length-set t a v ∙ h.size;
      header = λ f b. get_or_set t a v f (w.header f) inside (h.header f b);
      core = λ k f b b'. get_or_set t a v (core_at k f) (w.core k f) inside (h.core k f b b');
      process = λ p f l b b'. get_or_set t a v (process_at d.K p f) (w.process p f) inside (h.process p f l b b');
      channel = λ c f l b b'. get_or_set t a v (channel_at d.K d.N c f) (w.channel c f) inside (h.channel c f l b b');
    }

-- Several writes

-- the values of ws are written one after the other, each at the address of its place
abbrev pub writes : List (ℕ × ℕ) → (ℕ → ℕ) → List ℕ → List ℕ
writes [] at t = t
writes (w ∷ ws) at t = writes ws at (set t (at w.0) w.1)

-- each place has its address below n
abbrev pub below : ℕ → (ℕ → ℕ) → List (ℕ × ℕ) → Bool
below n at ws = all (λ (w : ℕ × ℕ). ltb (at w.0) n) ws

-- writes keep a list's length
pub length_writes : (ws : List (ℕ × ℕ)) (at : ℕ → ℕ) (l : List ℕ) → length (writes ws at l) ≡ length l
length_writes [] at l = refl
length_writes (w ∷ ws) at l = length_writes ws at (set l (at w.0) w.1) ∙ length-set l (at w.0) w.1

-- places below n are, further on by m, below whatever is no less than m + n
pub below_shifted : (ws : List (ℕ × ℕ)) (m n o : ℕ) → m + n ≤ o → T (below n (λ j. j) ws) → T (below o (λ j. m + j) ws)
below_shifted [] m n o h b = tt
below_shifted (w ∷ ws) m n o h b =
    let low : w.0 < n = ltb→lt _ _ (both (ltb w.0 n) _ b).0 in
    rw (lt-ltb (m + w.0) o (omega arith)) (below_shifted ws m n o h (both (ltb w.0 n) _ b).1)

-- a write into the second of two lists
set_append_right : (a l : List ℕ) (f v : ℕ) → set (a ++ l) (length a + f) v ≡ a ++ set l f v
set_append_right [] l f v = ap (λ (i : ℕ). set l i v) (zero-add f)
set_append_right (x ∷ a) l f v =
    let e : length (x ∷ a) + f ≡ suc (length a + f) = omega arith in
    ap (λ (i : ℕ). set (x ∷ a ++ l) i v) e ∙ ap (λ (m : List ℕ). x ∷ m) (set_append_right a l f v)

-- writes into the middle of three lists
pub writes_inside : (ws : List (ℕ × ℕ)) (a l z : List ℕ) (m n : ℕ) → length a ≡ m → length l ≡ n → T (below n (λ j. j) ws)
    → writes ws (λ j. m + j) (a ++ l ++ z) ≡ a ++ writes ws (λ j. j) l ++ z
writes_inside [] a l z m n e e' h = refl
writes_inside (w ∷ ws) a l z m n e e' h =
    ap (λ (t : List ℕ). writes ws (λ j. m + j) t) first_write
    ∙ writes_inside ws a (set l w.0 w.1) z m n e (length-set l w.0 w.1 ∙ e') (both (ltb w.0 n) _ h).1
  where
    inside : w.0 < n
    inside = ltb→lt _ _ (both (ltb w.0 n) _ h).0

    first_write : set (a ++ l ++ z) (m + w.0) w.1 ≡ a ++ set l w.0 w.1 ++ z
    first_write =
        set-append_left (a ++ l) z (m + w.0) w.1 (omega (arith, inside, length-append a l))
        ∙ ap (λ (t : List ℕ). t ++ z) (ap (λ (i : ℕ). set (a ++ l) (i + w.0) w.1) (sym e) ∙ set_append_right a l w.0 w.1)

-- Words of a table with one block given as a list

-- how many words a block of a region has
abbrev pub size_in : Region → ℕ
size_in cores = core_stride
size_in processes = process_stride
size_in channels = channel_stride

-- j is the number of a block
abbrev pub Has : Dims → Region → ℕ → Type 0
Has d cores k = k < d.K
Has d processes p = (1 ≤ p) × (p ≤ d.N)
Has d channels c = (1 ≤ c) × (c ≤ d.M)

-- the address of place f of block j
abbrev pub address : Dims → Region → ℕ → ℕ → ℕ
address d cores k f = core_at k f
address d processes p f = process_at d.K p f
address d channels c f = channel_at d.K d.N c f

-- the words of a region
abbrev pub words_in : Region → Words → ℕ → ℕ → ℕ
words_in cores w = w.core
words_in processes w = w.process
words_in channels w = w.channel

-- the words W, but those of number j are the list l
abbrev pub block : ℕ → List ℕ → (ℕ → ℕ → ℕ) → ℕ → ℕ → ℕ
block j l W i f = if eqb i j then get_or l f 0 else W i f

-- the words w, but those of block j of a region are the list l
abbrev pub focus : Region → ℕ → List ℕ → Words → Words
focus cores k l w = record { header = w.header; core = block k l w.core; process = w.process; channel = w.channel }
focus processes p l w = record { header = w.header; core = w.core; process = block p l w.process; channel = w.channel }
focus channels c l w = record { header = w.header; core = w.core; process = w.process; channel = block c l w.channel }

-- the same words in another form
pub holds_same : (d : Dims) (v w : Words) (t : List ℕ) → Same d v w → Holds d v t → Holds d w t
holds_same d v w t e h =
    record {
      size = h.size;
      header = λ f b. h.header f b ∙ e.header f b;
      core = λ k f b b'. h.core k f b b' ∙ e.core k f b b';
      process = λ p f l b b'. h.process p f l b b' ∙ e.process p f l b b';
      channel = λ c f l b b'. h.channel c f l b b' ∙ e.channel c f l b b';
    }

-- a word written at the address of place g of block j: an address b of place f of block i is that one only if i is j and f is g
block_set : (j g v : ℕ) (l : List ℕ) (W : ℕ → ℕ → ℕ) (i f a b : ℕ) → g < length l
    → (a ≡ b → i ≡ j) → (a ≡ b → f ≡ g) → (i ≡ j → f ≡ g → a ≡ b)
    → (if eqb a b then v else block j l W i f) ≡ block j (set l g v) W i f
block_set j g v l W i f a b inside number place back = cases (eqb i j) refl
  where
    cases : (x : Bool) → eqb i j ≡ x
        → (if eqb a b then v else (if x then get_or l f 0 else W i f)) ≡ (if x then get_or (set l g v) f 0 else W i f)
    cases true e =
        ap (λ (x : Bool). if x then v else get_or l f 0) (same_test a b f g place (back (eqb-true i j e)))
        ∙ sym (get_or_set l g v f (get_or l f 0) inside refl)
    cases false e = ap (λ (x : Bool). if x then v else W i f) (ne_eqb a b (λ q. eqb-false i j e (number q)))

module _ (d : Dims) (w : Words) (j f v : ℕ) (l : List ℕ) (inside : f < length l) where
  -- one word of the block in focus is written, and no other
  same_set : (r : Region) → Has d r j → f < size_in r → Same d (written d (address d r j f) v (focus r j l w)) (focus r j (set l f v) w)
  same_set cores h b =
      record {
        header = λ g b'. apart g (core_at j f) v _ (λ e. omega arith);
        core = λ i g b' b''.
            block_set j f v l w.core i g (core_at i g) (core_at j f) inside (λ e. omega arith) (λ e. omega arith) (λ e e'. omega arith);
        process = λ p g low b' b''. apart (process_at d.K p g) (core_at j f) v _ (λ e. omega arith);
        channel = λ c g low b' b''. apart (channel_at d.K d.N c g) (core_at j f) v _ (λ e. omega arith);
      }
  same_set processes h b =
      let a : ℕ = process_at d.K j f in
      record {
        header = λ g b'. apart g a v _ (λ e. omega arith);
        core = λ i g b' b''. apart (core_at i g) a v _ (λ e. omega arith);
        process = λ i g low b' b''.
            block_set j f v l w.process i g (process_at d.K i g) a inside (λ e. omega arith) (λ e. omega arith) (λ e e'. omega arith);
        channel = λ c g low b' b''. apart (channel_at d.K d.N c g) a v _ (λ e. omega arith);
      }
  same_set channels h b =
      let a : ℕ = channel_at d.K d.N j f in
      record {
        header = λ g b'. apart g a v _ (λ e. omega arith);
        core = λ i g b' b''. apart (core_at i g) a v _ (λ e. omega arith);
        process = λ i g low b' b''. apart (process_at d.K i g) a v _ (λ e. omega arith);
        channel = λ i g low b' b''.
            block_set j f v l w.channel i g (channel_at d.K d.N i g) a inside
            (λ e. omega arith) (λ e. omega arith) (λ e e'. omega arith);
      }

  -- its address lies in the table
  address_inside : (r : Region) (t : List ℕ) → Has d r j → f < size_in r → length t ≡ room d.K d.N d.M → address d r j f < length t
  address_inside cores t h b e = omega arith
  address_inside processes t h b e = omega arith
  address_inside channels t h b e = omega arith

  -- what a table holds after that
  pub focus_set : (r : Region) (t : List ℕ) → Has d r j → f < size_in r
      → Holds d (focus r j l w) t → Holds d (focus r j (set l f v) w) (set t (address d r j f) v)
  focus_set r t h b held =
      holds_same d (written d (address d r j f) v (focus r j l w)) (focus r j (set l f v) w) (set t (address d r j f) v) (same_set r h b)
      (holds_set d (focus r j l w) t (address d r j f) v held (address_inside r t h b held.size))

-- a table holds a list's words where they are the words that it holds
pub focus_start : (r : Region) (d : Dims) (w : Words) (j : ℕ) (l t : List ℕ)
    → ((f : ℕ) → words_in r w j f ≡ get_or l f 0) → Holds d w t → Holds d (focus r j l w) t
focus_start r d w j l t e h = holds_same d w (focus r j l w) t (same r e) h
  where
    at_block : (W : ℕ → ℕ → ℕ) → ((f : ℕ) → W j f ≡ get_or l f 0) → (i f : ℕ) → W i f ≡ block j l W i f
    at_block W e i f = sym (here_or_there j i (get_or l f 0) (W i f) (λ i. W i f) (λ q. sym (e f)) (λ ne. refl))

    same : (r : Region) → ((f : ℕ) → words_in r w j f ≡ get_or l f 0) → Same d w (focus r j l w)
    same cores e =
        record {
          header = λ f b. refl;
          core = λ i f b b'. at_block w.core e i f;
          process = λ i f low b b'. refl;
          channel = λ i f low b b'. refl;
        }
    same processes e =
        record {
          header = λ f b. refl;
          core = λ i f b b'. refl;
          process = λ i f low b b'. at_block w.process e i f;
          channel = λ i f low b b'. refl;
        }
    same channels e =
        record {
          header = λ f b. refl;
          core = λ i f b b'. refl;
          process = λ i f low b b'. refl;
          channel = λ i f low b b'. at_block w.channel e i f;
        }

-- several words of the block in focus are written
pub focus_writes : (r : Region) (d : Dims) (w : Words) (j : ℕ) (at : ℕ → ℕ) (ws : List (ℕ × ℕ)) (l t : List ℕ)
    → Has d r j → length l ≡ size_in r → T (below (size_in r) at ws)
    → Holds d (focus r j l w) t → Holds d (focus r j (writes ws at l) w) (writes ws (λ f. address d r j (at f)) t)
focus_writes r d w j at [] l t h e b held = held
focus_writes r d w j at (x ∷ ws) l t h e b held =
    let low : at x.0 < size_in r = ltb→lt _ _ (both (ltb (at x.0) (size_in r)) _ b).0 in
    let rest : T (below (size_in r) at ws) = (both (ltb (at x.0) (size_in r)) _ b).1 in
    focus_writes r d w j at ws (set l (at x.0) x.1) _ h (length-set l (at x.0) x.1 ∙ e) rest
    (focus_set d w j (at x.0) x.1 l (omega arith) r t h low held)
