-- The walks along chains and batches step by step, as the code takes them: how many more processes can be met never decides.
use Prim.Native.Nat.{ℕ, zero, suc, ◌+◌, ◌≤◌, ◌<◌}
use mathlib.Core.Path.{◌≡◌, refl, sym, ap, ◌∙◌}
use mathlib.Core.Bool.{Bool, true, false}
use mathlib.Core.List.{List}
use mathlib.Core.Logic.{⊎_elim}
use native.Mathlib.Omega.{arith}
use lib.Dec.{eqb, leb}
use lib.ListN.{length, set, length-set}
use borrow.Author.Tests.{eqb-true}
use Rattle.rules.specs.Lists.{within}
use Rattle.rules.specs.Layout.{core_at, process_at, room, core_last_head, process_next, process_last, process_next_head}
use Rattle.fitting.specs.Twin.{word, fresh, Walk, flaw, well, and_then, chain_walk, batch_walk}
use Rattle.soundness.specs.Parts.{stand_at, outcome}
use Rattle.std.proofs.lemmas.Bool.{cases_Bool, and_parts, leb-true}
use Rattle.soundness.proofs.Unmet.{unmet, unmet_marked, unmet_met}

pub then_same : (w : Walk) (f g : List ℕ → Walk) → ((met : List ℕ) → w ≡ well met → f met ≡ g met) → and_then w f ≡ and_then w g
then_same flaw f g h = refl
then_same (well met) f g h = h met refl

pub no_flaw : (after : List ℕ) → flaw ≡ well after → ⊥
no_flaw after e = let z : ◌≡◌ {A = ℕ} 0 1 = cc in omega arith

-- a test at the end that leaves it well
left_well : (b : Bool) (met after : List ℕ) → outcome b met ≡ well after → met ≡ after
left_well true met after e = cc
left_well false met after e = absurd (no_flaw after e)

-- what stays true along a walk: the length, and nobody becomes unmet
pub record Kept (N : ℕ) (met after : List ℕ) : Type 0 where
  pub long : length after ≡ length met
  pub fewer : unmet N after ≤ unmet N met

kept_all : (N : ℕ) (met after : List ℕ) → met ≡ after → Kept N met after
kept_all N met after e = record { long = ap length (sym e); fewer = omega (arith, ap (unmet N) e) }

module _ (t : List ℕ) (K N : ℕ) where
  within_true : (p : ℕ) → within 1 N p ≡ true → (1 ≤ p) × (p ≤ N)
  within_true p e = let parts = and_parts (leb 1 p) _ e in (leb-true 1 p parts.0, leb-true p N parts.1)

  -- who is met anew is one less to meet
  pub met_anew : (met : List ℕ) (p v : ℕ) → N < length met → eqb v 0 ≡ false → fresh N met p ≡ true → unmet N (set met p v) < unmet N met
  met_anew met p v room mark e =
      let new = and_parts (within 1 N p) _ e in
      let inside = within_true p new.0 in
      unmet_met met p v (omega arith) mark N inside.0 inside.1 (eqb-true _ _ new.1)

  -- the chains whose last process and size stand at the word a
  module _ (a : ℕ) where
    abbrev pub chain : ℕ → List ℕ → ℕ → ℕ → ℕ → Walk
    chain = chain_walk t K N a

    pub chain_end : (n : ℕ) (met : List ℕ) (p last size : ℕ) → eqb p 0 ≡ true → chain n met p last size ≡ outcome (stand_at t a last size) met
    chain_end zero met p last size e = rw e
    chain_end (suc n) met p last size e = rw e

    pub chain_stale : (n : ℕ) (met : List ℕ) (p last size : ℕ) → eqb p 0 ≡ false → fresh N met p ≡ false → chain n met p last size ≡ flaw
    chain_stale zero met p last size e f = rw e
    chain_stale (suc n) met p last size e f = rw (e, f)

    chain_meets : (n : ℕ) (met : List ℕ) (p last size : ℕ) → eqb p 0 ≡ false → fresh N met p ≡ true
        → chain (suc n) met p last size ≡ chain n (set met p 2) (word t (process_at K p process_next)) p (size + 1)
    chain_meets n met p last size e f = rw (e, f)

    -- two walks from one place agree if they do where somebody is met anew
    chain_same : (n m : ℕ) (met : List ℕ) (p last size : ℕ)
        → (eqb p 0 ≡ false → fresh N met p ≡ true → chain n met p last size ≡ chain m met p last size)
        → chain n met p last size ≡ chain m met p last size
    chain_same n m met p last size anew =
        ⊎_elim
        (λ e. chain_end n met p last size e ∙ sym (chain_end m met p last size e))
        (λ e. ⊎_elim (anew e) (λ f. chain_stale n met p last size e f ∙ sym (chain_stale m met p last size e f)) (cases_Bool (fresh N met p)))
        (cases_Bool (eqb p 0))

    -- one more step to take changes nothing where there are enough
    chain_more : (n : ℕ) (met : List ℕ) (p last size : ℕ) → N < length met → unmet N met ≤ n
        → chain n met p last size ≡ chain (suc n) met p last size
    chain_more zero met p last size room l = chain_same 0 1 met p last size (λ e f. absurd (omega (arith, met_anew met p 2 room refl f)))
    chain_more (suc n) met p last size room l =
        chain_same (suc n) (suc (suc n)) met p last size
        (λ e f.
        let more =
        chain_more n (set met p 2) (word t (process_at K p process_next)) p (size + 1) (simp length-set room) (omega (arith, met_anew met p 2 room refl f)) in
        chain_meets n met p last size e f ∙ more ∙ sym (chain_meets (suc n) met p last size e f))

    pub chain_step : (n : ℕ) (met : List ℕ) (p last size : ℕ) → N < length met → unmet N met ≤ n → eqb p 0 ≡ false → fresh N met p ≡ true
        → chain n met p last size ≡ chain n (set met p 2) (word t (process_at K p process_next)) p (size + 1)
    chain_step zero met p last size room l e f = absurd (omega (arith, met_anew met p 2 room refl f))
    chain_step (suc n) met p last size room l e f =
        chain_meets n met p last size e f
        ∙ chain_more n (set met p 2) (word t (process_at K p process_next)) p (size + 1) (simp length-set room) (omega (arith, met_anew met p 2 room refl f))

    at_end : (n : ℕ) (met : List ℕ) (p last size : ℕ) (after : List ℕ) → chain n met p last size ≡ well after → eqb p 0 ≡ true → Kept N met after
    at_end n met p last size after w e = kept_all N met after (left_well (stand_at t a last size) met after (sym (chain_end n met p last size e) ∙ w))

    chain_kept : (n : ℕ) (met : List ℕ) (p last size : ℕ) (after : List ℕ) → N < length met → chain n met p last size ≡ well after → Kept N met after
    chain_kept zero met p last size after room w =
        ⊎_elim (at_end 0 met p last size after w) (λ e. absurd (no_flaw after (rw e at w))) (cases_Bool (eqb p 0))
    chain_kept (suc n) met p last size after room w =
        ⊎_elim
        (at_end (suc n) met p last size after w)
        (λ e. ⊎_elim
        (λ f.
        let rest =
        chain_kept n (set met p 2) (word t (process_at K p process_next)) p (size + 1) after (simp length-set room) (sym (chain_meets n met p last size e f) ∙ w) in
        record { long = rest.long ∙ length-set met p 2; fewer = omega (arith, met_anew met p 2 room refl f) })
        (λ f. absurd (no_flaw after (sym (chain_stale (suc n) met p last size e f) ∙ w)))
        (cases_Bool (fresh N met p)))
        (cases_Bool (eqb p 0))

    -- a chain with a first process meets somebody
    chain_less : (n : ℕ) (met : List ℕ) (p last size : ℕ) (after : List ℕ) → N < length met → fresh N met p ≡ true → eqb p 0 ≡ false
        → chain n met p last size ≡ well after → (length after ≡ length met) × (unmet N after < unmet N met)
    chain_less zero met p last size after room f e w = absurd (no_flaw after (rw e at w))
    chain_less (suc n) met p last size after room f e w =
        let rest =
        chain_kept n (set met p 2) (word t (process_at K p process_next)) p (size + 1) after (simp length-set room) (sym (chain_meets n met p last size e f) ∙ w) in
        (rest.long ∙ length-set met p 2, omega (arith, met_anew met p 2 room refl f))

  -- the batches of core k
  module _ (k : ℕ) where
    abbrev pub batches : ℕ → List ℕ → ℕ → ℕ → Walk
    batches = batch_walk t K N k

    pub batch_end : (n : ℕ) (met : List ℕ) (head prev : ℕ) → eqb head 0 ≡ true → batches n met head prev ≡ outcome (eqb (word t (core_at k core_last_head)) prev) met
    batch_end zero met head prev e = rw e
    batch_end (suc n) met head prev e = rw e

    pub batch_out : (n : ℕ) (met : List ℕ) (head prev : ℕ) → eqb head 0 ≡ false → within 1 N head ≡ false → batches n met head prev ≡ flaw
    batch_out zero met head prev e o = rw e
    batch_out (suc n) met head prev e o = rw (e, o)

    -- a batch, then the rest with n more
    abbrev pub batch_then : ℕ → List ℕ → ℕ → Walk
    batch_then n met head =
        and_then (chain_walk t K N (process_at K head process_last) N met head 0 0) (λ met. batches n (set met head 3) (word t (process_at K head process_next_head)) head)

    batch_walks : (n : ℕ) (met : List ℕ) (head prev : ℕ) → eqb head 0 ≡ false → within 1 N head ≡ true → batches (suc n) met head prev ≡ batch_then n met head
    batch_walks n met head prev e i = rw (e, i)

    stale_then : (n : ℕ) (met : List ℕ) (head : ℕ) → eqb head 0 ≡ false → fresh N met head ≡ false → batch_then n met head ≡ flaw
    stale_then n met head e f =
        ap (λ w. and_then w (λ met. batches n (set met head 3) (word t (process_at K head process_next_head)) head)) (chain_stale (process_at K head process_last) N met head 0 0 e f)

    batch_stale : (n : ℕ) (met : List ℕ) (head prev : ℕ) → eqb head 0 ≡ false → fresh N met head ≡ false → batches n met head prev ≡ flaw
    batch_stale zero met head prev e f = rw e
    batch_stale (suc n) met head prev e f =
        ⊎_elim
        (λ i. batch_walks n met head prev e i ∙ stale_then n met head e f)
        (λ o. batch_out (suc n) met head prev e o)
        (cases_Bool (within 1 N head))

    batch_same : (n m : ℕ) (met : List ℕ) (head prev : ℕ)
        → (eqb head 0 ≡ false → fresh N met head ≡ true → batches n met head prev ≡ batches m met head prev)
        → batches n met head prev ≡ batches m met head prev
    batch_same n m met head prev anew =
        ⊎_elim
        (λ e. batch_end n met head prev e ∙ sym (batch_end m met head prev e))
        (λ e. ⊎_elim (anew e) (λ f. batch_stale n met head prev e f ∙ sym (batch_stale m met head prev e f)) (cases_Bool (fresh N met head)))
        (cases_Bool (eqb head 0))

    -- after a batch there are fewer to meet
    after_batch : (met : List ℕ) (head : ℕ) (after : List ℕ) → N < length met → eqb head 0 ≡ false → fresh N met head ≡ true
        → chain_walk t K N (process_at K head process_last) N met head 0 0 ≡ well after
        → (N < length (set after head 3)) × (unmet N (set after head 3) < unmet N met)
    after_batch met head after room e f w =
        let less = chain_less (process_at K head process_last) N met head 0 0 after room f e w in
        let inside = within_true head (and_parts (within 1 N head) _ f).0 in
        let marked = unmet_marked after head 3 (omega arith) refl N in
        (simp length-set (omega arith), omega arith)

    batch_more : (n : ℕ) (met : List ℕ) (head prev : ℕ) → N < length met → unmet N met ≤ n
        → batches n met head prev ≡ batches (suc n) met head prev
    batch_more zero met head prev room l = batch_same 0 1 met head prev (λ e f. absurd (omega (arith, met_anew met head 2 room refl f)))
    batch_more (suc n) met head prev room l =
        batch_same (suc n) (suc (suc n)) met head prev
        (λ e f.
        let i = (and_parts (within 1 N head) _ f).0 in
        batch_walks n met head prev e i
        ∙ then_same _ _ _ (λ after w. let a = after_batch met head after room e f w in batch_more n (set after head 3) _ head a.0 (omega arith))
        ∙ sym (batch_walks (suc n) met head prev e i))

    pub batch_step : (n : ℕ) (met : List ℕ) (head prev : ℕ) → N < length met → unmet N met ≤ n → eqb head 0 ≡ false → within 1 N head ≡ true
        → batches n met head prev ≡ batch_then n met head
    batch_step zero met head prev room l e i =
        ⊎_elim
        (λ f. absurd (omega (arith, met_anew met head 2 room refl f)))
        (λ f. batch_stale 0 met head prev e f ∙ sym (stale_then 0 met head e f))
        (cases_Bool (fresh N met head))
    batch_step (suc n) met head prev room l e i =
        ⊎_elim
        (λ f. batch_walks n met head prev e i
        ∙ then_same _ _ _ (λ after w. let a = after_batch met head after room e f w in batch_more n (set after head 3) _ head a.0 (omega arith)))
        (λ f. batch_stale (suc n) met head prev e f ∙ sym (stale_then (suc n) met head e f))
        (cases_Bool (fresh N met head))
