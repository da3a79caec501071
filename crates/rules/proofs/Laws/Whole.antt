-- A call as one rule: the call's own rule behind the refusals that come before it.
use Rattle.std.specs.Prelude.{if◌then◌else◌}
use Prim.Native.Nat.{ℕ, ◌<◌}
use mathlib.Core.Path.{◌≡◌, refl, ap, ◌∙◌}
use mathlib.Core.Bool.{Bool, true, false}
use mathlib.Core.List.{List}
use lib.Dec.{T, ltb, ltb→lt}
use lib.ListN.{length}
use Rattle.rules.specs.Numbers.{Answer, Refusal, ANSWER, DAMAGED, CORE, Lent, well_lent}
use Rattle.rules.specs.State.{State, Wiring, wiring}
use Rattle.rules.specs.Rule.{Rule, refuse, Ran, run}
use Rattle.rules.specs.Packing.{pack, view}
use Rattle.rules.specs.Soundness.{valid, sound}
use Rattle.rules.specs.Calls.{Ask, refusal, rule_of, outcome_of, call}
use Rattle.rules.specs.Claims.{Call, perform}
use Rattle.rules.proofs.Packing.Means.{view_of_pack, sound_means}

-- the three tests that come before a call's own rule, in their order
abbrev guarded : {A : Type 0} → (long is_sound there : Bool) → (Refusal → A) → A → A
guarded long is_sound there refuses own =
    if long then (if is_sound then (if there then own else refuses CORE) else refuses DAMAGED) else refuses ANSWER

-- the whole rule of a call, on a table that is sound or isn't
abbrev pub whole : Bool → Call → Wiring → Rule Answer
whole is_sound c w = guarded (well_lent c.answer) is_sound (ltb c.core w.K) refuse (rule_of w c.ask c.core)

-- what holds of every refusal, and of the call's own rule where its core is there, holds of the whole rule on a sound table
pub whole_by : (c : Call) (w : Wiring) (P : Rule Answer → Type 0) → ((why : Refusal) → P (refuse why))
    → (c.core < w.K → P (rule_of w c.ask c.core)) → P (whole true c w)
whole_by c w P refuses own = go (well_lent c.answer) (ltb c.core w.K) (ltb→lt c.core w.K)
  where
    go : (long there : Bool) → (T there → c.core < w.K) → P (guarded long true there refuse (rule_of w c.ask c.core))
    go true true h = own (h tt)
    go true false h = refuses CORE
    go false there h = refuses ANSWER

module _ (t : List ℕ) (answer : Lent) (k : ℕ) (ask : Ask) where
  -- what a call comes to, on any table
  abbrev pub comes_to : Ran Answer
  comes_to = run (whole (sound t) (record { core = k; ask = ask; answer = answer }) (wiring (view t))) (view t)

  -- a call's result is the outcome of its whole rule
  pub called : call t answer k ask ≡ outcome_of t answer comes_to
  unfolding call
  called = go (well_lent answer) (sound t) (ltb k (length (view t).cores))
    where
      -- the call's own rule
      own : Rule Answer
      own = rule_of (wiring (view t)) ask k

      -- each test before it chooses the result as it chooses the rule
      go : (long is_sound there : Bool)
          → guarded long is_sound there (refusal t answer) (outcome_of t answer (run own (view t)))
          ≡ outcome_of t answer (run (guarded long is_sound there refuse own) (view t))
      go true true true = refl
      go true true false = refl
      go true false there = refl
      go false is_sound there = refl

-- Sound tables

-- the table t is the packing of the valid state s
pub record Packs (t : List ℕ) (s : State) : Type 0 where
  pub good : T (valid s)
  pub packed : t ≡ pack s

-- such a table is sound
pub packs_sound : {t : List ℕ} {s : State} → Packs t s → T (sound t)
packs_sound {t} {s} h = (sound_means t).1 (s, h.good, h.packed)

-- and the state is read out of it
packs_view : {t : List ℕ} {s : State} → Packs t s → view t ≡ s
packs_view {s = s} h = ap view h.packed ∙ view_of_pack s h.good

-- a sound table packs what is read out of it
pub sound_packs : (t : List ℕ) → T (sound t) → Packs t (view t)
sound_packs t sounds =
    let (s, good, packed) = (sound_means t).0 sounds in
    let h : Packs t s = record { good = good; packed = packed } in
    rw (packs_view h) h

-- a test that holds is true
pub holds : (b : Bool) → T b → b ≡ true
holds true h = refl
holds false h = absurd h

-- on the packing of a valid state, a call's result is the outcome of what its whole rule comes to from that state
pub on_packing : (c : Call) {t : List ℕ} {s : State} {x : Ran Answer} → Packs t s → run (whole true c (wiring s)) s ≡ x
    → perform c t ≡ outcome_of t c.answer x
on_packing c {t} h e = rw (called, holds (sound t) (packs_sound h), packs_view h, e)
