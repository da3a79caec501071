-- The requests keep a state valid.
use Rattle.std.specs.Prelude.{if◌then◌else◌}
use Prim.Native.Nat.{ℕ, suc, ◌<◌}
use native.Mathlib.Omega.{arith}
use mathlib.Core.Path.{◌≡◌, refl, ◌∙◌}
use mathlib.Core.Bool.{Bool, true, false, ◌&&◌}
use mathlib.Core.List.{List, [], ◌∷◌}
use lib.Dec.{T, eqb, eqb→eq, eqb_refl}
use lib.ListN.{length}
use Rattle.rules.specs.Lists.{within, all, member, distinct}
use Rattle.rules.specs.Numbers.{Refusal, CHANNEL, OTHER_END, TWICE}
use Rattle.rules.specs.State.{
  queued,
  ended,
  Way,
  sending,
  receiving,
  look,
  enable_look,
  Progress,
  nothing,
  doing,
  due,
  go,
  no_task,
  Work,
  runs,
  free,
  State,
  Wiring,
  end_of,
}
use Rattle.rules.specs.Items.{core_of, place, alternation, progress, with_field, get, put}
use Rattle.rules.specs.Rule.{Rule, ◌>>=◌, ◌>>◌, run}
use Rattle.rules.specs.Requests.{
  Request,
  send,
  receive,
  choose,
  yield,
  end,
  unless,
  nothing_in_hand,
  requester,
  proper_end,
  proper_guards,
  choice_begun,
  asks,
  request,
}
use Rattle.rules.specs.Soundness.{own_end}
use Rattle.rules.specs.Calls.{a_request}
use Rattle.rules.specs.Claims.{sends_word}
use Rattle.rules.proofs.Tests.{tests, and_means, leb_means, unless_means, or_left, or_right, or_cases}
use Rattle.rules.proofs.Validity.Reflect.{Valid}
use Rattle.rules.proofs.Validity.Changes.{refit, close, change}
use Rattle.rules.proofs.Validity.Places.{leaves, joined, Runs, runs_there, running_good, running_open}
use Rattle.rules.proofs.Validity.Rules.{Accepts, still_runs, data_written, alternation_written, progress_written, work_written}

-- no number of the second list is in the first
Fresh : List ℕ → List ℕ → Type 0
Fresh earlier gs = (g : ℕ) → T (member g gs) → T (member g earlier) → ⊥

module _ (c : ℕ) (earlier gs : List ℕ) (fresh : Fresh (c ∷ earlier) gs) where
  -- a number stands once before such as aren't it
  first_once : T (distinct gs) → T (distinct (c ∷ gs))
  unfolding Fresh
  first_once once = simp (and_means, unless_means) ((λ again. fresh c again (or_left (eqb c c) (member c earlier) (eqb_refl c))), once)

  -- nor are they in the first list, if it isn't
  fresh_before : T (if member c earlier then false else true) → Fresh earlier (c ∷ gs)
  unfolding Fresh
  fresh_before new g its had =
      or_cases (eqb c g) (member g gs) its
      (λ same. (unless_means (member c earlier)).0 new (rw (eqb→eq c g same) had))
      (λ later. fresh g later (or_right (eqb c g) (member g earlier) had))

module _ {A : Type 0} (P : State → Type 0) (s : State) (rest : Rule A) where
  -- past a test that refuses, the test holds
  past_test : (b : Bool) (r : Refusal) → (T b → Accepts P (run rest s)) → Accepts P (run (unless b r >> rest) s)
  past_test true r after = after tt
  past_test false r after = tt

  module _ (w : Wiring) (p : ℕ) where
    -- past the tests of an end, the end is p's
    past_end : (way : Way) (c : ℕ) → (T (own_end w way p c) → Accepts P (run rest s)) → Accepts P (run (proper_end w way p c >> rest) s)
    past_end way c = by_tests (within 1 (length w.ends) c) (eqb (end_of w way c) p)
      where
        by_tests : (a b : Bool) → (T (a && b) → Accepts P (run rest s)) → Accepts P (run ((unless a CHANNEL >> unless b OTHER_END) >> rest) s)
        by_tests true true after = after tt
        by_tests true false after = tt
        by_tests false b after = tt

    -- past the tests of the guards, each is a channel that p reads, none stands twice, and none is an earlier one
    past_guards : (earlier gs : List ℕ) → (T (all (own_end w receiving p) gs) → T (distinct gs) → Fresh earlier gs → Accepts P (run rest s))
        → Accepts P (run (proper_guards w p earlier gs >> rest) s)
    unfolding Fresh
    past_guards earlier [] after = after tt tt (λ g h _. h)
    past_guards earlier (c ∷ gs) after =
        by_tests (within 1 (length w.ends) c) (eqb (end_of w receiving c) p) (if member c earlier then false else true)
        (λ own new. past_guards (c ∷ earlier) gs (with_first own new))
      where
        with_first : T (own_end w receiving p c) → T (if member c earlier then false else true) → T (all (own_end w receiving p) gs)
            → T (distinct gs) → Fresh (c ∷ earlier) gs → Accepts P (run rest s)
        with_first own new owns once fresh =
            after ((and_means (own_end w receiving p c) (all (own_end w receiving p) gs)).1 (own, owns)) (first_once c earlier gs fresh once)
            (fresh_before c earlier gs fresh new)

        by_tests : (a b d : Bool) → (T (a && b) → T d → Accepts P (run (proper_guards w p (c ∷ earlier) gs >> rest) s))
            → Accepts P (run (((unless a CHANNEL >> unless b OTHER_END) >> (unless d TWICE >> proper_guards w p (c ∷ earlier) gs)) >> rest) s)
        by_tests true true true then_on = then_on tt tt
        by_tests true true false then_on = tt
        by_tests true false d then_on = tt
        by_tests false b d then_on = tt

module _ {w : Wiring} {k p : ℕ} {s : State} (h : Runs w k p s) (idle : get progress s p ≡ nothing) where
  -- a choice begins
  begun : (gs : List ℕ) → T (within 1 8 (length gs)) → T (all (own_end w receiving p) gs) → T (distinct gs)
      → Valid w (put progress p (doing (enable_look gs 1)) (put alternation p choice_begun s))
  begun gs few owns once =
      let few' = simp tests at few in
      progress_written (still_runs h refl (alternation_written h.valid p h.named choice_begun (omega arith))) (doing (enable_look gs 1))
      (simp tests (((few', owns), once), (omega arith, few'.0)))
      tt

  -- whatever p asks
  asks_keeps : (r : Request) → T (sends_word (a_request r)) → Accepts (Valid w) (run (asks w k p r) s)
  asks_keeps (send c n) small =
      let written = data_written h.valid p h.named n ((leb_means (suc n) 4294967296).0 small) in
      past_end (Valid w) s _ w p sending c (λ own. progress_written (still_runs h refl written) (doing (look sending c)) own tt)
  asks_keeps (receive c) small = past_end (Valid w) s _ w p receiving c (λ own. progress_written h (doing (look receiving c)) own tt)
  asks_keeps (choose gs) small =
      past_test (Valid w) s _ (within 1 8 (length gs)) _ (λ few. past_guards (Valid w) s _ w p [] gs (λ owns once _. begun gs few owns once))
  asks_keeps yield small =
      let queue = joined k (change (with_field place queued) (change (with_field progress (due go)) (running_open h))) h.on refl in
      close (leaves k queue h.on no_task (work_written k h.valid h.on _ ∙ h.work) tt refl)
      (refit (running_good h) queued (due go) tt tt tt)
  asks_keeps end small =
      close (leaves k (change (with_field place ended) (running_open h)) h.on no_task h.work tt refl)
      (refit (running_good h) ended (get progress s p) (running_good h).in_hand (rw idle tt) tt)

module _ {w : Wiring} {s : State} (k : ℕ) (v : Valid w s) (on : k < w.K) (r : Request) (small : T (sends_word (a_request r))) where
  -- whether or not it has a request in hand
  idle_keeps : (p : ℕ) → Runs w k p s → (x : Progress) → get progress s p ≡ x → Accepts (Valid w) (run (nothing_in_hand p x >>= λ q. asks w k q r) s)
  idle_keeps p h nothing e = asks_keeps h e r small
  idle_keeps p h (doing x) e = tt
  idle_keeps p h (due o) e = tt

  -- whatever the core works on
  requester_keeps : (x : Work) → (core_of s k).work ≡ x → Accepts (Valid w) (run (requester x >>= λ q. asks w k q r) s)
  requester_keeps (free t) e = tt
  requester_keeps (runs p) e = idle_keeps p (runs_there k v on p e) (get progress s p) refl

  -- whatever is asked
  pub request_keeps : Accepts (Valid w) (run (request w r k) s)
  request_keeps = requester_keeps (core_of s k).work refl
