-- To wake a process: what the code of it comes to, and what a rule that begins with it comes to then.
use Rattle.std.proofs.Common.{◌≡◌, ℕ, ◌≤◌, List, get_or, Result, Ok, Err, set, sym, refl, ap, ◌∙◌, subst, arith, lit<}
use Rattle.rules.specs.Numbers.{Answer}
use Rattle.rules.specs.State.{Place, running, queued, asleep, ended, State, wiring}
use Rattle.rules.specs.Items.{process_of, get, put}
use Rattle.rules.specs.Layout.{process_at, process_place, place_queued, place_asleep}
use Rattle.rules.specs.Packing.{view, place_number}
use Rattle.rules.specs.Rule.{Rule, done, refuse, read, write, Ran, accepted, refused, run, ◌>>◌}
use Rattle.rules.specs.Steps.{must_sleep, joins, wakes}
use Rattle.rules.proofs.Laws.Frame.{HasWiring, run_wiring}
use Rattle.packing.specs.Queues.{push_table}
use Rattle.table.specs.Has.{HasProcess}
use Rattle.answers.specs.declared.Refusal.{Refusal}
use Rattle.answers.specs.declared.Refusal.TheVariants.{Fault}
use Rattle.parts.proofs.Card.{facts, processes_are, card_process, card_inside, card_order}
use Rattle.parts.proofs.Packs.{Packs, IsProcess, card_packs, process_read}
use Rattle.queues.specs.Fits.{CanJoin}
use Rattle.queues.proofs.Joined.{may_join, joined}
use Rattle.steps.specs.Wakes.{CanWake, Woken, Wakes}

-- whether it was woken, or why not
abbrev Woke : Type 0
Woke = Result (Unit {0}) Refusal

module _ {t : List ℕ} {cores processes k q : ℕ} (can : CanWake t cores processes k q) where
  is_process : IsProcess (view t) q
  is_process = (can.from_one, subst (λ (n : ℕ). q ≤ n) (processes_are t cores processes k can.card) can.inside)

  pub woken_process : HasProcess t cores q
  woken_process = card_process t cores processes k can.card q is_process.0 is_process.1

  pub can_join : CanJoin t cores k q
  can_join =
      may_join (card_packs can.card) k (card_inside can.card) (card_order can.card) q is_process
      (facts t can.card.is_sound).sizes.processes.1

  -- the place that was read decides
  module _ {n : ℕ} (place : n ≡ get_or t (process_at cores q process_place) 0) where
    place_is : place_number (process_of (view t) q).place ≡ n
    place_is = sym (place ∙ process_read (card_packs can.card) q is_process process_place (lit< tt))

    by_place : (r : Woke) (u : List ℕ) {x : Place} → (process_of (view t) q).place ≡ x
        → Woken (run (must_sleep x >> joins k q) (view t)) t r u → Wakes t k q r u
    by_place r u e w = record { by_rule = subst (λ (x : Place). Woken (run (must_sleep x >> joins k q) (view t)) t r u) (sym e) w }

    pub stays_awake : (n ≡ place_asleep → ⊥) → Wakes t k q (Err Fault) t
    stays_awake awake = go (process_of (view t) q).place refl
      where
        go : (x : Place) → (process_of (view t) q).place ≡ x → Wakes t k q (Err Fault) t
        go running e = by_place (Err Fault) t e (refl, (refl, refl))
        go queued e = by_place (Err Fault) t e (refl, (refl, refl))
        go asleep e = absurd (awake (sym place_is ∙ ap place_number e))
        go ended e = by_place (Err Fault) t e (refl, (refl, refl))

    pub wakes_up : n ≡ place_asleep → {u : List ℕ} → u ≡ push_table (set t (process_at cores q process_place) place_queued) cores k q
        → Wakes t k q (Ok tt) u
    wakes_up sleeps {u} pushed = go (process_of (view t) q).place refl
      where
        go : (x : Place) → (process_of (view t) q).place ≡ x → Wakes t k q (Ok tt) u
        go running e = absurd (let z = place_is in let f = ap place_number e in omega arith)
        go queued e = absurd (let z = place_is in let f = ap place_number e in omega arith)
        go asleep e =
            by_place (Ok tt) u e
            (refl, pushed ∙ (joined (card_packs can.card) k (card_inside can.card) (card_order can.card) q is_process).is_pack)
        go ended e = absurd (let z = place_is in let f = ap place_number e in omega arith)

-- a rule, then another
abbrev then : Ran (Unit {0}) → Rule Answer → Ran Answer
then (accepted x s) rest = run rest s
then (refused why) rest = refused why

run_then : (r : Rule (Unit {0})) (rest : Rule Answer) (s : State) → run (r >> rest) s ≡ then (run r s) rest
run_then (done x) rest s = refl
run_then (refuse why) rest s = refl
run_then (read k n f) rest s = run_then (f (get k s n)) rest s
run_then (write k n v r) rest s = run_then r rest (put k n v s)

-- the table is that of a state, from which the rest of the rule goes on
pub record GoesOn (t u : List ℕ) (cores processes k q : ℕ) : Type 0 where
  pub state : State
  pub packs : Packs u cores processes state
  pub rest_runs : (rest : Rule Answer) → run (wakes k q >> rest) (view t) ≡ run rest state

module _ {t u : List ℕ} {cores processes k q : ℕ} {r : Woke} (can : CanWake t cores processes k q) (woke : Wakes t k q r u) where
  -- it was asleep
  pub woken : r ≡ Ok tt → GoesOn t u cores processes k q
  woken was = go (run (wakes k q) (view t)) woke.by_rule (run_wiring (wakes k q) (view t)) (λ rest. run_then (wakes k q) rest (view t))
    where
      go : (x : Ran (Unit {0})) → Woken x t r u → HasWiring (wiring (view t)) x
          → ((rest : Rule Answer) → run (wakes k q >> rest) (view t) ≡ then x rest) → GoesOn t u cores processes k q
      go (accepted x s) w same runs =
          let packs = card_packs can.card in
          record {
            state = s;
            packs =
                record {
                  is_pack = w.1;
                  all_cores = packs.all_cores ∙ sym (ap (λ v. v.K) same);
                  all_processes = packs.all_processes ∙ sym (ap (λ v. v.N) same);
                };
            rest_runs = runs;
          }
      go (refused why) w same runs = absurd (let z : ◌≡◌ {A = ℕ} 0 1 = cc in omega arith)
