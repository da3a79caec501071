use Rattle.std.proofs.Common.{ℕ, Bool, List, ◌≡◌, refl, sym, ◌∙◌, true, arith, set, length-set, if◌then◌else◌}
use Rattle.fitting.specs.Twin.{fresh}
use Rattle.soundness.specs.Parts.{next_head}
use Rattle.soundness.proofs.Outcomes.{all_well, not_well}
use Rattle.soundness.proofs.Unmet.{unmet_le}
use Rattle.soundness.proofs.Walks.{met_anew}
use Rattle.soundness.proofs.Left.{marked_long, marked_unmet, entered_long, queue_falls, no_core_met, no_core_left, core_entered, core_refused, met_next, met_before, next_inside, last_queue, next_queue, ends_badly}
use Rattle.processes.specs.Met.{met_numbers}
use Rattle.soundness.proofs.parts_fit.Goals as goal

-- the process that a turn met was not met before, and now is
meets_one : (r : Bool) (N p : ℕ) (met after : List ℕ) → r ≡ fresh N met p → after ≡ (if r then set met p 2 else met) → r ≡ true
    → (fresh N met p ≡ true) × (after ≡ set met p 2)
meets_one r N p met after first e met_it = (sym first ∙ met_it, rw met_it at e)

pub cores-init : goal.cores-init
cores-init c = record { long = refl; left = no_core_met _ _ _ _ }

pub returns : goal.returns
returns c =
    let at = c.cores in
    c.rest_fits.ensures ∙ sym (at.invariant.left ∙ no_core_left _ _ _ _ _ (met_numbers at.met) (omega arith))

pub queues-init : goal.queues-init
queues-init c =
    let a = c.args in
    let entered = c.enter_core in
    let e = all_well entered.result (met_numbers entered.new.met) _ c.if-not-enter_core.false entered.ensures in
    record {
      in_range = omega arith;
      long = entered_long a.t.now a.sizes.processes c.cores.k (met_numbers c.cores.met) _ e ∙ c.cores.invariant.long;
      left = c.cores.invariant.left ∙ core_entered _ _ _ _ c.cores.k (met_numbers c.cores.met) _ (omega arith) e;
    }

pub overflow_add-size : goal.overflow_add-size
overflow_add-size c =
    omega (arith, unmet_le c.args.sizes.processes (met_numbers c.queues.met))

pub loop-p-smaller : goal.loop-p-smaller
loop-p-smaller c =
    let a = c.args in
    let met = meets_one c.meet.result a.sizes.processes c.loop-p.p (met_numbers c.loop-p.met) (met_numbers c.meet.new.met) c.meet.ensures.first c.meet.ensures.met c.if-not-meet.false in
    rw met.1 (met_anew a.t.now a.sizes.cores a.sizes.processes (met_numbers c.loop-p.met) c.loop-p.p 2 (omega arith) refl met.0)

pub loop-p-preserved : goal.loop-p-preserved
loop-p-preserved c =
    let a = c.args in
    let l = c.loop-p in
    let met = meets_one c.meet.result a.sizes.processes c.loop-p.p (met_numbers c.loop-p.met) (met_numbers c.meet.new.met) c.meet.ensures.first c.meet.ensures.met c.if-not-meet.false in
    let less = met_anew a.t.now a.sizes.cores a.sizes.processes (met_numbers l.met) l.p 2 (omega arith) refl met.0 in
    rw (met.1, c.word-p.ensures)
    (record {
      first = λ z. absurd (omega arith);
      counted = omega arith;
      long = length-set (met_numbers l.met) l.p 2 ∙ l.invariant.long;
      left = l.invariant.left
          ∙ met_next _ _ _ _ _ (met_numbers l.met) _ l.p l.last l.size (omega arith) c.loop-p-test.true met.0;
    })

pub queues-smaller : goal.queues-smaller
queues-smaller c =
    let a = c.args in
    let fewer = marked_unmet (met_numbers c.loop-p.met) c.queues.head a.sizes.processes (omega arith) in
    let falls =
    queue_falls a.t.now _ c.queues.head _ c.loop-p.p _ c.loop-p.size _ _ _ c.if-head-eq0.false c.loop-p-test.false
    c.loop-p.invariant.first c.first-p.ensures c.loop-p.invariant.counted fewer in
    rw c.mark_head.ensures falls

pub queues-preserved : goal.queues-preserved
queues-preserved c =
    let l = c.loop-p in
    let a = c.args in
    let k = c.cores.k in
    let queue = c.queues.head in
    let some : next_head a.t.now a.sizes.cores k queue ≡ 0 → ⊥ = λ z. c.if-head-eq0.false (c.next_head-head.ensures ∙ z) in
    let ends =
    sym c.ends.ensures ∙ c.if-not-ends.false in
    rw (c.mark_head.ensures, c.next_head-head.ensures)
    (record {
      in_range = next_inside a.t.now a.sizes.cores a.sizes.processes a.sizes.channels k (met_numbers l.met) queue l.p l.last l.size ends some;
      long = marked_long (met_numbers l.met) queue a.sizes.processes ∙ l.invariant.long;
      left = l.invariant.left
          ∙ next_queue _ _ _ _ k (met_numbers l.met) queue l.p l.last l.size (omega arith) c.loop-p-test.false ends some;
    })

pub cores-preserved : goal.cores-preserved
cores-preserved c =
    let l = c.loop-p in
    let a = c.args in
    let ends =
    sym c.ends.ensures ∙ c.if-not-ends.false in
    let none = sym c.next_head-head.ensures ∙ c.if-head-eq0.true in
    rw c.mark_head.ensures
    (record {
      long = marked_long (met_numbers l.met) c.queues.head a.sizes.processes ∙ l.invariant.long;
      left = l.invariant.left
          ∙ last_queue _ _ _ _ _ (met_numbers l.met) _ l.p l.last l.size c.loop-p-test.false ends none;
    })

pub returns-then-not-enter_core : goal.returns-then-not-enter_core
returns-then-not-enter_core c =
    let at = c.cores in
    let entered = c.enter_core in
    let flawed = not_well entered.result (met_numbers entered.new.met) _ c.if-not-enter_core.true entered.ensures in
    sym (at.invariant.left ∙ core_refused _ _ _ _ at.k (met_numbers at.met) (omega arith) flawed)

pub returns-then-not-meet : goal.returns-then-not-meet
returns-then-not-meet c =
    let l = c.loop-p in
    let stale = sym c.meet.ensures.first ∙ c.if-not-meet.true in
    sym (l.invariant.left ∙ met_before _ _ _ _ _ (met_numbers l.met) _ l.p l.last l.size c.loop-p-test.true stale)

pub returns-then-not-ends : goal.returns-then-not-ends
returns-then-not-ends c =
    let l = c.loop-p in
    let flawed = sym c.ends.ensures ∙ c.if-not-ends.true in
    sym (l.invariant.left ∙ ends_badly _ _ _ _ _ (met_numbers l.met) _ l.p l.last l.size c.loop-p-test.false flawed)
