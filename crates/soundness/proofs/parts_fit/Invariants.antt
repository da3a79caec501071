-- Three loops: what the check's definition still asks at each place is what it asks of the whole. A flaw makes that false, wherever it is.
-- What falls: from queue to queue and from process to process, how many are unmet.
use Rattle.std.proofs.Common.{◌+◌, eqb}
use Rattle.rules.specs.Lists.{bit}
use Rattle.soundness.proofs.Unmet.{unmet}
use Rattle.soundness.proofs.Left.{AtCore, AtQueue, AtProcess}
use Rattle.processes.specs.Met.{met_numbers}
use Rattle.soundness.proofs.parts_fit.Given as goal

abbrev pub invariant-loop-p : goal.invariant-loop-p
invariant-loop-p l =
    AtProcess l.t l.sizes.cores l.sizes.processes l.sizes.channels l.k l.head (met_numbers l.initial.met) l.initial.p (met_numbers l.met) l.p l.last l.size

abbrev pub decreases-loop-p : goal.decreases-loop-p
decreases-loop-p l = unmet l.sizes.processes (met_numbers l.met)

abbrev pub invariant-queues : goal.invariant-queues
invariant-queues l = AtQueue l.t l.sizes.cores l.sizes.processes l.sizes.channels l.k (met_numbers l.met) l.head

abbrev pub decreases-queues : goal.decreases-queues
decreases-queues l = unmet l.sizes.processes (met_numbers l.met) + bit (eqb l.head 0)

abbrev pub invariant-cores : goal.invariant-cores
invariant-cores l = AtCore l.t l.sizes.cores l.sizes.processes l.sizes.channels l.k (met_numbers l.met)
