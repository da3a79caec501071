-- The first flaw of the list is that of the pairs still to be looked at.
use Rattle.std.proofs.Common.{◌≡◌}
use Rattle.std.specs.Slice.Iter.{chunks_exact_rest, chunks_exact_size}
use Rattle.rules.specs.SetUp.{ends_of, proper_pairs}
use Rattle.set_up.proofs.check_pairs.Given as goal

abbrev pub invariant-loop-pair : goal.invariant-loop-pair
invariant-loop-pair l =
    (chunks_exact_size l.pair-iterator ≡ 2)
    × (proper_pairs l.n (ends_of l.pairs) ≡ proper_pairs l.n (ends_of (chunks_exact_rest l.pair-iterator)))
