-- The channels before c are filled.
use Rattle.std.proofs.Common.{◌+◌, ◌-◌, ◌≤◌, ◌≡◌}
use Rattle.set_up.specs.Filled.{in_turn, channel_filled}
use Rattle.set_up.proofs.fill_channels.Given as goal

abbrev pub invariant-loop-c : goal.invariant-loop-c
invariant-loop-c l = (l.c ≤ l.c-end + 1) × (l.t ≡ in_turn (channel_filled l.sizes.cores l.sizes.processes l.pairs) 1 (l.c - 1) l.initial.t)
