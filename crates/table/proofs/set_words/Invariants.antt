-- The words still to be written are the rest of the list.
use Rattle.std.proofs.Common.{◌+◌, ◌≡◌, drop}
use Rattle.std.proofs.lemmas.List.Edits.{sets}
use Rattle.table.proofs.set_words.Given as goal

abbrev pub invariant-loop-i : goal.invariant-loop-i
invariant-loop-i l = sets l.initial.t l.at l.words ≡ sets l.t (l.at + l.i) (drop l.i l.words)
