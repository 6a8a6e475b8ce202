use Rattle.selection.proofs.Parting.{Found}
use Rattle.rules.proofs.per_neighbour.through.Given as goal

abbrev pub invariant-loop-p : goal.invariant-loop-p
invariant-loop-p l = Found l.paths l.neighbour_as l.fn.set l.p-iterator l.found
