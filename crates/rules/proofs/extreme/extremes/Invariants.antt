use Rattle.selection.proofs.Picking.{Picking}
use Rattle.rules.proofs.extreme.extremes.Given as goal

-- the best of the paths that were gone through
abbrev pub invariant-loop-p : goal.invariant-loop-p
invariant-loop-p l = Picking l.criterion l.paths l.fn.set l.p-iterator l.picked l.lowest
