use lib.Count.{ones}
use Rattle.selection.proofs.Parting.{Parted}
use Rattle.rules.proofs.per_neighbour.PerNeighbourRule.keep.Given as goal

abbrev pub invariant-loop-p : goal.invariant-loop-p
invariant-loop-p g l = Parted (g.R.Rule.kept l.self.below) l.paths l.initial.rest l.rest l.kept

abbrev pub decreases-loop-p : goal.decreases-loop-p
decreases-loop-p g l = ones l.rest
