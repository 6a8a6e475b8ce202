use Rattle.distances.specs.Answered.{declared_by}
use Rattle.forwarding.proofs.Ranks.{Found}
use Rattle.forwarding.proofs.best_path.best_declared.Given as goal

-- the best of the paths that were gone through
abbrev pub invariant-loop-p : goal.invariant-loop-p
invariant-loop-p l = Found (declared_by l.fn.distances) l.router l.fn.set l.p-iterator l.first l.lowest
