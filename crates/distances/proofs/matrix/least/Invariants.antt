use Rattle.std.proofs.Common.{length}
use Rattle.costs.specs.Cost.{plain}
use Rattle.costs.specs.Least.{over}
use Rattle.distances.specs.Held.{Costs}
use Rattle.tables.specs.Accepted.{declared}
use Rattle.distances.proofs.matrix.least.Given as goal

-- the costs are those of the ways through the first k routers
abbrev pub invariant-loop-k : goal.invariant-loop-k
invariant-loop-k l = Costs (length l.rows) (over plain (declared l.fn.table).links l.k) l.rows
