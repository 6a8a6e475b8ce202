use Rattle.std.proofs.Common.{rules}
use Rattle.sets.proofs.Emptiness.{empty_zero}
use Rattle.sets.proofs.bit_set.BitSet.empty.Goals as goal

pub returns-clause-members : goal.returns-clause-members
returns-clause-members g c = empty_zero c.default.result (search rules)
