use Rattle.sets.proofs.Operations.{member_and}
use Rattle.sets.proofs.bit_set.BitSet.intersection.Goals as goal

pub returns-clause-members : goal.returns-clause-members
returns-clause-members g c = rw (← c.self.view_is, ← c.other.view_is) (member_and c.self.inside.0 c.other.inside.0)
