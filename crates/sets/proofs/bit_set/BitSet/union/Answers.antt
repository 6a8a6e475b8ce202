use lib.Bits.{or_lt}
use Rattle.sets.specs.Members.{width_of}
use Rattle.sets.proofs.Operations.{member_or}
use Rattle.sets.proofs.bit_set.BitSet.union.Goals as goal

pub invariant_of-result : goal.invariant_of-result
invariant_of-result g c = or_lt (width_of g.row.WIDTH) c.self.inside.0 c.other.inside.0 c.self.invariant c.other.invariant

pub returns-clause-members : goal.returns-clause-members
returns-clause-members g c = rw (← c.self.view_is, ← c.other.view_is) (member_or c.self.inside.0 c.other.inside.0)
