use Rattle.sets.specs.Members.{width_of}
use Rattle.sets.proofs.Counting.{ones_members}
use Rattle.sets.proofs.bit_set.BitSet.len.Goals as goal

pub returns-clause-count : goal.returns-clause-count
returns-clause-count g c = rw (← c.self.view_is) (ones_members (width_of g.row.WIDTH) c.self.inside.0 c.self.invariant)
