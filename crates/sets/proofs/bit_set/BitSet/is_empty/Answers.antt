use Rattle.sets.proofs.Emptiness.{decides_empty}
use Rattle.sets.proofs.bit_set.BitSet.is_empty.Goals as goal

pub returns-clause-members : goal.returns-clause-members
returns-clause-members g c = rw (← c.self.view_is) (decides_empty c.self.inside.0)
