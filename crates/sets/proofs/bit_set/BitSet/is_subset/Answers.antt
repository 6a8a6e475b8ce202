use Rattle.sets.proofs.Subsets.{decides_subset}
use Rattle.sets.proofs.bit_set.BitSet.is_subset.Goals as goal

pub returns : goal.returns
returns g c = rw (← c.self.view_is, ← c.other.view_is) (decides_subset c.self.inside.0 c.other.inside.0)
