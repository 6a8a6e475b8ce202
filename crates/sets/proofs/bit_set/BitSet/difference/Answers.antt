use Rattle.sets.proofs.Operations.{member_difference}
use Rattle.sets.proofs.Widths.{below_word, same_difference}
use Rattle.sets.proofs.bit_set.BitSet.difference.Goals as goal

pub returns-clause-members : goal.returns-clause-members
returns-clause-members g c k =
    rw (← c.self.view_is, ← c.other.view_is)
    (member_difference 64 c.self.inside.0 c.other.inside.0 k (below_word g.row.WIDTH _ c.self.invariant) (below_word g.row.WIDTH _ c.other.invariant))

pub returns-clause-word : goal.returns-clause-word
returns-clause-word g c =
    rw (← c.self.view_is, ← c.other.view_is)
    (same_difference g.row.WIDTH c.self.inside.0 c.other.inside.0 c.self.invariant c.other.invariant)
