use Rattle.std.proofs.Common.{◌^◌}
use lib.Pow.{pow-lt}
use Rattle.std.proofs.lemmas.Nat.{one_shl}
use Rattle.sets.proofs.Shifted.{member_without_shl}
use Rattle.sets.proofs.Single.{member_without_past}
use Rattle.sets.proofs.Widths.{below_word, same_difference}
use Rattle.sets.proofs.bit_set.BitSet.without.Goals as goal

pub returns-then-n-lt-BITS-clause-members : goal.returns-then-n-lt-BITS-clause-members
returns-then-n-lt-BITS-clause-members g c k =
    rw (← c.self.view_is)
    (member_without_shl 64 c.self.inside.0 c.args.n k (below_word g.row.WIDTH _ c.self.invariant) c.if-n-lt-BITS.true)

pub returns-then-n-lt-BITS-clause-word : goal.returns-then-n-lt-BITS-clause-word
returns-then-n-lt-BITS-clause-word g c h =
    rw (← c.self.view_is, one_shl c.args.n 64 c.if-n-lt-BITS.true)
    (same_difference g.row.WIDTH c.self.inside.0 (2 ^ c.args.n) c.self.invariant (pow-lt h))

pub returns-else-n-lt-BITS-clause-members : goal.returns-else-n-lt-BITS-clause-members
returns-else-n-lt-BITS-clause-members g c k =
    rw (← c.self.view_is)
    (member_without_past 64 c.self.inside.0 c.args.n k (below_word g.row.WIDTH _ c.self.invariant) c.if-n-lt-BITS.false)
