use Rattle.std.proofs.Common.{arith}
use lib.Count.{count_trailing_zeros}
use Rattle.sets.specs.Members.{width_of}
use Rattle.sets.proofs.Digits.{member_below}
use Rattle.sets.proofs.Smallest.{least_trailing}
use Rattle.sets.proofs.Emptiness.{empty_zero}
use Rattle.sets.proofs.Widths.{below_word}
use Rattle.sets.proofs.bit_set.BitSet.least.Goals as goal

pub returns-then-self-eq0 : goal.returns-then-self-eq0
returns-then-self-eq0 g c = rw (← c.self.view_is) (empty_zero c.self.inside.0 c.if-self-eq0.true)

pub returns-else-self-eq0 : goal.returns-else-self-eq0
returns-else-self-eq0 g c =
    let least = least_trailing 64 c.self.inside.0 (omega arith) (below_word g.row.WIDTH _ c.self.invariant) in
    rw (← c.self.view_is)
    (least, member_below (width_of g.row.WIDTH) c.self.inside.0 (count_trailing_zeros 64 c.self.inside.0) c.self.invariant least.0)
