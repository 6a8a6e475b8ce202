use Rattle.std.proofs.Common.{sym, ◌∙◌}
use Rattle.std.proofs.lemmas.Bool.{le-ltb}
use Rattle.sets.proofs.Digits.{test_shr, member_past}
use Rattle.sets.proofs.Widths.{below_word}
use Rattle.sets.proofs.bit_set.BitSet.contains.Goals as goal

pub returns-then-n-lt-BITS : goal.returns-then-n-lt-BITS
returns-then-n-lt-BITS g c = rw (← c.self.view_is) (test_shr c.self.inside.0 c.args.n)

pub returns-else-n-lt-BITS : goal.returns-else-n-lt-BITS
returns-else-n-lt-BITS g c =
    let past = c.if-n-lt-BITS.false in
    rw (← c.self.view_is)
    (le-ltb c.args.n 64 past ∙ sym (member_past 64 c.self.inside.0 c.args.n (below_word g.row.WIDTH _ c.self.invariant) past))
