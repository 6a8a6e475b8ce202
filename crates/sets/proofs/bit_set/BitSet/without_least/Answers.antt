use Rattle.std.proofs.Common.{◌≡◌, ℕ, ◌+◌, ◌-◌, ◌%◌, sym, ap, ◌∙◌, arith}
use lib.Bits.{bit_and}
use Rattle.sets.specs.Members.{member}
use Rattle.sets.proofs.Emptiness.{zero_word, word_pos}
use Rattle.sets.proofs.Lowered.{member_lowered}
use Rattle.sets.proofs.Widths.{below_word}
use Rattle.sets.proofs.bit_set.BitSet.without_least.Goals as goal

pub returns-clause-least : goal.returns-clause-least
returns-clause-least g c =
    let a = c.self.inside.0 in
    rw (← c.self.view_is)
    (λ m l k.
    let less : (a + 18446744073709551615) % 18446744073709551616 ≡ a - 1 = omega (arith, word_pos a m l.0, below_word g.row.WIDTH a c.self.invariant) in
    ap (λ (x : ℕ). member (bit_and a x) k) less ∙ member_lowered a m k l)

-- only 0 has no member
pub returns-clause-none : goal.returns-clause-none
returns-clause-none g c =
    rw (← c.self.view_is)
    (λ none.
    let zero = zero_word c.self.inside.0 none in
    ap (λ (a : ℕ). bit_and a ((a + 18446744073709551615) % 18446744073709551616)) zero ∙ sym zero)
