-- Words of the width that a set has, in a word of 64 bits.
use Rattle.std.proofs.Common.{◌≡◌, ℕ, ◌-◌, ◌^◌, ◌<◌, sym, ◌∙◌, arith, pow_mono}
use lib.Bits.{bit_and}
use Rattle.sets.specs.Members.{width_of}
use Rattle.sets.proofs.Operations.{member_difference}
use Rattle.sets.proofs.Same.{same_set}

-- a word of the width is one of 64 bits
pub below_word : (limit a : ℕ) → a < 2 ^ width_of limit → a < 2 ^ 64
below_word limit a h = omega (arith, pow_mono {i = width_of limit} {j = 64} (omega arith))

-- what is taken out does not turn on the width
pub same_difference : (limit a b : ℕ) → a < 2 ^ width_of limit → b < 2 ^ width_of limit → bit_and a (2 ^ 64 - 1 - b) ≡ bit_and a (2 ^ width_of limit - 1 - b)
same_difference limit a b g h =
    same_set (bit_and a (2 ^ 64 - 1 - b)) (bit_and a (2 ^ width_of limit - 1 - b))
    (λ k. member_difference 64 a b k (below_word limit a g) (below_word limit b h) ∙ sym (member_difference (width_of limit) a b k g h))
