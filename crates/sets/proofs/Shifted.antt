-- Words made by `1 << n`, at a type of w bits.
use Rattle.std.proofs.Common.{◌≡◌, ℕ, ◌-◌, ◌*◌, ◌%◌, ◌^◌, ◌<◌, not, ◌&&◌, ◌||◌, eqb, ltb, ap, ◌∙◌}
use lib.Bits.{bit_and, bit_or}
use Rattle.std.proofs.lemmas.Nat.{one_shl}
use Rattle.sets.specs.Members.{member}
use Rattle.sets.proofs.Operations.{member_first}
use Rattle.sets.proofs.Single.{member_with, member_without}

pub member_first_shl : (w n k : ℕ) → n < w → member ((1 * 2 ^ n) % 2 ^ w - 1) k ≡ ltb k n
member_first_shl w n k h = ap (λ (x : ℕ). member (x - 1) k) (one_shl n w h) ∙ member_first n k

pub member_with_shl : (w a n k : ℕ) → n < w → member (bit_or a ((1 * 2 ^ n) % 2 ^ w)) k ≡ (member a k || eqb k n)
member_with_shl w a n k h = ap (λ (x : ℕ). member (bit_or a x) k) (one_shl n w h) ∙ member_with a n k

pub member_without_shl : (w a n k : ℕ) → a < 2 ^ w → n < w → member (bit_and a (2 ^ w - 1 - (1 * 2 ^ n) % 2 ^ w)) k ≡ (member a k && not (eqb k n))
member_without_shl w a n k l h = ap (λ (x : ℕ). member (bit_and a (2 ^ w - 1 - x)) k) (one_shl n w h) ∙ member_without w a n k l h
