-- A word is known by its members.
use Rattle.std.proofs.Common.{◌≡◌, ℕ, zero, suc, ◌+◌, ◌/◌, ◌%◌, ◌^◌, ◌<◌, eqb, sym, ◌∙◌, zero-lt-suc, pow-suc, arith, pow_mono}
use lib.Arith.{lt-one}
use Rattle.std.proofs.lemmas.Bool.Decides.{nat_tests}
use Rattle.sets.specs.Members.{member}
use Rattle.sets.proofs.Digits.{member_zero, member_suc, half_below}

same_digit : (a b : ℕ) → eqb (a % 2) 1 ≡ eqb (b % 2) 1 → a % 2 ≡ b % 2
same_digit a b e = grind (arith, nat_tests)

-- two words of w digits with the same members below w are equal
pub same_word : (w a b : ℕ) → a < 2 ^ w → b < 2 ^ w → ((k : ℕ) → k < w → member a k ≡ member b k) → a ≡ b
same_word zero a b p q same = lt-one p ∙ sym (lt-one q)
same_word (suc w) a b p q same =
    let low = same_digit a b (sym (member_zero a) ∙ same 0 (zero-lt-suc w) ∙ member_zero b) in
    let high =
    same_word w (a / 2) (b / 2) (half_below w a p) (half_below w b q)
    (λ k l. sym (member_suc a k) ∙ same (suc k) (omega arith) ∙ member_suc b k) in
    omega arith

-- a number is a width that holds it
pub below_pow : (n : ℕ) → n < 2 ^ n
below_pow zero = zero-lt-suc 0
below_pow (suc n) = omega (arith, pow-suc 2 n, below_pow n)

-- any two words have a width
pub below_pow_left : (a b : ℕ) → a < 2 ^ (a + b)
below_pow_left a b = omega (arith, below_pow a, pow_mono {i = a} {j = a + b} (omega arith))

pub below_pow_right : (a b : ℕ) → b < 2 ^ (a + b)
below_pow_right a b = omega (arith, below_pow b, pow_mono {i = b} {j = a + b} (omega arith))

-- two words with the same members are equal, whatever their width
pub same_set : (a b : ℕ) → ((k : ℕ) → member a k ≡ member b k) → a ≡ b
same_set a b same = same_word (a + b) a b (below_pow_left a b) (below_pow_right a b) (λ k _. same k)
