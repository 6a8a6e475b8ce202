-- One number more, and one less.
use Rattle.std.proofs.Common.{◌≡◌, ℕ, zero, suc, ◌-◌, ◌/◌, ◌%◌, ◌^◌, ◌<◌, ◌≤◌, Bool, false, not, ◌&&◌, ◌||◌, eqb, sym, ap, ◌∙◌, inl, inr, pow-suc, arith}
use mathlib.Core.Bool.{and-true, and-false}
use lib.Bits.{bit_and, bit_or}
use lib.Dec.{eqb-zero-suc, eqb-suc-zero, eqb-suc-suc}
use lib.Pow.{pow-lt}
use Rattle.std.proofs.lemmas.Bool.{cases_eq, ne_eqb}
use Rattle.sets.specs.Members.{member}
use Rattle.sets.proofs.Digits.{member_zero, member_suc, member_none, member_past}
use Rattle.sets.proofs.Operations.{member_or, member_and, member_difference}
use Rattle.sets.proofs.Emptiness.{zero_word}

-- the word of one number
pub member_one : (n k : ℕ) → member (2 ^ n) k ≡ eqb k n
member_one zero zero = member_zero 1
member_one zero (suc k) = member_suc 1 k ∙ member_none k ∙ sym (eqb-suc-zero k)
member_one (suc n) zero =
    let even : 2 ^ suc n % 2 ≡ 0 = omega (arith, pow-suc 2 n) in
    member_zero (2 ^ suc n) ∙ ap (λ (x : ℕ). eqb x 1) even ∙ sym (eqb-zero-suc n)
member_one (suc n) (suc k) =
    let half : 2 ^ suc n / 2 ≡ 2 ^ n = omega (arith, pow-suc 2 n) in
    member_suc (2 ^ suc n) k ∙ ap (λ (x : ℕ). member x k) half ∙ member_one n k ∙ sym (eqb-suc-suc k n)

-- a with n
pub member_with : (a n k : ℕ) → member (bit_or a (2 ^ n)) k ≡ (member a k || eqb k n)
member_with a n k = member_or a (2 ^ n) k ∙ ap (λ (t : Bool). member a k || t) (member_one n k)

-- a without n
pub member_without : (w a n k : ℕ) → a < 2 ^ w → n < w → member (bit_and a (2 ^ w - 1 - 2 ^ n)) k ≡ (member a k && not (eqb k n))
member_without w a n k h l =
    member_difference w a (2 ^ n) k h (pow-lt l) ∙ ap (λ (t : Bool). member a k && not t) (member_one n k)

-- a number past the width is taken from a word by doing nothing
pub member_without_past : (w a n k : ℕ) → a < 2 ^ w → w ≤ n → member a k ≡ (member a k && not (eqb k n))
member_without_past w a n k h l =
    elim (cases_eq k n) [
      | inl e ↦ let none = member_past w a k h (omega arith) in none ∙ sym (ap (λ (t : Bool). t && not (eqb k n)) none)
      | inr d ↦ sym (ap (λ (t : Bool). member a k && not t) (ne_eqb k n d) ∙ and-true (member a k))
    ]

-- a word shares nothing with a number that it lacks
pub and_one : (a n : ℕ) → member a n ≡ false → bit_and a (2 ^ n) ≡ 0
and_one a n out = zero_word (bit_and a (2 ^ n)) (λ k. member_and a (2 ^ n) k ∙ ap (λ (t : Bool). member a k && t) (member_one n k) ∙ apart k)
  where
    apart : (k : ℕ) → (member a k && eqb k n) ≡ false
    apart k =
        elim (cases_eq k n) [
          | inl e ↦ ap (λ (t : Bool). t && eqb k n) (ap (member a) e ∙ out)
          | inr d ↦ ap (λ (t : Bool). member a k && t) (ne_eqb k n d) ∙ and-false (member a k)
        ]
