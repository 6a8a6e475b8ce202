-- Membership by the binary digits of a word, lowest first, and where a word has no member.
use Rattle.std.proofs.Common.{◌≡◌, ℕ, zero, suc, ◌/◌, ◌%◌, ◌^◌, ◌<◌, ◌≤◌, true, false, eqb, sym, ap, ◌∙◌, inl, inr, pow-suc, one-add, arith, shr-shr}
use native.Mathlib.Nat.{zero-div}
use lib.Arith.{lt-one}
use lib.Bits.{bit_and, and_mask}
use Rattle.std.proofs.lemmas.Bool.{both_ways, cases_lt}
use Rattle.sets.specs.Members.{member}

pub member_zero : (a : ℕ) → member a 0 ≡ eqb (a % 2) 1
unfolding member
member_zero a = let e : a / 1 ≡ a = omega arith in ap (λ (x : ℕ). eqb (x % 2) 1) e

pub member_suc : (a k : ℕ) → member a (suc k) ≡ member (a / 2) k
unfolding member
member_suc a k = ap (λ (x : ℕ). eqb (x % 2) 1) (ap (λ (x : ℕ). a / 2 ^ x) (sym (one-add k)) ∙ sym (shr-shr a 1 k))

-- a shift and a mask test for a member
pub test_shr : (a k : ℕ) → eqb (bit_and (a / 2 ^ k) 1) 1 ≡ member a k
unfolding member
test_shr a k = ap (λ (x : ℕ). eqb x 1) (and_mask (a / 2 ^ k) 1)

-- the empty word has no member
pub member_none : (k : ℕ) → member 0 k ≡ false
unfolding member
member_none k = ap (λ (x : ℕ). eqb (x % 2) 1) (zero-div (2 ^ k))

-- a bound on a word is one on its half
pub half_below : (w a : ℕ) → a < 2 ^ suc w → a / 2 < 2 ^ w
half_below w a h = omega (arith, pow-suc 2 w)

-- a number at or past the width is no member
pub member_past : (w a k : ℕ) → a < 2 ^ w → w ≤ k → member a k ≡ false
member_past zero a k h p = ap (λ (x : ℕ). member x k) (lt-one h) ∙ member_none k
member_past (suc w) a zero h p = absurd (omega arith)
member_past (suc w) a (suc k) h p = member_suc a k ∙ member_past w (a / 2) k (half_below w a h) (omega arith)

-- so a member is below the width
pub member_below : (w a k : ℕ) → a < 2 ^ w → member a k ≡ true → k < w
member_below w a k h m = elim (cases_lt k w) [ inl l ↦ l | inr g ↦ absurd (both_ways (member a k) (member_past w a k h g) m) ]
