-- Membership in what the operations on words give.
use Rattle.std.proofs.Common.{◌≡◌, ℕ, zero, suc, ◌-◌, ◌/◌, ◌%◌, ◌^◌, ◌<◌, Bool, true, not, ◌&&◌, ◌||◌, eqb, ltb, sym, refl, ap, ◌∙◌, ap₂, inl, inr, mod-lt, zero-lt-suc, pow-suc, arith, pow_pos}
use mathlib.Core.Bool.{and-true}
use native.Mathlib.Nat.{sub-zero}
use lib.Bits.{bit_and, bit_or, and_shr, or_shr, and_mod, or_mod}
use lib.Dec.{leb-zero, leb-suc-zero, leb-suc-suc}
use Rattle.std.proofs.lemmas.Bool.{cases_lt, lt-ltb}
use Rattle.sets.specs.Members.{member}
use Rattle.sets.proofs.Digits.{member_zero, member_suc, member_none, member_past, half_below}

no_digit : {A : Type 0} {x : ℕ} → suc (suc x) < 2 → A
no_digit h = absurd (omega arith)

or_digit : (x y : ℕ) → x < 2 → y < 2 → eqb (bit_or x y) 1 ≡ (eqb x 1 || eqb y 1)
or_digit zero y p q = refl
or_digit (suc zero) zero p q = refl
or_digit (suc zero) (suc zero) p q = refl
or_digit (suc zero) (suc (suc y)) p q = no_digit q
or_digit (suc (suc x)) y p q = no_digit p

and_digit : (x y : ℕ) → x < 2 → y < 2 → eqb (bit_and x y) 1 ≡ (eqb x 1 && eqb y 1)
and_digit zero y p q = refl
and_digit (suc zero) zero p q = refl
and_digit (suc zero) (suc zero) p q = refl
and_digit (suc zero) (suc (suc y)) p q = no_digit q
and_digit (suc (suc x)) y p q = no_digit p

digit : (a : ℕ) → a % 2 < 2
digit a = mod-lt a (zero-lt-suc 1)

pub member_or : (a b k : ℕ) → member (bit_or a b) k ≡ (member a k || member b k)
unfolding member
member_or a b k =
    ap (λ (x : ℕ). eqb x 1) (ap (λ (x : ℕ). x % 2) (or_shr a b k) ∙ or_mod (a / 2 ^ k) (b / 2 ^ k) 1)
    ∙ or_digit (a / 2 ^ k % 2) (b / 2 ^ k % 2) (digit (a / 2 ^ k)) (digit (b / 2 ^ k))

pub member_and : (a b k : ℕ) → member (bit_and a b) k ≡ (member a k && member b k)
unfolding member
member_and a b k =
    ap (λ (x : ℕ). eqb x 1) (ap (λ (x : ℕ). x % 2) (and_shr a b k) ∙ and_mod (a / 2 ^ k) (b / 2 ^ k) 1)
    ∙ and_digit (a / 2 ^ k % 2) (b / 2 ^ k % 2) (digit (a / 2 ^ k)) (digit (b / 2 ^ k))

not_digit : (x : ℕ) → x < 2 → eqb (1 - x) 1 ≡ not (eqb x 1)
not_digit zero p = refl
not_digit (suc zero) p = refl
not_digit (suc (suc x)) p = no_digit p

-- the word with every digit of b turned, at the width w
pub member_not : (w b k : ℕ) → b < 2 ^ w → member (2 ^ w - 1 - b) k ≡ (ltb k w && not (member b k))
member_not zero b k h =
    let none : 2 ^ 0 - 1 - b ≡ 0 = omega arith in
    ap (λ (x : ℕ). member x k) none ∙ member_none k ∙ ap (λ (t : Bool). t && not (member b k)) (sym (leb-suc-zero k))
member_not (suc w) b zero h =
    let low : (2 ^ suc w - 1 - b) % 2 ≡ 1 - b % 2 = omega (arith, pow-suc 2 w) in
    let some : ltb 0 (suc w) ≡ true = leb-suc-suc 0 w ∙ leb-zero w in
    member_zero (2 ^ suc w - 1 - b) ∙ ap (λ (x : ℕ). eqb x 1) low ∙ not_digit (b % 2) (digit b) ∙ ap not (sym (member_zero b))
    ∙ ap (λ (t : Bool). t && not (member b 0)) (sym some)
member_not (suc w) b (suc k) h =
    let high : (2 ^ suc w - 1 - b) / 2 ≡ 2 ^ w - 1 - b / 2 = omega (arith, pow-suc 2 w) in
    member_suc (2 ^ suc w - 1 - b) k ∙ ap (λ (x : ℕ). member x k) high ∙ member_not w (b / 2) k (half_below w b h)
    ∙ ap₂ (λ (s t : Bool). s && not t) (sym (leb-suc-suc (suc k) w)) (sym (member_suc b k))

below_and : (w a k : ℕ) → a < 2 ^ w → (t : Bool) → (member a k && (ltb k w && t)) ≡ (member a k && t)
below_and w a k h t =
    elim (cases_lt k w) [
      | inl l ↦ ap (λ (s : Bool). member a k && (s && t)) (lt-ltb k w l)
      | inr g ↦ ap (λ (s : Bool). s && (ltb k w && t)) (member_past w a k h g) ∙ sym (ap (λ (s : Bool). s && t) (member_past w a k h g))
    ]

-- a without the members of b
pub member_difference : (w a b k : ℕ) → a < 2 ^ w → b < 2 ^ w → member (bit_and a (2 ^ w - 1 - b)) k ≡ (member a k && not (member b k))
member_difference w a b k h l =
    member_and a (2 ^ w - 1 - b) k ∙ ap (λ (t : Bool). member a k && t) (member_not w b k l) ∙ below_and w a k h (not (member b k))

-- the word of the numbers below n
pub member_first : (n k : ℕ) → member (2 ^ n - 1) k ≡ ltb k n
member_first n k =
    ap (λ (x : ℕ). member x k) (sym (sub-zero (2 ^ n - 1))) ∙ member_not n 0 k (pow_pos n)
    ∙ ap (λ (t : Bool). ltb k n && not t) (member_none k) ∙ and-true (ltb k n)
