-- How many members a word has.
use Rattle.std.proofs.Common.{◌≡◌, ℕ, zero, suc, ◌+◌, ◌*◌, ◌/◌, ◌%◌, ◌^◌, ◌<◌, ◌≤◌, Bool, true, false, cond, not, ◌&&◌, eqb, sym, refl, ap, ◌∙◌, ap₂, inl, inr, zero-le, le_of_eq, mod-lt, mod-eq_of_lt, zero-lt-suc, add_comm, one-add, arith, pow_pos}
use mathlib.Core.Bool.{and-false}
use native.Mathlib.Nat.{mod-one}
use lib.Arith.{bin_ind, lt-one}
use lib.Bits.{bit_and, bit_or, or_add_and, or_shr, or_mod, and_shr, and_mod}
use lib.Count.{ones, ones_step, ones_cat}
use lib.Pow.{mod-pow-add}
use Rattle.std.proofs.lemmas.Bool.{eqb-true, eq-eqb, cases_lt, both_ways, and_parts}
use Rattle.sets.specs.Members.{member, members_below, Subset}
use Rattle.sets.proofs.Digits.{member_zero, member_suc, half_below}
use Rattle.sets.proofs.Same.{below_pow_left, below_pow_right}
use Rattle.sets.proofs.Single.{and_one}

ones_digit : (d : ℕ) → d < 2 → ones d ≡ cond (eqb d 1) 1 0
unfolding ones
ones_digit zero h = refl
ones_digit (suc zero) h = refl
ones_digit (suc (suc d)) h = absurd (omega arith)

-- the members below n are those of the n lowest digits
pub ones_low : (a n : ℕ) → ones (a % 2 ^ n) ≡ members_below a n
unfolding member members_below ones
ones_low a zero = ap ones (mod-one a)
ones_low a (suc n) =
    let d = a / 2 ^ n % 2 in
    ap (λ (x : ℕ). ones (a % 2 ^ x)) (sym (one-add n)) ∙ ap ones (mod-pow-add a 1 n) ∙ ones_cat n d (a % 2 ^ n) (mod-lt a (pow_pos n))
    ∙ ap₂ (λ (x y : ℕ). x + y) (ones_digit d (mod-lt (a / 2 ^ n) (zero-lt-suc 1))) (ones_low a n)

-- a word of w digits has as many members as set digits
pub ones_members : (w a : ℕ) → a < 2 ^ w → ones a ≡ members_below a w
ones_members w a h = ap ones (sym (mod-eq_of_lt h)) ∙ ones_low a w

-- a union and what is shared have as many members as the two words
pub ones_or_and : (a b : ℕ) → ones (bit_or a b) + ones (bit_and a b) ≡ ones a + ones b
ones_or_and =
    bin_ind (λ (n : ℕ). (b : ℕ) → ones (bit_or n b) + ones (bit_and n b) ≡ ones n + ones b)
    (λ b. add_comm (ones b) (ones 0))
    (λ n ih b.
    let both = or_add_and (n % 2) (b % 2) in
    let union = ones_step (bit_or n b) ∙ ap₂ (λ (x y : ℕ). x + ones y) (or_mod n b 1) (or_shr n b 1) in
    let shared = ones_step (bit_and n b) ∙ ap₂ (λ (x y : ℕ). x + ones y) (and_mod n b 1) (and_shr n b 1) in
    omega (arith, ih (b / 2), ones_step n, ones_step b))

-- the word of one number has one member
pub ones_one : (n : ℕ) → ones (2 ^ n) ≡ 1
unfolding ones
ones_one n =
    let shifted : 2 ^ n ≡ 1 * 2 ^ n + 0 = omega arith in
    ap ones shifted ∙ ones_cat n 1 0 (pow_pos n)

-- a number that was no member makes one more
pub ones_with : (a n : ℕ) → member a n ≡ false → ones (bit_or a (2 ^ n)) ≡ ones a + 1
unfolding ones
ones_with a n out =
    let apart : ones (bit_and a (2 ^ n)) ≡ 0 = ap ones (and_one a n out) in
    omega (arith, ones_or_and a (2 ^ n), ones_one n)

digit_le : (x y : ℕ) → x < 2 → (eqb x 1 ≡ true → eqb y 1 ≡ true) → x ≤ y
digit_le zero y h p = zero-le
digit_le (suc zero) y h p = omega (arith, eqb-true y 1 (p refl))
digit_le (suc (suc x)) y h p = absurd (omega arith)

-- by the lowest digit and the rest
within : (w a b : ℕ) → a < 2 ^ w → b < 2 ^ w → Subset a b → (ones a ≤ ones b) × (ones b ≤ ones a → a ≡ b)
within zero a b h l p =
    let same : a ≡ b = lt-one h ∙ sym (lt-one l) in
    (le_of_eq (ap ones same), λ _. same)
within (suc w) a b h l p =
    let low =
    digit_le (a % 2) (b % 2) (mod-lt a (zero-lt-suc 1)) (λ e. sym (member_zero b) ∙ p 0 (member_zero a ∙ e)) in
    let rest =
    within w (a / 2) (b / 2) (half_below w a h) (half_below w b l)
    (λ k m. sym (member_suc b k) ∙ p (suc k) (member_suc a k ∙ m)) in
    let here = ones_step a in
    let there = ones_step b in
    (omega (arith, rest.0), λ g. let high = rest.1 (omega (arith, rest.0)) in omega (arith, rest.0))

-- a set within another that has as many members is that one
pub same_from_ones : (a b : ℕ) → Subset a b → ones b ≤ ones a → a ≡ b
same_from_ones a b p = (within (a + b) a b (below_pow_left a b) (below_pow_right a b) p).1

-- so where the other has a number that it lacks, it has fewer
pub ones_less : (a b k : ℕ) → Subset a b → member a k ≡ false → member b k ≡ true → ones a < ones b
ones_less a b k p out held =
    elim (cases_lt (ones a) (ones b)) [
      | inl l ↦ l
      | inr g ↦ absurd (both_ways (member a k) out (ap (λ (x : ℕ). member x k) (same_from_ones a b p g) ∙ held))
    ]

-- a loop that takes a member out comes to fewer
pub fewer_without : (a r n : ℕ) → ((k : ℕ) → member r k ≡ (member a k && not (eqb k n))) → member a n ≡ true → ones r < ones a
fewer_without a r n e held =
    let out = e n ∙ ap (λ (t : Bool). member a n && not t) (eq-eqb n n refl) ∙ and-false (member a n) in
    ones_less r a n (λ k m. (and_parts (member a k) (not (eqb k n)) (sym (e k) ∙ m)).0) out held
