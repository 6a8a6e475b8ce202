-- Sets and tests gathered over the numbers below a bound. Assumes nothing.
use Rattle.std.proofs.Common.{◌≡◌, ℕ, zero, suc, ◌^◌, ◌<◌, Bool, true, false, cond, ◌&&◌, ◌||◌, eqb, ltb, sym, refl, ap, ◌∙◌, ap₂, inl, inr, arith}
use mathlib.Core.Bool.{and-false, and-true}
use Rattle.std.proofs.lemmas.Bool.{cases_eq, cases_Bool, both_ways, or_cases, or_parts, or_left, or_right}
use Rattle.std.proofs.lemmas.Bool.Decides.{nat_tests}
use Rattle.sets.specs.Members.{member}
use Rattle.sets.proofs.Digits.{member_none}
use Rattle.sets.proofs.Operations.{member_or}
use Rattle.sets.proofs.Single.{member_one}
use Rattle.selection.specs.Stages.{those, some, joined}

member_cond : (t : Bool) (n k : ℕ) → member (cond t (2 ^ n) 0) k ≡ (eqb k n && t)
member_cond true n k = member_one n k ∙ sym (and-true (eqb k n))
member_cond false n k = member_none k ∙ sym (and-false (eqb k n))

one_more : (test : ℕ → Bool) (n k : ℕ) → ((ltb k n && test k) || (eqb k n && test n)) ≡ (ltb k (suc n) && test k)
one_more test n k =
    elim (cases_eq k n) [
      | inl e ↦ let here : test k ≡ test n = ap test e in grind (arith, nat_tests)
      | inr d ↦ grind (arith, nat_tests)
    ]

pub member_those : (test : ℕ → Bool) (n k : ℕ) → member (those test n) k ≡ (ltb k n && test k)
unfolding those
member_those test zero k = member_none k ∙ grind (arith, nat_tests)
member_those test (suc n) k =
    member_or (those test n) (cond (test n) (2 ^ n) 0) k
    ∙ ap₂ (λ (a b : Bool). a || b) (member_those test n k) (member_cond (test n) n k)
    ∙ one_more test n k

-- some number passes, or none does
pub some_none : (test : ℕ → Bool) (n : ℕ) → some test n ≡ false → (q : ℕ) → q < n → test q ≡ false
unfolding some
some_none test zero none q l = absurd (omega arith)
some_none test (suc n) none q l =
    let parts = or_parts (test n) (some test n) none in
    elim (cases_eq q n) [
      | inl e ↦ ap test e ∙ parts.0
      | inr d ↦ some_none test n parts.1 q (omega arith)
    ]

pub some_false : (test : ℕ → Bool) (n : ℕ) → ((q : ℕ) → q < n → test q ≡ false) → some test n ≡ false
unfolding some
some_false test zero none = refl
some_false test (suc n) none = ap₂ (λ (a b : Bool). a || b) (none n (omega arith)) (some_false test n (λ q l. none q (omega arith)))

-- a number is in the union where one of its parts has it
pub joined_has : (f : ℕ → ℕ) (s n p k : ℕ) → p < n → member s p ≡ true → member (f p) k ≡ true → member (joined f s n) k ≡ true
unfolding joined
joined_has f s zero p k l held has = absurd (omega arith)
joined_has f s (suc n) p k l held has =
    member_or (joined f s n) (cond (member s n) (f n) 0) k
    ∙ elim (cases_eq p n) [
      | inl e ↦
          or_right (member (joined f s n) k) (member (cond (member s n) (f n) 0) k)
          (ap (λ (t : Bool). member (cond t (f n) 0) k) (ap (member s) (sym e) ∙ held) ∙ ap (λ (q : ℕ). member (f q) k) (sym e) ∙ has)
      | inr d ↦
          or_left (member (joined f s n) k) (member (cond (member s n) (f n) 0) k) (joined_has f s n p k (omega arith) held has)
    ]

-- and only there
pub joined_from : (f : ℕ → ℕ) (s n k : ℕ) → member (joined f s n) k ≡ true → (p : ℕ) × ((p < n) × ((member s p ≡ true) × (member (f p) k ≡ true)))
unfolding joined
joined_from f s zero k has = absurd (both_ways (member 0 k) (member_none k) has)
joined_from f s (suc n) k has =
    elim (or_cases (member (joined f s n) k) (member (cond (member s n) (f n) 0) k) (sym (member_or (joined f s n) (cond (member s n) (f n) 0) k) ∙ has)) [
      | inl h ↦ let r = joined_from f s n k h in (r.0, (omega (arith, r.1.0), r.1.1))
      | inr h ↦
          elim (cases_Bool (member s n)) [
            | inl y ↦ (n, (omega arith, (y, sym (ap (λ (t : Bool). member (cond t (f n) 0) k) y) ∙ h)))
            | inr o ↦ absurd (both_ways (member 0 k) (member_none k) (sym (ap (λ (t : Bool). member (cond t (f n) 0) k) o) ∙ h))
          ]
    ]
