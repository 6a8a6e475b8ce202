-- A word less one: its least member is gone, the members past it stay, and all numbers below it come in.
use Rattle.std.proofs.Common.{◌≡◌, ℕ, zero, suc, ◌-◌, ◌/◌, ◌%◌, ◌≤◌, Bool, true, false, not, ◌&&◌, eqb, sym, refl, ap, ◌∙◌, inl, inr, zero-lt-suc, arith}
use mathlib.Core.Bool.{and-true}
use lib.Bits.{bit_and}
use lib.Dec.{eqb-suc-zero, eqb-suc-suc}
use Rattle.std.proofs.lemmas.Bool.{cases_lt}
use Rattle.std.proofs.lemmas.Bool.Decides.{nat_tests}
use Rattle.sets.specs.Members.{member, Least}
use Rattle.sets.proofs.Digits.{member_zero, member_suc}
use Rattle.sets.proofs.Operations.{member_and}

odd : (a : ℕ) → eqb (a % 2) 1 ≡ true → a % 2 ≡ 1
odd a e = grind (arith, nat_tests)

even : (a : ℕ) → eqb (a % 2) 1 ≡ false → a % 2 ≡ 0
even a e = grind (arith, nat_tests)

past_least : (m a k : ℕ) → Least a m → m ≤ k → member (a - 1) k ≡ (member a k && not (eqb k m))
past_least zero a zero l p =
    let low = odd a (sym (member_zero a) ∙ l.0) in
    let gone : (a - 1) % 2 ≡ 0 = omega arith in
    member_zero (a - 1) ∙ ap (λ (x : ℕ). eqb x 1) gone ∙ sym (ap (λ (t : Bool). t && false) l.0)
past_least zero a (suc k) l p =
    let low = odd a (sym (member_zero a) ∙ l.0) in
    let half : (a - 1) / 2 ≡ a / 2 = omega arith in
    member_suc (a - 1) k ∙ ap (λ (x : ℕ). member x k) half ∙ sym (member_suc a k)
    ∙ sym (ap (λ (t : Bool). member a (suc k) && not t) (eqb-suc-zero k) ∙ and-true (member a (suc k)))
past_least (suc m) a zero l p = absurd (omega arith)
past_least (suc m) a (suc k) l p =
    let low = even a (sym (member_zero a) ∙ l.1 0 (zero-lt-suc m)) in
    let half : (a - 1) / 2 ≡ a / 2 - 1 = omega arith in
    let rest : Least (a / 2) m = (sym (member_suc a m) ∙ l.0, λ j q. sym (member_suc a j) ∙ l.1 (suc j) (omega arith)) in
    member_suc (a - 1) k ∙ ap (λ (x : ℕ). member x k) half ∙ past_least m (a / 2) k rest (omega arith)
    ∙ ap (λ (t : Bool). t && not (eqb k m)) (sym (member_suc a k))
    ∙ ap (λ (t : Bool). member a (suc k) && not t) (sym (eqb-suc-suc k m))

once : (b c : Bool) → (b && (b && c)) ≡ (b && c)
once true c = refl
once false c = refl

-- what a word shares with the word less one is all but its least member
pub member_lowered : (a m k : ℕ) → Least a m → member (bit_and a (a - 1)) k ≡ (member a k && not (eqb k m))
member_lowered a m k l =
    member_and a (a - 1) k
    ∙ elim (cases_lt k m) [
      | inl q ↦ ap (λ (t : Bool). t && member (a - 1) k) (l.1 k q) ∙ sym (ap (λ (t : Bool). t && not (eqb k m)) (l.1 k q))
      | inr q ↦ ap (λ (t : Bool). member a k && t) (past_least m a k l q) ∙ once (member a k) (not (eqb k m))
    ]
