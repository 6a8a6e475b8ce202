-- The declared paths of a set. Assumes nothing.
use Rattle.std.proofs.Common.{◌≡◌, ℕ, ◌-◌, ◌^◌, ◌<◌, min, Bool, true, ◌&&◌, ltb, List, length, sym, ap, ◌∙◌, inl, inr, arith}
use Rattle.std.proofs.lemmas.Bool.{and_parts, and_from, and_left, cases_lt, ltb-true, lt-ltb}
use Rattle.std.proofs.lemmas.Bool.Decides.{nat_tests}
use Rattle.layout.specs.declared.path.ExitPath.{ExitPath}
use Rattle.sets.specs.Members.{member, Subset}
use Rattle.sets.proofs.Digits.{member_past}
use Rattle.sets.proofs.Operations.{member_and, member_first}
use Rattle.sets.proofs.Subsets.{and_is_left}
use Rattle.selection.specs.Laws.{AllDeclared, Offered, declared_of}

pub member_declared : (xs : List ExitPath) (s p : ℕ) → member (declared_of xs s) p ≡ (member s p && ltb p (length xs))
member_declared xs s p = member_and s (2 ^ length xs - 1) p ∙ ap (λ (t : Bool). member s p && t) (member_first (length xs) p)

pub declared_from : (xs : List ExitPath) (s p : ℕ) → member (declared_of xs s) p ≡ true → Offered xs s p
declared_from xs s p m =
    let parts = and_parts (member s p) (ltb p (length xs)) (sym (member_declared xs s p) ∙ m) in
    (ltb-true p (length xs) parts.1, parts.0)

pub declared_in : (xs : List ExitPath) (s p : ℕ) → Offered xs s p → member (declared_of xs s) p ≡ true
declared_in xs s p o = member_declared xs s p ∙ and_from (member s p) (ltb p (length xs)) o.1 (lt-ltb p (length xs) o.0)

pub declared_all : (xs : List ExitPath) (s : ℕ) → AllDeclared xs (declared_of xs s)
declared_all xs s p m = (declared_from xs s p m).0

-- of a set of declared paths nothing is dropped
pub declared_same : (xs : List ExitPath) (s : ℕ) → AllDeclared xs s → declared_of xs s ≡ s
declared_same xs s declared = and_is_left s (2 ^ length xs - 1) (λ k m. member_first (length xs) k ∙ lt-ltb k (length xs) (declared k m))

pub all_declared_part : (xs : List ExitPath) (s p : ℕ) → AllDeclared xs s → Subset p s → AllDeclared xs p
all_declared_part xs s p declared inside k m = declared k (inside k m)

-- a set of 64 numbers has its declared paths below both bounds
pub declared_first : (xs : List ExitPath) (s n k : ℕ) → s < 2 ^ 64 → n ≡ min (length xs) 64 → (member s k && (ltb k n && ltb k 64)) ≡ member (declared_of xs s) k
declared_first xs s n k fits is =
    elim (cases_lt k 64) [
      | inl l ↦
          let both : (ltb k n && ltb k 64) ≡ ltb k (length xs) = same_from_lt k n (length xs) l is in
          ap (λ (t : Bool). member s k && t) both ∙ sym (member_declared xs s k)
      | inr g ↦
          let none = member_past 64 s k fits g in
          and_left (member s k) (ltb k n && ltb k 64) none ∙ sym (member_declared xs s k ∙ and_left (member s k) (ltb k (length xs)) none)
    ]
  where
    same_from_lt : (k n len : ℕ) → k < 64 → n ≡ min len 64 → (ltb k n && ltb k 64) ≡ ltb k len
    same_from_lt k n len l is = grind (arith, nat_tests)
