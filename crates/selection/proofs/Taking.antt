-- A set gone through by taking one number after another out of what rests of it. Assumes nothing.
use Rattle.std.proofs.Common.{◌≡◌, ℕ, Bool, true, false, not, ◌&&◌, eqb, ◌⊎◌, sym, refl, ap, ◌∙◌, inl, inr}
use mathlib.Core.Bool.{and-false, and-true}
use Rattle.std.proofs.lemmas.Bool.{and_parts, and_left, cases_eq, eq-eqb, ne_eqb}
use Rattle.sets.specs.Members.{member, Subset}

-- j is in s and no longer in rest
abbrev pub Seen : ℕ → ℕ → ℕ → Type 0
Seen s rest j = (member s j ≡ true) × (member rest j ≡ false)

-- r is rest without p
abbrev pub Taken : ℕ → ℕ → ℕ → Type 0
Taken rest p r = (k : ℕ) → member r k ≡ (member rest k && not (eqb k p))

pub taken_within : (rest p r : ℕ) → Taken rest p r → Subset r rest
taken_within rest p r taken k m = (and_parts (member rest k) (not (eqb k p)) (sym (taken k) ∙ m)).0

pub taken_out : (rest p r : ℕ) → Taken rest p r → member r p ≡ false
taken_out rest p r taken = taken p ∙ ap (λ (t : Bool). member rest p && not t) (eq-eqb p p refl) ∙ and-false (member rest p)

pub taken_still : (s rest p r j : ℕ) → Taken rest p r → Seen s rest j → Seen s r j
taken_still s rest p r j taken seen = (seen.0, taken j ∙ and_left (member rest j) (not (eqb j p)) seen.1)

-- what is seen now was seen before or is p
pub taken_cases : (s rest p r j : ℕ) → Taken rest p r → Seen s r j → (j ≡ p) ⊎ Seen s rest j
taken_cases s rest p r j taken seen =
    elim (cases_eq j p) [
      | inl e ↦ inl e
      | inr d ↦ inr (seen.0, sym (taken j ∙ ap (λ (t : Bool). member rest j && not t) (ne_eqb j p d) ∙ and-true (member rest j)) ∙ seen.1)
    ]
