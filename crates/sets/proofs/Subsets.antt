-- Sets within one another.
use Rattle.std.proofs.Common.{◌≡◌, ℕ, Bool, true, false, eqb, Decides, sym, refl, ap, ◌∙◌}
use lib.Bits.{bit_and, bit_or}
use Rattle.std.proofs.lemmas.Bool.{eqb-true, eq-eqb, and_parts, and_from, or_left}
use Rattle.sets.specs.Members.{member, Subset}
use Rattle.sets.proofs.Operations.{member_or, member_and}
use Rattle.sets.proofs.Same.{same_set}

pub subset_refl : (a : ℕ) → Subset a a
subset_refl a k m = m

same_test : (s t : Bool) → (s ≡ true → t ≡ true) → (t ≡ true → s ≡ true) → s ≡ t
same_test true t p q = sym (p refl)
same_test false true p q = q refl
same_test false false p q = refl

-- two sets within each other are one
pub same_from_subsets : (a b : ℕ) → Subset a b → Subset b a → a ≡ b
same_from_subsets a b p q = same_set a b (λ k. same_test (member a k) (member b k) (p k) (q k))

pub subset_or_left : (a b : ℕ) → Subset a (bit_or a b)
subset_or_left a b k m = member_or a b k ∙ or_left (member a k) (member b k) m

pub and_subset_left : (a b : ℕ) → Subset (bit_and a b) a
and_subset_left a b k m = (and_parts (member a k) (member b k) (sym (member_and a b k) ∙ m)).0

pub and_subset_right : (a b : ℕ) → Subset (bit_and a b) b
and_subset_right a b k m = (and_parts (member a k) (member b k) (sym (member_and a b k) ∙ m)).1

-- what is within two sets is within what they share
pub subset_and : (a b c : ℕ) → Subset c a → Subset c b → Subset c (bit_and a b)
subset_and a b c p q k m = member_and a b k ∙ and_from (member a k) (member b k) (p k m) (q k m)

-- a is within b where the two share a
pub and_is_left : (a b : ℕ) → Subset a b → bit_and a b ≡ a
and_is_left a b p = same_from_subsets (bit_and a b) a (and_subset_left a b) (subset_and a b a (subset_refl a) p)

pub subset_from_and : (a b : ℕ) → bit_and a b ≡ a → Subset a b
subset_from_and a b e k m = and_subset_right a b k (ap (λ (x : ℕ). member x k) e ∙ m)

pub decides_subset : (a b : ℕ) → Decides (eqb (bit_and a b) a) (Subset a b)
decides_subset a b = (λ e. subset_from_and a b (eqb-true (bit_and a b) a e), λ p. eq-eqb (bit_and a b) a (and_is_left a b p))
