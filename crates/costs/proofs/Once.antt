-- A list in which no router comes twice is no longer than there are routers. Assumes nothing.
use Rattle.std.proofs.Common.{◌≡◌, ℕ, zero, suc, ◌^◌, ◌<◌, ◌≤◌, true, false, eqb, ◌⊎◌, List, [], ◌∷◌, length, get_or, All, Contains, sym, refl, ◌∙◌, subst, inl, inr, ⊎_elim, arith}
use lib.Bits.{bit_or}
use lib.Count.{ones}
use Rattle.std.proofs.lemmas.Nat.{pow_pos, pow_below, or_lt, ones-le}
use Rattle.std.proofs.lemmas.List.Elements.{All-head, All-tail, Contains-append_right}
use Rattle.std.proofs.lemmas.Bool.{both_ways, cases_Bool, cases_eq, or_cases, eqb-true}
use Rattle.sets.specs.Members.{member}
use Rattle.sets.proofs.Digits.{member_none}
use Rattle.sets.proofs.Single.{member_with}
use Rattle.sets.proofs.Counting.{ones_with}
use Rattle.layout.proofs.Pairs.{has_first}
use Rattle.costs.specs.Once.{Once}

pub has_later : (v : ℕ) (vs : List ℕ) (w : ℕ) → Contains vs w → Contains (v ∷ vs) w
has_later v vs w h = Contains-append_right (v ∷ []) vs w h

-- a router of a list comes first, or later
pub has_cases : (v : ℕ) (vs : List ℕ) (w : ℕ) → Contains (v ∷ vs) w → (v ≡ w) ⊎ Contains vs w
has_cases v vs w h = go h.0 h.1 h.2
  where
    go : (k : ℕ) → k < suc (length vs) → get_or (v ∷ vs) k w ≡ w → (v ≡ w) ⊎ Contains vs w
    go zero l at = inl at
    go (suc k) l at = inr (k, omega arith, at)

-- a list has a router, or does not
pub has_or_not : (vs : List ℕ) (w : ℕ) → Contains vs w ⊎ (Contains vs w → ⊥)
has_or_not [] w = inr (λ h. omega (arith, h.1))
has_or_not (v ∷ vs) w =
    elim (cases_eq v w) [
      | inl e ↦ inl (subst (Contains (v ∷ vs)) e (has_first v vs))
      | inr d ↦ ⊎_elim (λ h. inl (has_later v vs w h)) (λ none. inr (λ h. ⊎_elim d none (has_cases v vs w h))) (has_or_not vs w)
    ]

-- the word of a list
word : List ℕ → ℕ
word [] = 0
word (v ∷ vs) = bit_or (word vs) (2 ^ v)

-- it is below 2 ^ n where the routers are below n
word_below : (n : ℕ) (vs : List ℕ) → All (λ v. v < n) vs → word vs < 2 ^ n
unfolding word
word_below n [] h = pow_pos n
word_below n (v ∷ vs) h = or_lt n (word vs) (2 ^ v) (word_below n vs (All-tail (λ x. x < n) v vs h)) (pow_below v n (All-head (λ x. x < n) v vs h))

-- its members are routers of the list
has_from_word : (vs : List ℕ) (v : ℕ) → member (word vs) v ≡ true → Contains vs v
unfolding word
has_from_word [] v h = absurd (both_ways (member 0 v) (member_none v) h)
has_from_word (x ∷ vs) v h =
    ⊎_elim
    (λ m. has_later x vs v (has_from_word vs v m))
    (λ e. subst (Contains (x ∷ vs)) (sym (eqb-true v x e)) (has_first x vs))
    (or_cases (member (word vs) v) (eqb v x) (sym (member_with (word vs) x v) ∙ h))

-- a router that the list lacks is no member
new_member : (vs : List ℕ) (v : ℕ) → (Contains vs v → ⊥) → member (word vs) v ≡ false
new_member vs v h = ⊎_elim (λ m. absurd (h (has_from_word vs v m))) (λ m. m) (cases_Bool (member (word vs) v))

-- where none comes twice, the word has as many members as the list is long
word_ones : (vs : List ℕ) → Once vs → ones (word vs) ≡ length vs
unfolding word ones
word_ones [] h = refl
word_ones (v ∷ vs) h = ones_with (word vs) v (new_member vs v h.0) ∙ (let rest = word_ones vs h.1 in omega arith)

-- so at most n different routers are below n
pub once_short : (n : ℕ) (vs : List ℕ) → Once vs → All (λ v. v < n) vs → length vs ≤ n
once_short n vs h below = subst (λ x. x ≤ n) (word_ones vs h) (ones-le n (word vs) (word_below n vs below))
