-- The first place that passes a test. Assumes nothing.
use Rattle.std.proofs.Common.{◌≡◌, ℕ, zero, suc, ◌+◌, ◌<◌, Bool, true, false, cond, List, [], ◌∷◌, length, get_or, Some, None, Option, sym, refl, subst, arith}
use Rattle.std.proofs.lemmas.Bool.{both_ways}
use Rattle.std.specs.List.{position, position_from}
use Rattle.std.proofs.lemmas.Iterator.Adapters.{position_from-zero}

module _ {X : Type 0} (p : X → Bool) where
  -- no place passes, or place m is the first that does, counted from i
  abbrev pub First : ℕ → List X → Option ℕ → Type 0
  First i xs None = (k : ℕ) (d : X) → k < length xs → p (get_or xs k d) ≡ false
  First i xs (Some v) = (m : ℕ) × (v ≡ i + m) × (m < length xs) × ((d : X) → p (get_or xs m d) ≡ true) × ((k : ℕ) (d : X) → k < m → p (get_or xs k d) ≡ false)

  none_more : (x : X) (xs : List X) → p x ≡ false → ((k : ℕ) (d : X) → k < length xs → p (get_or xs k d) ≡ false) → (k : ℕ) (d : X) → k < length (x ∷ xs) → p (get_or (x ∷ xs) k d) ≡ false
  none_more x xs e h zero d lt = e
  none_more x xs e h (suc k) d lt = h k d (omega arith)

  before_more : (x : X) (xs : List X) (m : ℕ) → p x ≡ false → ((k : ℕ) (d : X) → k < m → p (get_or xs k d) ≡ false) → (k : ℕ) (d : X) → k < suc m → p (get_or (x ∷ xs) k d) ≡ false
  before_more x xs m e h zero d lt = e
  before_more x xs m e h (suc k) d lt = h k d (omega arith)

  later : (i : ℕ) (x : X) (xs : List X) (o : Option ℕ) → p x ≡ false → First (i + 1) xs o → First i (x ∷ xs) o
  later i x xs None e h = none_more x xs e h
  later i x xs (Some v) e h = (suc h.0, omega (arith, h.1), omega (arith, h.2), h.3, before_more x xs h.0 e h.4)

  step : (i : ℕ) (x : X) (xs : List X) (b : Bool) → p x ≡ b → First (i + 1) xs (position_from p (i + 1) xs) → First i (x ∷ xs) (cond b (Some i) (position_from p (i + 1) xs))
  step i x xs true e h = (0, omega arith, omega arith, λ d. e, λ k d lt. absurd (omega arith))
  step i x xs false e h = later i x xs (position_from p (i + 1) xs) e h

  first_from : (i : ℕ) (xs : List X) → First i xs (position_from p i xs)
  first_from i [] = λ k d lt. absurd (omega arith)
  first_from i (x ∷ xs) = step i x xs (p x) refl (first_from (i + 1) xs)

  pub first : (xs : List X) → First 0 xs (position p xs)
  first xs = subst (First 0 xs) (sym (position_from-zero p xs)) (first_from 0 xs)

  none_of : (i : ℕ) (xs : List X) (o : Option ℕ) → (X → (k : ℕ) → k < length xs → (d : X) → p (get_or xs k d) ≡ false) → First i xs o → o ≡ None
  none_of i xs None h f = refl
  none_of i [] (Some v) h f = absurd (omega (arith, f.2))
  none_of i (x ∷ xs) (Some v) h f = absurd (both_ways _ (h x f.0 f.2 x) (f.3 x))

  -- where no place passes, there is no first
  pub first_none : (xs : List X) → ((k : ℕ) (d : X) → k < length xs → p (get_or xs k d) ≡ false) → position p xs ≡ None
  first_none xs h = none_of 0 xs (position p xs) (λ _ k lt d. h k d lt) (first xs)
