-- What a loop over numbers has gathered, one number further on. Assumes nothing.
use Rattle.std.proofs.Common.{◌≡◌, ℕ, zero, suc, ◌+◌, ◌<◌, ◌≤◌, Bool, true, false, ◌&&◌, ◌||◌, eqb, ltb, List, [], ◌∷◌, length, replicate, set, sym, refl, ap, ◌∙◌, inl, inr, arith}
use Rattle.std.proofs.lemmas.Bool.{cases_eq}
use Rattle.std.proofs.lemmas.Bool.Decides.{nat_tests}
use Rattle.std.proofs.lemmas.List.{get_or-set_same, get_or-set_other}
use Rattle.layout.specs.Table.{path_at}
use Rattle.layout.specs.declared.path.ExitPath.{ExitPath}
use Rattle.sets.specs.Members.{member}
use Rattle.tables.specs.Exits.{leaves_at}
use Rattle.protocol.specs.Network.{set_of}

module _ (test : ℕ → Bool) (old w : ℕ) (had : (k : ℕ) → member old k ≡ (ltb k w && test k)) where
  -- the number passes the test, and was put in
  pub gather_more : (new width : ℕ) → w < width → test w ≡ true → ((k : ℕ) → member new k ≡ (member old k || (eqb k w && ltb k width))) → (k : ℕ) → member new k ≡ (ltb k (w + 1) && test k)
  gather_more new width low passes put k =
      elim (cases_eq k w) [
        | inl here ↦ grind (arith, nat_tests, put k, had k, low, here, ap test here, passes)
        | inr other ↦ grind (arith, nat_tests, put k, had k, other)
      ]

  -- it does not, and was left out
  pub gather_same : test w ≡ false → (k : ℕ) → member old k ≡ (ltb k (w + 1) && test k)
  gather_same fails k =
      elim (cases_eq k w) [
        | inl here ↦ grind (arith, nat_tests, had k, here, ap test here, fails)
        | inr other ↦ grind (arith, nat_tests, had k, other)
      ]

-- the sets of the first routers are right, and that of one more is put in
pub set_grows :
    (f : ℕ → ℕ → Bool) (sets : List ℕ) (v new : ℕ) → v < 32 → length sets ≡ 32 → ((u p : ℕ) → u < v → member (set_of sets u) p ≡ f u p) →
    ((p : ℕ) → member new p ≡ f v p) → (u p : ℕ) → u < v + 1 → member (set_of (set sets v new) u) p ≡ f u p
set_grows f sets v new low long had here u p below =
    elim (cases_eq u v) [
      | inl e ↦
          ap (λ (w : ℕ). member (set_of (set sets v new) w) p) e ∙ ap (λ (s : ℕ). member s p) (get_or-set_same sets v new 0 (omega (arith, low, long)))
          ∙ here p ∙ ap (λ (w : ℕ). f w p) (sym e)
      | inr other ↦ ap (λ (s : ℕ). member s p) (get_or-set_other sets v u new 0 other) ∙ had u p (omega (arith, below, other))
    ]

-- at first there are only empty sets
pub empty_sets : (n empty u : ℕ) → empty ≡ 0 → set_of (replicate n empty) u ≡ 0
empty_sets zero empty u e = refl
empty_sets (suc n) empty zero e = e
empty_sets (suc n) empty (suc u) e = empty_sets n empty u e

-- the sets from that router on stay empty
pub set_past :
    (sets : List ℕ) (v new : ℕ) → ((u : ℕ) → v ≤ u → set_of sets u ≡ 0) →
    (u : ℕ) → v + 1 ≤ u → set_of (set sets v new) u ≡ 0
set_past sets v new none u past =
    get_or-set_other sets v u new 0 (λ e. omega (arith, past, e)) ∙ none u (omega (arith, past))

-- the exit paths of a router
pub leaves_tells : (v : ℕ) (xs : List ExitPath) (p : ℕ) → leaves_at v xs p ≡ (ltb p (length xs) && eqb (path_at xs p).exit_point v)
leaves_tells v [] p = grind (arith, nat_tests)
leaves_tells v (x ∷ xs) zero = grind (arith, nat_tests)
leaves_tells v (x ∷ xs) (suc p) = leaves_tells v xs p ∙ grind (arith, nat_tests)
