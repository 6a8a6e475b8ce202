-- The exit paths of a router, one path after another. Assumes nothing.
use Rattle.std.proofs.Common.{◌≡◌, ℕ, zero, suc, ◌+◌, ◌*◌, ◌/◌, ◌%◌, ◌<◌, ◌≤◌, Bool, true, false, cond, ◌&&◌, ◌||◌, eqb, ltb, List, [], ◌∷◌, length, sym, refl, ap, ◌∙◌, ⊎_elim, arith}
use Rattle.std.proofs.lemmas.Bool.{cases_lt, lt-ltb, le-ltb, cases_eq}
use Rattle.std.proofs.lemmas.Bool.Decides.{nat_tests}
use Rattle.layout.specs.Table.{path_at}
use Rattle.layout.specs.declared.path.ExitPath.{ExitPath}
use Rattle.sets.specs.Members.{member}
use Rattle.sets.proofs.Digits.{member_none, member_zero, member_suc}
use Rattle.sets.proofs.Same.{same_set}
use Rattle.tables.specs.Exits.{leaves_at, exits_of}

pub leaves_here : (v : ℕ) (xs : List ExitPath) (i : ℕ) → i < length xs → leaves_at v xs i ≡ eqb (path_at xs i).exit_point v
leaves_here v [] i lt = absurd (omega arith)
leaves_here v (x ∷ xs) zero lt = refl
leaves_here v (x ∷ xs) (suc i) lt = leaves_here v xs i (omega arith)

leaves_past : (v : ℕ) (xs : List ExitPath) (p : ℕ) → length xs ≤ p → leaves_at v xs p ≡ false
leaves_past v [] p le = refl
leaves_past v (x ∷ xs) zero le = absurd (omega arith)
leaves_past v (x ∷ xs) (suc p) le = leaves_past v xs p (omega arith)

-- one path more, that is an exit of the router or is not
pub exits_with : (f : ℕ → Bool) (i : ℕ) → i < 64 → f i ≡ true → (k : ℕ) (old : Bool) → old ≡ (ltb k i && f k) → (old || (eqb k i && ltb k 64)) ≡ (ltb k (i + 1) && f k)
exits_with f i lt here k old e =
    ⊎_elim
    (λ same. let at : f k ≡ true = ap f same ∙ here in grind (arith, nat_tests))
    (λ other. grind (arith, nat_tests))
    (cases_eq k i)

pub exits_without : (f : ℕ → Bool) (i : ℕ) → f i ≡ false → (k : ℕ) (old : Bool) → old ≡ (ltb k i && f k) → old ≡ (ltb k (i + 1) && f k)
exits_without f i here k old e =
    ⊎_elim
    (λ same. let at : f k ≡ false = ap f same ∙ here in grind (arith, nat_tests))
    (λ other. grind (arith, nat_tests))
    (cases_eq k i)

pub exits_all : (v : ℕ) (xs : List ExitPath) (i : ℕ) → length xs ≤ i → (k : ℕ) → (ltb k i && leaves_at v xs k) ≡ leaves_at v xs k
exits_all v xs i le k =
    ⊎_elim (λ lt. ap (λ b. b && leaves_at v xs k) (lt-ltb k i lt)) (λ ge. ap (λ b. b && leaves_at v xs k) (le-ltb k i ge) ∙ sym (leaves_past v xs k (omega arith))) (cases_lt k i)

lowest : (b : Bool) (w : ℕ) → eqb ((cond b 1 0 + 2 * w) % 2) 1 ≡ b
lowest true w = let e : (1 + 2 * w) % 2 ≡ 1 = omega arith in ap (λ (x : ℕ). eqb x 1) e
lowest false w = let e : (0 + 2 * w) % 2 ≡ 0 = omega arith in ap (λ (x : ℕ). eqb x 1) e

higher : (b : Bool) (w : ℕ) → (cond b 1 0 + 2 * w) / 2 ≡ w
higher true w = omega arith
higher false w = omega arith

-- the members of a router's set of exit paths
pub exits_tell : (v : ℕ) (xs : List ExitPath) (p : ℕ) → member (exits_of v xs) p ≡ leaves_at v xs p
exits_tell v [] p = member_none p
exits_tell v (x ∷ xs) zero = member_zero (exits_of v (x ∷ xs)) ∙ lowest (eqb x.exit_point v) (exits_of v xs)
exits_tell v (x ∷ xs) (suc p) =
    member_suc (exits_of v (x ∷ xs)) p
    ∙ ap (λ (w : ℕ). member w p) (higher (eqb x.exit_point v) (exits_of v xs))
    ∙ exits_tell v xs p

-- a set with these members is that set
pub exits_are : (v : ℕ) (xs : List ExitPath) (set : ℕ) → ((p : ℕ) → member set p ≡ leaves_at v xs p) → set ≡ exits_of v xs
exits_are v xs set same = same_set set (exits_of v xs) (λ p. same p ∙ sym (exits_tell v xs p))
