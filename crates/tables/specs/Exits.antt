-- The exit paths of a router. Assumes nothing.
use Rattle.std.specs.Prelude.{ℕ, zero, suc, ◌+◌, ◌*◌, Bool, false, if◌then◌else◌, List, [], ◌∷◌, ◌==◌}
use Rattle.layout.specs.declared.path.ExitPath.{ExitPath}

-- whether path p is declared and has router v as its exit point
abbrev pub leaves_at : ℕ → List ExitPath → ℕ → Bool
leaves_at v [] p = false
leaves_at v (x ∷ xs) zero = x.exit_point == v
leaves_at v (x ∷ xs) (suc p) = leaves_at v xs p

-- the set of those paths
abbrev pub exits_of : ℕ → List ExitPath → ℕ
exits_of v [] = 0
exits_of v (x ∷ xs) = (if x.exit_point == v then 1 else 0) + 2 * exits_of v xs
