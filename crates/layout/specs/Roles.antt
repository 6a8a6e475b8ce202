-- The roles of a router, their bytes and their names. Assumes nothing.
use Rattle.std.specs.Prelude.{◌≡◌, ℕ, ◌<◌, List, Result, MatchResult, codes}
use Rattle.layout.specs.Encoding.{role_byte}
use Rattle.layout.specs.declared.router.NoRole.{NoRole}
use Rattle.layout.specs.declared.router.Role.{Role}
use Rattle.layout.specs.declared.router.Role.TheVariants.{Client, Reflector}

-- the result is the role whose byte this is, or the byte where it is past them all
abbrev pub IsRoleOf : ℕ → Result Role NoRole → Type 0
IsRoleOf b r = MatchResult r (λ role. role_byte role ≡ b) (λ e. (1 < b) × (e.0 ≡ b))

-- what a role prints as
abbrev pub role_name : Role → List ℕ
role_name Client = codes "client"
role_name Reflector = codes "reflector"
