-- The four kinds of record: their bytes and the lengths of their bodies. Assumes nothing.
use Rattle.std.specs.Prelude.{◌≡◌, ℕ, cond, Some, None, Option, Result, MatchResult, ◌==◌}
use Rattle.records.specs.declared.kind.Kind.{Kind}
use Rattle.records.specs.declared.kind.NoKind.{NoKind}
use Rattle.records.specs.declared.kind.Kind.TheVariants.{Router, Link, Session, Path}

-- the byte that begins a record of a kind
abbrev pub kind_byte : Kind → ℕ
kind_byte Router = 1
kind_byte Link = 2
kind_byte Session = 3
kind_byte Path = 4

-- how many bytes follow that byte
abbrev pub body_length : Kind → ℕ
body_length Router = 2
body_length Link = 4
body_length Session = 2
body_length Path = 20

-- the kind that a byte begins, if any
abbrev pub kind_of : ℕ → Option Kind
kind_of b = cond (b == 1) (Some Router) (cond (b == 2) (Some Link) (cond (b == 3) (Some Session) (cond (b == 4) (Some Path) None)))

-- the result is the kind that a byte begins, or that byte where it begins none
abbrev pub IsKindOf : ℕ → Result Kind NoKind → Type 0
IsKindOf b r = MatchResult r (λ kind. kind_of b ≡ Some kind) (λ e. (kind_of b ≡ None) × (e.0 ≡ b))

-- the byte of the kind before, 0 before the first record
abbrev pub byte_before : Option Kind → ℕ
byte_before None = 0
byte_before (Some kind) = kind_byte kind
