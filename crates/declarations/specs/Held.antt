-- What has been declared, as plain lists. Assumes nothing.
use Rattle.std.specs.Prelude.{◌≡◌, ℕ, cond, ◌&&◌, List, length, Ok, Err, Result, OnErr, nat_le, nat_lt}
use Rattle.faults.specs.declared.table.TableFault.{TableFault}
use Rattle.faults.specs.declared.table.TableFault.TheVariants.{TooMany, OutOfRange, BadPair}
use Rattle.layout.specs.Checks.{wrong_pair, declaring}
use Rattle.records.specs.declared.kind.Kind.{Kind}
use Rattle.layout.specs.Table.{Declared}
use Rattle.layout.specs.declared.link.Pair.{Pair}
use Rattle.declarations.specs.declared.declarations.Declarations.{Declarations}

abbrev pub declared_in : Declarations → Declared
declared_in l = record { routers = l.routers; links = l.links; sessions = l.sessions; paths = l.paths }

-- whether a list of at most n elements has room for the record at a place
abbrev pub fitting : ℕ → ℕ → ℕ → Result (Unit {0}) TableFault
fitting n len place = cond (nat_le n len) (Err (TooMany place)) (Ok tt)

-- whether a record at a place may join two routers: both are declared, they differ, and no earlier pair is the same two
abbrev pub joining : Declared → ℕ → Pair → List Pair → Result (Unit {0}) TableFault
joining t place p earlier =
    cond (nat_lt p.a (length t.routers) && nat_lt p.b (length t.routers))
    (cond (wrong_pair p earlier) (Err (BadPair place)) (Ok tt))
    (Err (OutOfRange place))

-- what one more record came to: what is declared then, or the fault
abbrev pub outcome : {A : Type 0} → Result A TableFault → Declared → Result Declared TableFault
outcome (Ok x) t = Ok t
outcome (Err fault) t = Err fault

-- a record of a kind, with a body, came at a place: what is declared then, or the first rule that it breaks, and then
-- everything is as it was
pub record Declares (old : Declared) (place : ℕ) (kind : Kind) (body : List ℕ) (r : Result (Unit {0}) TableFault) (new : Declared) : Type 0 where
  pub value : outcome r new ≡ declaring old place kind body
  pub kept : OnErr r (new ≡ old)
