-- The table of a network. Assumes nothing.
use Rattle.layout.specs.Table.{Declared}
use Rattle.layout.specs.WellFormed.{Connected, Led, Sound}

-- a table that a network has: a well-formed one, or that in which nothing is declared
pub record Fits (t : Declared) : Type 0 where
  pub sound : Sound t
  pub led : Led t.routers
  pub connected : Connected t
