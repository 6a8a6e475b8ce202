-- What a table declares, as plain lists. Assumes nothing.
use Rattle.std.specs.Prelude.{ℕ, List, [], slice_index_or}
use Rattle.layout.specs.declared.link.Link.{Link}
use Rattle.layout.specs.declared.link.Session.{Session}
use Rattle.layout.specs.declared.path.ExitPath.{ExitPath}
use Rattle.layout.specs.declared.router.Router.{Router}

-- each list in the order of the table: a router's number and a path's number are their places
pub record Declared : Type 0 where
  pub routers : List Router
  pub links : List Link
  pub sessions : List Session
  pub paths : List ExitPath

abbrev pub nothing : Declared
nothing = record { routers = []; links = []; sessions = []; paths = [] }

-- the path of a number; past the last declared one, where nobody asks, a path of zeros
abbrev pub path_at : List ExitPath → ℕ → ExitPath
path_at xs p = slice_index_or xs p (record { exit_point = 0; neighbour_as = 0; local_pref = 0; as_path_len = 0; med = 0; exit_cost = 0; speaker = 0 })
