-- What the body of a record declares. Assumes nothing.
use Rattle.std.specs.Prelude.{ℕ, ◌+◌, ◌*◌, cond, List, [], ◌∷◌, ◌++◌, ◌==◌, slice_index}
use Rattle.records.specs.declared.kind.Kind.{Kind}
use Rattle.records.specs.declared.kind.Kind.TheVariants.{Router as router_kind, Link as link_kind, Session as session_kind, Path as path_kind}
use Rattle.layout.specs.Table.{Declared}
use Rattle.layout.specs.declared.link.Link.{Link}
use Rattle.layout.specs.declared.link.Pair.{Pair}
use Rattle.layout.specs.declared.link.Session.{Session}
use Rattle.layout.specs.declared.path.ExitPath.{ExitPath}
use Rattle.layout.specs.declared.router.Role.{Role}
use Rattle.layout.specs.declared.router.Role.TheVariants.{Client, Reflector}
use Rattle.layout.specs.declared.router.Router.{Router}

abbrev pub byte : List ℕ → ℕ → ℕ
byte body i = slice_index body i

-- the number in two or four bytes from i on
abbrev pub two : List ℕ → ℕ → ℕ
two body i = byte body i * 256 + byte body (i + 1)

abbrev pub four : List ℕ → ℕ → ℕ
four body i = byte body i * 16777216 + byte body (i + 1) * 65536 + byte body (i + 2) * 256 + byte body (i + 3)

abbrev pub role_in : ℕ → Role
role_in b = cond (b == 1) Reflector Client

abbrev pub router_in : List ℕ → Router
router_in body = record { cluster = byte body 0; role = role_in (byte body 1) }

abbrev pub pair_in : List ℕ → Pair
pair_in body = record { a = byte body 0; b = byte body 1 }

abbrev pub link_in : List ℕ → Link
link_in body = record { ends = pair_in body; metric = two body 2 }

abbrev pub session_in : List ℕ → Session
session_in body = record { ends = pair_in body }

abbrev pub path_in : List ℕ → ExitPath
path_in body = record { exit_point = byte body 0; neighbour_as = four body 1; local_pref = four body 5; as_path_len = byte body 9; med = four body 10; exit_cost = two body 14; speaker = four body 16 }

-- one record more
abbrev pub adding : Declared → Kind → List ℕ → Declared
adding t router_kind body = record { routers = t.routers ++ router_in body ∷ []; links = t.links; sessions = t.sessions; paths = t.paths }
adding t link_kind body = record { routers = t.routers; links = t.links ++ link_in body ∷ []; sessions = t.sessions; paths = t.paths }
adding t session_kind body = record { routers = t.routers; links = t.links; sessions = t.sessions ++ session_in body ∷ []; paths = t.paths }
adding t path_kind body = record { routers = t.routers; links = t.links; sessions = t.sessions; paths = t.paths ++ path_in body ∷ [] }
