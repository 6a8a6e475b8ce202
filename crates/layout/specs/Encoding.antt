-- The bytes of a table. Assumes nothing.
use Rattle.std.specs.Prelude.{ℕ, ◌/◌, ◌%◌, List, [], ◌∷◌, ◌++◌}
use Rattle.std.specs.List.{flat_map}
use Rattle.layout.specs.Table.{Declared}
use Rattle.layout.specs.declared.link.Link.{Link}
use Rattle.layout.specs.declared.link.Session.{Session}
use Rattle.layout.specs.declared.path.ExitPath.{ExitPath}
use Rattle.layout.specs.declared.router.Role.{Role}
use Rattle.layout.specs.declared.router.Role.TheVariants.{Client, Reflector}
use Rattle.layout.specs.declared.router.Router.{Router}

-- a number of several bytes has the highest byte first
abbrev pub two_bytes : ℕ → List ℕ
two_bytes n = n / 256 ∷ n % 256 ∷ []

abbrev pub four_bytes : ℕ → List ℕ
four_bytes n = n / 16777216 ∷ n / 65536 % 256 ∷ n / 256 % 256 ∷ n % 256 ∷ []

abbrev pub role_byte : Role → ℕ
role_byte Client = 0
role_byte Reflector = 1

-- a record is its kind's byte and its body
abbrev pub router_bytes : Router → List ℕ
router_bytes r = 1 ∷ r.cluster ∷ role_byte r.role ∷ []

abbrev pub link_bytes : Link → List ℕ
link_bytes l = 2 ∷ l.ends.a ∷ l.ends.b ∷ two_bytes l.metric

abbrev pub session_bytes : Session → List ℕ
session_bytes s = 3 ∷ s.ends.a ∷ s.ends.b ∷ []

abbrev pub path_body : ExitPath → List ℕ
path_body p =
    p.exit_point ∷ (four_bytes p.neighbour_as ++ (four_bytes p.local_pref ++ (p.as_path_len ∷ (four_bytes p.med ++ (two_bytes p.exit_cost ++ four_bytes p.speaker)))))

abbrev pub path_bytes : ExitPath → List ℕ
path_bytes p = 4 ∷ path_body p

-- routers, then links, then sessions, then paths
abbrev pub encoded : Declared → List ℕ
encoded t = flat_map router_bytes t.routers ++ (flat_map link_bytes t.links ++ (flat_map session_bytes t.sessions ++ flat_map path_bytes t.paths))
