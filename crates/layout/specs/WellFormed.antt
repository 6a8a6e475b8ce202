-- When a table is well-formed, in the terms of an operator. Assumes nothing.
use Rattle.std.specs.Prelude.{◌≡◌, ℕ, ◌^◌, ◌<◌, ◌≤◌, ◌⊎◌, List, [], ◌∷◌, map, length, All, Contains, ◌≢◌, slice_index_or}
use Rattle.layout.specs.Table.{Declared}
use Rattle.layout.specs.declared.link.Link.{Link}
use Rattle.layout.specs.declared.link.Pair.{Pair}
use Rattle.layout.specs.declared.link.Session.{Session}
use Rattle.layout.specs.declared.path.ExitPath.{ExitPath}
use Rattle.layout.specs.declared.router.Role.TheVariants.{Client, Reflector}
use Rattle.layout.specs.declared.router.Router.{Router}

-- router v is declared, as r
abbrev pub Is : List Router → ℕ → Router → Type 0
Is routers v r = (v < length routers) × (slice_index_or routers v r ≡ r)

abbrev pub client : ℕ → Router
client c = record { cluster = c; role = Client }

abbrev pub reflector : ℕ → Router
reflector c = record { cluster = c; role = Reflector }

-- two pairs are the same two routers, in either order
abbrev pub Same : Pair → Pair → Type 0
Same p q = ((p.a ≡ q.a) × (p.b ≡ q.b)) ⊎ ((p.a ≡ q.b) × (p.b ≡ q.a))

-- no pair comes twice
abbrev pub Apart : List Pair → Type 0
Apart [] = Unit {0}
Apart (p ∷ ps) = All (λ q. Same p q → ⊥) ps × Apart ps

-- two different routers, both declared
abbrev pub Joins : ℕ → Pair → Type 0
Joins n p = (p.a < n) × (p.b < n) × (p.a ≢ p.b)

-- two clients of one cluster
abbrev pub ClientsOfOne : List Router → Pair → Type 0
ClientsOfOne routers p = (c : ℕ) × Is routers p.a (client c) × Is routers p.b (client c)

abbrev pub RouterFits : Router → Type 0
RouterFits r = r.cluster < 32

-- n is the number of routers
abbrev pub LinkFits : ℕ → Link → Type 0
LinkFits n l = Joins n l.ends × (1 ≤ l.metric) × (l.metric < 2 ^ 16)

abbrev pub SessionFits : List Router → Session → Type 0
SessionFits routers s = Joins (length routers) s.ends × ClientsOfOne routers s.ends

pub record PathFits (n : ℕ) (p : ExitPath) : Type 0 where
  pub at_router : p.exit_point < n
  pub neighbour : p.neighbour_as < 2 ^ 32
  pub preference : p.local_pref < 2 ^ 32
  pub some_as : 1 ≤ p.as_path_len
  pub as_byte : p.as_path_len < 2 ^ 8
  pub med : p.med < 2 ^ 32
  pub cost : p.exit_cost < 2 ^ 16
  pub speaker : p.speaker < 2 ^ 32

abbrev pub link_ends : Link → Pair
link_ends l = l.ends

abbrev pub session_ends : Session → Pair
session_ends s = s.ends

-- every record keeps the rules that speak of it and of those before it
pub record Sound (t : Declared) : Type 0 where
  pub few_routers : length t.routers ≤ 32
  pub few_links : length t.links ≤ 128
  pub few_sessions : length t.sessions ≤ 64
  pub few_paths : length t.paths ≤ 64
  pub routers_fit : All RouterFits t.routers
  pub links_fit : All (LinkFits (length t.routers)) t.links
  pub links_apart : Apart (map link_ends t.links)
  pub sessions_fit : All (SessionFits t.routers) t.sessions
  pub sessions_apart : Apart (map session_ends t.sessions)
  pub paths_fit : All (PathFits (length t.routers)) t.paths

-- a link joins a and b
abbrev pub Linked : List Link → ℕ → ℕ → Type 0
Linked links a b = (l : Link) × Contains links l × Same l.ends (record { a = a; b = b })

-- a chain of links leads from a to b
pub data Chain (links : List Link) : ℕ → ℕ → Type 0 where
  stay : (a : ℕ) → Chain links a a
  along : (a b c : ℕ) → Linked links a b → Chain links b c → Chain links a c

-- some reflector serves every client's cluster
abbrev pub Led : List Router → Type 0
Led routers = (v c : ℕ) → Is routers v (client c) → (w : ℕ) × Is routers w (reflector c)

-- links join every router to router 0
abbrev pub Connected : Declared → Type 0
Connected t = (v : ℕ) → v < length t.routers → Chain t.links 0 v

pub record WellFormed (t : Declared) : Type 0 where
  pub sound : Sound t
  pub some_router : 1 ≤ length t.routers
  pub led : Led t.routers
  pub connected : Connected t
