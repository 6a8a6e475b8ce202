-- What a network holds, and which paths its routers pass to each other. Assumes nothing.
use Rattle.std.specs.Prelude.{ℕ, Bool, not, ◌&&◌, ◌||◌, List, map, length, ◌==◌, slice_index_or}
use Rattle.layout.specs.Checks.{is_client, repeats}
use Rattle.layout.specs.Table.{Declared}
use Rattle.layout.specs.WellFormed.{session_ends, client}
use Rattle.layout.specs.declared.router.Router.{Router}
use Rattle.packets.specs.Best.{exit_of}
use Rattle.selection.specs.Stages.{those, some}
use Rattle.sets.specs.Members.{member}

-- a network: its table, the injected paths, and for each of 32 router numbers the set of paths that the router knows and the one
-- that it advertises; where no router has the number, both are empty
pub record State : Type 0 where
  pub table : Declared
  pub injected : ℕ
  pub known : List ℕ
  pub advertised : List ℕ

-- the set of router v
abbrev pub set_of : List ℕ → ℕ → ℕ
set_of sets v = slice_index_or sets v 0

module _ (t : Declared) where
  -- router v; past the last declared one, where nobody asks, a client of cluster 0
  abbrev pub router_at : ℕ → Router
  router_at v = slice_index_or t.routers v (client 0)

  abbrev pub reflects : ℕ → Bool
  reflects v = not (is_client (router_at v).role)

  -- whether two routers are of one cluster
  abbrev pub together : ℕ → ℕ → Bool
  together v w = (router_at v).cluster == (router_at w).cluster

  -- whether a client session joins two routers
  abbrev pub in_session : ℕ → ℕ → Bool
  in_session v w = repeats (record { a = v; b = w }) (map session_ends t.sessions)

  -- whether v and w are peers: both are reflectors, or one is a reflector of the other's cluster, or a client session joins them
  abbrev pub peers : ℕ → ℕ → Bool
  peers v w = not (v == w) && ((reflects v && reflects w) || ((together v w && (reflects v || reflects w)) || in_session v w))

  -- the cases in which w passes a path to its peer v, where e is the path's exit point
  -- w is the exit point
  abbrev pub from_its_exit : ℕ → ℕ → Bool
  from_its_exit w e = w == e

  -- from reflector to reflector of another cluster, where one of w's clients is the exit point
  abbrev pub between_clusters : ℕ → ℕ → ℕ → Bool
  between_clusters w v e = reflects w && (reflects v && (not (together w v) && (not (reflects e) && together e w)))

  -- w reflects to its client v, which is not the exit point
  abbrev pub to_a_client : ℕ → ℕ → ℕ → Bool
  to_a_client w v e = reflects w && (not (reflects v) && (together w v && not (v == e)))

  -- whether w passes path p to its peer v
  abbrev pub passes : ℕ → ℕ → ℕ → Bool
  passes w v p = from_its_exit w (exit_of t p) || (between_clusters w v (exit_of t p) || to_a_client w v (exit_of t p))

  -- the injected paths of router v
  abbrev pub own_of : ℕ → ℕ → ℕ
  own_of injected v = those (λ p. exit_of t p == v && member injected p) (length t.paths)

  -- whether some peer of v advertises path p and passes it to v
  abbrev pub offered_by_peers : List ℕ → ℕ → ℕ → Bool
  offered_by_peers advertised v p = some (λ w. peers w v && (member (set_of advertised w) p && passes w v p)) (length t.routers)

  -- what router v knows by its own paths and its peers
  abbrev pub learned : ℕ → List ℕ → ℕ → ℕ
  learned injected advertised v = those (λ p. (exit_of t p == v && member injected p) || offered_by_peers advertised v p) (length t.paths)
