-- What is held of each router, so that what it learns is soon told. Assumes nothing.
use Rattle.std.specs.Prelude.{◌≡◌, ℕ, ◌<◌, ◌≤◌, Bool, not, ◌&&◌, ◌||◌, List, length, ◌==◌, nat_lt}
use Rattle.layout.specs.Table.{Declared}
use Rattle.packets.specs.Best.{exit_of}
use Rattle.sets.specs.Members.{member}
use Rattle.protocol.specs.Network.{set_of, reflects, together, peers, between_clusters, to_a_client, passes}

module _ (t : Declared) where
  -- the exit paths of router v
  abbrev pub exits_by : ℕ → ℕ → Bool
  exits_by v p = nat_lt p (length t.paths) && exit_of t p == v

  -- whether router w is a client of v's cluster
  abbrev pub client_by : ℕ → ℕ → Bool
  client_by w v = not (reflects t w) && together t w v

  -- the exit paths of the clients of v's cluster
  abbrev pub client_exits_by : ℕ → ℕ → Bool
  client_exits_by v p = nat_lt p (length t.paths) && client_by (exit_of t p) v

  -- the peers of router v
  abbrev pub peer_by : ℕ → ℕ → Bool
  peer_by v w = nat_lt w (length t.routers) && peers t w v

  -- the paths that w passes to its peer v though it is not their exit point
  abbrev pub reflected_by : ℕ → ℕ → ℕ → Bool
  reflected_by w v p = nat_lt p (length t.paths) && (between_clusters t w v (exit_of t p) || to_a_client t w v (exit_of t p))

  -- all that w passes to its peer v
  abbrev pub passed_by : ℕ → ℕ → ℕ → Bool
  passed_by w v p = nat_lt p (length t.paths) && passes t w v p

-- the sets of each router: its exit paths, those of its cluster's clients, and its peers; past the declared routers, nothing
pub record Peered (t : Declared) (exits clients others : List ℕ) : Type 0 where
  pub few : length t.routers ≤ 32
  pub own : (v p : ℕ) → v < length t.routers → member (set_of exits v) p ≡ exits_by t v p
  pub of_clients : (v p : ℕ) → v < length t.routers → member (set_of clients v) p ≡ client_exits_by t v p
  pub joined : (v w : ℕ) → v < length t.routers → member (set_of others v) w ≡ peer_by t v w
  pub nothing_past : (v : ℕ) → length t.routers ≤ v →
      (set_of exits v ≡ 0) × (set_of clients v ≡ 0) × (set_of others v ≡ 0)
