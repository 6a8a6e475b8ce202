-- Who are peers, which paths pass and what a router learns, in the terms of an operator. Assumes nothing.
use Rattle.std.specs.Prelude.{◌≡◌, ℕ, ◌<◌, ◌⊎◌, true, List, map, length, ◌≢◌}
use Rattle.layout.specs.Table.{Declared}
use Rattle.layout.specs.Rules.{Again}
use Rattle.layout.specs.WellFormed.{Is, session_ends, client, reflector}
use Rattle.packets.specs.Best.{exit_of}
use Rattle.sets.specs.Members.{member}
use Rattle.protocol.specs.Network.{set_of}

module _ (t : Declared) where
  -- router v is declared, in cluster c, as a client or as a reflector
  abbrev pub Client : ℕ → ℕ → Type 0
  Client v c = Is t.routers v (client c)

  abbrev pub Reflector : ℕ → ℕ → Type 0
  Reflector v c = Is t.routers v (reflector c)

  -- two different routers are peers
  pub data Peers (v w : ℕ) : Type 0 where
    -- both are reflectors
    reflectors : (c d : ℕ) → v ≢ w → Reflector v c → Reflector w d → Peers v w
    -- they are reflector and client of one cluster
    reflector_and_client : (c : ℕ) → Reflector v c → Client w c → Peers v w
    client_and_reflector : (c : ℕ) → Client v c → Reflector w c → Peers v w
    -- a client session joins them
    in_session : v ≢ w → v < length t.routers → w < length t.routers → Again (record { a = v; b = w }) (map session_ends t.sessions) → Peers v w

  -- router w passes a path with the exit point e to its peer v
  pub data Passes (w v e : ℕ) : Type 0 where
    -- w is the exit point
    exit : w ≡ e → Passes w v e
    -- from reflector to reflector of another cluster, where a client in w's own cluster is the exit point
    across : (c d : ℕ) → c ≢ d → Reflector w c → Reflector v d → Client e c → Passes w v e
    -- w is a reflector, v is a client in its cluster, and v is not the exit point
    down : (c : ℕ) → Reflector w c → Client v c → v ≢ e → Passes w v e

  -- router v learns path p: it is injected at v, or some peer of v advertises it and passes it to v
  abbrev pub Learns : ℕ → List ℕ → ℕ → ℕ → Type 0
  Learns injected advertised v p =
      (p < length t.paths) × ((exit_of t p ≡ v) × (member injected p ≡ true) ⊎ ((w : ℕ) × Peers w v × (member (set_of advertised w) p ≡ true) × Passes w v (exit_of t p)))
