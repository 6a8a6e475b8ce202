use Rattle.std.proofs.Common.{◌≡◌, ℕ, ◌<◌, ◌≤◌, length}
use Rattle.distances.specs.Answered.{declared_by}
use Rattle.protocol.specs.Network.{set_of}
use Rattle.sets.specs.Members.{member}
use Rattle.peering.specs.Peered.{exits_by, client_exits_by, peer_by}
use Rattle.peering.proofs.peering.Peering.of.Given as goal

-- the sets of the routers before this one, and nothing from it on
abbrev pub invariant-loop-v : goal.invariant-loop-v
invariant-loop-v l =
    (length l.exits ≡ 32) × (length l.client_exits ≡ 32) × (length l.peers ≡ 32)
    × ((u p : ℕ) → u < l.v → member (set_of l.exits u) p ≡ exits_by (declared_by l.fn.distances) u p)
    × ((u p : ℕ) → u < l.v → member (set_of l.client_exits u) p ≡ client_exits_by (declared_by l.fn.distances) u p)
    × ((u w : ℕ) → u < l.v → member (set_of l.peers u) w ≡ peer_by (declared_by l.fn.distances) u w)
    × ((u : ℕ) → l.v ≤ u → set_of l.exits u ≡ 0)
    × ((u : ℕ) → l.v ≤ u → set_of l.client_exits u ≡ 0)
    × ((u : ℕ) → l.v ≤ u → set_of l.peers u ≡ 0)
