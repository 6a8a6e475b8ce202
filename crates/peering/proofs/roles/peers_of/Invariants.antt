use Rattle.std.proofs.Common.{◌≡◌, ℕ, ◌&&◌, nat_lt}
use Rattle.protocol.specs.Network.{peers}
use Rattle.sets.specs.Members.{member}
use Rattle.tables.specs.Accepted.{declared}
use Rattle.peering.proofs.roles.peers_of.Given as goal

-- the peers among the routers before this one
abbrev pub invariant-loop-w : goal.invariant-loop-w
invariant-loop-w l = (k : ℕ) → member l.peers k ≡ (nat_lt k l.w && peers (declared l.table) k l.v)
