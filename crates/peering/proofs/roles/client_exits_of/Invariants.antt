use Rattle.std.proofs.Common.{◌≡◌, ℕ, ◌&&◌, nat_lt}
use Rattle.packets.specs.Best.{exit_of}
use Rattle.sets.specs.Members.{member}
use Rattle.tables.specs.Accepted.{declared}
use Rattle.peering.specs.Peered.{client_by}
use Rattle.peering.proofs.roles.client_exits_of.Given as goal

-- those among the paths before this one
abbrev pub invariant-loop-p : goal.invariant-loop-p
invariant-loop-p l = (k : ℕ) → member l.exits k ≡ (nat_lt k l.p && client_by (declared l.table) (exit_of (declared l.table) k) l.v)
