-- The best paths of a network's routers, and the way of a packet. Assumes nothing.
use Rattle.std.specs.Prelude.{◌≡◌, ℕ, ◌<◌, true, List, ◌∷◌, length, Some, Option}
use Rattle.costs.specs.Cost.{plain}
use Rattle.packets.specs.Best.{best}
use Rattle.packets.specs.Ways.{Course, course}
use Rattle.packets.specs.WaysPlain.{Leaves}
use Rattle.sets.specs.Members.{member}
use Rattle.protocol.specs.Network.{State, set_of}

-- the best path of router v, of what it advertises itself
abbrev pub best_of : State → ℕ → Option ℕ
best_of s v = best plain s.table (set_of s.advertised v) v

-- the way of a packet from router v, where each router takes its own best path
abbrev pub way_of : State → ℕ → Course
way_of s v = course plain s.table (best_of s) (length s.table.routers) v

-- where some path is injected, a packet leaves from every router, and its way is the one that is followed
abbrev pub AllLeave : State → Type 0
AllLeave s = (q : ℕ) → member s.injected q ≡ true → (v : ℕ) → v < length s.table.routers → (met : List ℕ) × (path : ℕ) × (way_of s v ≡ Some (v ∷ met, path)) × Leaves plain s.table (best_of s) v met path
