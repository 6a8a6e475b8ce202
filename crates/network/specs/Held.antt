-- What a network of the library holds.
use Rattle.std.specs.Prelude.{Some, None, Option}
use Rattle.distances.specs.Answered.{declared_by}
use Rattle.layout.specs.Table.{Declared, nothing}
use Rattle.peering.specs.declared.peering.Peering.{Peering}
use Rattle.peering.specs.Seen.{its_distances}
use Rattle.protocol.specs.Network.{State}
use Rattle.network.specs.declared.held.Held.{Held}
use Rattle.network.specs.declared.held.Sets.{Sets}

-- the table, or none yet
abbrev pub table_of : Option Peering → Declared
table_of None = nothing
table_of (Some p) = declared_by (its_distances p)

-- the network of a table with these sets
abbrev pub state_with : Declared → Sets → State
state_with t s = record {
  table = t;
  injected = s.injected;
  known = s.known;
  advertised = s.advertised;
}

-- the network of what is held
abbrev pub state_held : Held → State
state_held h = state_with (table_of h.peering) h.sets
