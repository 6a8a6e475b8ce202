-- The number, the layer and the place of every fault. Assumes nothing.
use Rattle.std.specs.Prelude.{ℕ}
use Rattle.faults.specs.declared.call.CallFault.{CallFault}
use Rattle.faults.specs.declared.call.CallFault.TheVariants.{Load, UndeclaredPath, UndeclaredRouter, NoRouterNamed, AlreadyInjected, NotInjected, ShortBuffer}
use Rattle.faults.specs.declared.graph.GraphFault.TheVariants.{NoRouter, NoReflector, NotJoined}
use Rattle.faults.specs.declared.layer.Layer.{Layer}
use Rattle.faults.specs.declared.layer.Layer.TheVariants.{Record as record_layer, Table as table_layer, Graph as graph_layer, Call as call_layer}
use Rattle.faults.specs.declared.load.LoadFault.{LoadFault}
use Rattle.faults.specs.declared.load.LoadFault.TheVariants.{Record, Table, Graph}
use Rattle.faults.specs.declared.record.RecordFault.TheVariants.{UnknownKind, CutShort, KindFalls}
use Rattle.faults.specs.declared.table.TableFault.TheVariants.{TooMany, OutOfRange, BadPair, BadSession}

abbrev pub number_of : LoadFault → ℕ
number_of (Record (UnknownKind place)) = 1
number_of (Record (CutShort place)) = 2
number_of (Record (KindFalls place)) = 3
number_of (Table (TooMany place)) = 4
number_of (Table (OutOfRange place)) = 5
number_of (Table (BadPair place)) = 6
number_of (Table (BadSession place)) = 7
number_of (Graph NoRouter) = 8
number_of (Graph (NoReflector place)) = 9
number_of (Graph (NotJoined place)) = 10

abbrev pub layer_of : LoadFault → Layer
layer_of (Record fault) = record_layer
layer_of (Table fault) = table_layer
layer_of (Graph fault) = graph_layer

-- the offset of the faulty record's kind byte, and 0 where there is no router
abbrev pub place_of : LoadFault → ℕ
place_of (Record (UnknownKind place)) = place
place_of (Record (CutShort place)) = place
place_of (Record (KindFalls place)) = place
place_of (Table (TooMany place)) = place
place_of (Table (OutOfRange place)) = place
place_of (Table (BadPair place)) = place
place_of (Table (BadSession place)) = place
place_of (Graph NoRouter) = 0
place_of (Graph (NoReflector place)) = place
place_of (Graph (NotJoined place)) = place

abbrev pub call_number_of : CallFault → ℕ
call_number_of (Load fault) = number_of fault
call_number_of (UndeclaredPath path) = 11
call_number_of (UndeclaredRouter router) = 12
call_number_of NoRouterNamed = 13
call_number_of (AlreadyInjected path) = 14
call_number_of (NotInjected path) = 15
call_number_of (ShortBuffer needed) = 16

abbrev pub call_layer_of : CallFault → Layer
call_layer_of (Load fault) = layer_of fault
call_layer_of (UndeclaredPath path) = call_layer
call_layer_of (UndeclaredRouter router) = call_layer
call_layer_of NoRouterNamed = call_layer
call_layer_of (AlreadyInjected path) = call_layer
call_layer_of (NotInjected path) = call_layer
call_layer_of (ShortBuffer needed) = call_layer

-- the place in the table, the number at fault, 0 where none is named, or the length that is needed
abbrev pub call_place_of : CallFault → ℕ
call_place_of (Load fault) = place_of fault
call_place_of (UndeclaredPath path) = path
call_place_of (UndeclaredRouter router) = router
call_place_of NoRouterNamed = 0
call_place_of (AlreadyInjected path) = path
call_place_of (NotInjected path) = path
call_place_of (ShortBuffer needed) = needed
