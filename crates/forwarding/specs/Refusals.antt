-- When the calls about a set of paths are refused, in the terms of an operator. Assumes nothing.
use Rattle.std.specs.Prelude.{◌≡◌, ℕ, ◌<◌, ◌≤◌, ◌⊎◌, length}
use Rattle.faults.specs.declared.call.CallFault.{CallFault}
use Rattle.faults.specs.declared.call.CallFault.TheVariants.{UndeclaredPath, UndeclaredRouter, ShortBuffer}
use Rattle.layout.specs.Promise.{Lowest}
use Rattle.layout.specs.Table.{Declared}
use Rattle.selection.specs.Laws.{AllDeclared}
use Rattle.selection.specs.Undeclared.{Undeclared}

-- the best path of router v of a set is answered exactly if all paths of the set and the router are declared
abbrev pub BestAsked : Declared → ℕ → ℕ → Type 0
BestAsked t s v = AllDeclared t.paths s × (v < length t.routers)

-- it is refused with this fault: at the lowest path of the set that is not declared, whatever the router; then at the router
abbrev pub BestRefused : Declared → ℕ → ℕ → CallFault → Type 0
BestRefused t s v fault =
    ((p : ℕ) × Lowest (Undeclared t.paths s) p × (fault ≡ UndeclaredPath p))
    ⊎ (AllDeclared t.paths s × (length t.routers ≤ v) × (fault ≡ UndeclaredRouter v))

-- a packet from router v is traced exactly if the buffer has 32 bytes too
abbrev pub TraceAsked : Declared → ℕ → ℕ → ℕ → Type 0
TraceAsked t s v room = AllDeclared t.paths s × (v < length t.routers) × (32 ≤ room)

-- that is refused as the best path is, whatever the buffer; then for a buffer of fewer bytes
abbrev pub TraceRefused : Declared → ℕ → ℕ → ℕ → CallFault → Type 0
TraceRefused t s v room fault =
    BestRefused t s v fault
    ⊎ (BestAsked t s v × (room < 32) × (fault ≡ ShortBuffer 32))
