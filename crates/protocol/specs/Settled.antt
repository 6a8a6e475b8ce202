-- When a network is settled, and what a round is. Assumes nothing.
use Rattle.std.specs.Prelude.{◌≡◌, ℕ, suc, ◌<◌, Bool, true, List, ◌++◌, map, length}
use Rattle.std.specs.List.{list_any}
use Rattle.selection.specs.Laws.{Keeping}
use Rattle.sets.specs.Members.{member}
use Rattle.protocol.specs.Network.{State, set_of}
use Rattle.protocol.specs.Moves.{Move}
use Rattle.protocol.specs.Moves.Move.{Activated}

-- every router advertises exactly what the rule keeps of all injected paths
abbrev pub Settled : Keeping → State → Type 0
Settled kept s = (v : ℕ) → v < length s.table.routers → set_of s.advertised v ≡ kept s.table.paths s.injected

-- a stretch without a change: one set of routers after another is activated
abbrev pub stretch : List ℕ → List Move
stretch ws = map Activated ws

-- whether one of the sets names router v
abbrev pub named : List ℕ → ℕ → Bool
named ws v = list_any (λ w. member w v) ws

-- a stretch that names every one of n routers
abbrev pub Round : ℕ → List ℕ → Type 0
Round n ws = (v : ℕ) → v < n → named ws v ≡ true

-- a stretch that has so many rounds, one behind the other
pub data Rounds (n : ℕ) : ℕ → List ℕ → Type 0 where
  begins : (ws : List ℕ) → Rounds n 0 ws
  then : (round ws : List ℕ) (k : ℕ) → Round n round → Rounds n k ws → Rounds n (suc k) (round ++ ws)
