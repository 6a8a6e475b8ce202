-- What holds of whole runs. Assumes nothing.
use Rattle.std.specs.Prelude.{⊤, ◌≡◌, ℕ, ◌<◌, true, false, List, [], ◌∷◌, ◌++◌, length}
use Rattle.layout.specs.WellFormed.{WellFormed}
use Rattle.selection.specs.Laws.{Keeping}
use Rattle.sets.specs.Members.{member}
use Rattle.protocol.specs.Consistent.{Declares}
use Rattle.protocol.specs.Moves.{Move, begun, moved, after_all}
use Rattle.protocol.specs.Moves.Move.{Loaded, Injected, Withdrawn, Restarted, Activated}
use Rattle.protocol.specs.Network.{State}
use Rattle.protocol.specs.Packets.{best_of, AllLeave}
use Rattle.protocol.specs.Settled.{Settled, stretch, Round, Rounds}

-- what may come to a network
abbrev pub Comes : State → Move → Type 0
Comes s (Loaded t) = WellFormed t
Comes s (Injected p) = (p < length s.table.paths) × (member s.injected p ≡ false)
Comes s (Withdrawn p) = member s.injected p ≡ true
Comes s (Restarted v) = v < length s.table.routers
Comes s (Activated w) = Declares s w

-- and what may come to it one after another
unfoldable pub AllCome : Keeping → State → List Move → Type 0
AllCome kept s [] = ⊤
AllCome kept s (m ∷ ms) = Comes s m × AllCome kept (moved kept s m) ms

-- the network of a run so far, from its beginning
abbrev pub reached : Keeping → List Move → State
reached kept history = after_all kept begun history

-- what is promised of a run
pub record Rests (kept : Keeping) (history : List Move) : Type 0 where
  -- where six rounds have passed without a change, the network is settled
  pub settles :
      (before : List Move) (ws : List ℕ) (later : List Move) → history ≡ before ++ (stretch ws ++ later) →
      Rounds (length (reached kept before).table.routers) 6 ws → Settled kept (reached kept (before ++ stretch ws))
  -- where it is settled, nothing that comes without a change alters an advertised set or a best path
  pub stays :
      (before : List Move) (ws : List ℕ) (later : List Move) → history ≡ before ++ (stretch ws ++ later) → Settled kept (reached kept before) →
      ((reached kept (before ++ stretch ws)).advertised ≡ (reached kept before).advertised)
      × ((v : ℕ) → best_of (reached kept (before ++ stretch ws)) v ≡ best_of (reached kept before) v)
  -- where a round alters no advertised set at any of its places, the network was settled before it
  pub quiet :
      (before : List Move) (ws : List ℕ) (later : List Move) → history ≡ before ++ (stretch ws ++ later) →
      Round (length (reached kept before).table.routers) ws →
      ((front back : List ℕ) → ws ≡ front ++ back → (reached kept (before ++ stretch front)).advertised ≡ (reached kept before).advertised) →
      Settled kept (reached kept before)
  -- where it is settled and some path is injected, a packet leaves from every router
  pub leaves : (before later : List Move) → history ≡ before ++ later → Settled kept (reached kept before) → AllLeave (reached kept before)
