-- What is promised of a run of calls on a network that begins empty.
use Rattle.std.specs.Prelude.{◌≡◌, ℕ, ◌+◌, ◌<◌, ◌⊎◌, ◌↔◌, true, false, List, [], ◌∷◌, ◌++◌, All, length, drop, Some, None, Option, Decides, IsTrue, slice_index_or}
use Rattle.std.specs.Borrow.{Bor}
use Rattle.costs.specs.Cost.{plain}
use Rattle.faults.specs.declared.call.CallFault.{CallFault}
use Rattle.forwarding.specs.declared.packet.Way.{Way}
use Rattle.layout.specs.Promise.{Reads}
use Rattle.layout.specs.Reading.{table_in}
use Rattle.layout.specs.Table.{nothing}
use Rattle.packets.specs.BestPlain.{Best as BestPath, BestIs}
use Rattle.packets.specs.WaysPlain.{Leaves}
use Rattle.selection.specs.Laws.{Keeping}
use Rattle.sets.specs.Members.{member, Empty}
use Rattle.protocol.specs.Alters.{Becomes, AllBecome}
use Rattle.protocol.specs.Moves.{Move, begun}
use Rattle.protocol.specs.Network.{State, set_of}
use Rattle.protocol.specs.Packets.{best_of}
use Rattle.protocol.specs.Runs.{AllCome, reached, Rests}
use Rattle.protocol.specs.Settled.{Settled, Round, Rounds}
use Rattle.calls.specs.History.{Told, Loads, Changes, Stands, LastLoaded, IsMove}
use Rattle.calls.specs.Refusals.{RefusesAction, RefusesQuestion, RefusesReport}
use Rattle.calls.specs.Rounds.{steps_in}
use Rattle.calls.specs.Turns.{World, beginning, part_of, with_part, bytes_after, Run, run, offered, answer_to}
use Rattle.calls.specs.Calls.{at_rest}
use Rattle.calls.specs.declared.action.Action.TheVariants.{Load}
use Rattle.calls.specs.declared.answer.Answer.TheVariants.{Best as best_answer, Way as way_answer, Refused}
use Rattle.calls.specs.declared.call.Call.{Call}
use Rattle.calls.specs.declared.call.Call.TheVariants.{Act, Settle, Reopen, Ask, Report}
use Rattle.calls.specs.declared.question.Question.TheVariants.{Best}
use Rattle.calls.specs.declared.report.Part.{Part}
use Rattle.calls.specs.declared.report.Report.TheVariants.{Trace}
use Rattle.calls.specs.declared.turn.Outcome.{Outcome}
use Rattle.calls.specs.declared.turn.Turn.{Turn}

module _ (kept : Keeping) (bytes : List ℕ) where
  -- what the calls come to, and where they leave the run
  abbrev pub run_of : List Turn → Run
  run_of turns = run kept (beginning bytes) turns

  abbrev pub world_of : List Turn → World
  world_of turns = (run_of turns).world

  abbrev pub network_of : List Turn → State
  network_of turns = (world_of turns).network

  -- all of these calls were made
  abbrev pub AllMade : List Turn → Type 0
  AllMade turns = (run_of turns).made ≡ length turns

  -- what calls come to behind these
  abbrev pub behind : List Turn → List Turn → Run
  behind front back = run kept (world_of front) back

-- a call is refused with this fault
abbrev pub Refuses : World → Call → CallFault → Type 0
Refuses w (Act a) fault = RefusesAction w.network a fault
Refuses w Settle fault = ⊥
Refuses w Reopen fault = ⊥
Refuses w (Ask q) fault = RefusesQuestion w.network q fault
Refuses w (Report r part) fault = RefusesReport w.network r (length (part_of w.bytes part)) fault

-- what a call that was not refused makes of network s: an action happens to it, a settling leaves it settled, and every other call
-- leaves it as it is
abbrev pub Does : Keeping → State → Call → State → Type 0
Does kept s (Act a) x = (m : Move) × IsMove a m × Becomes kept s x m
Does kept s Settle x = (x.table ≡ s.table) × (x.injected ≡ s.injected) × Settled kept x
Does kept s Reopen x = x ≡ s
Does kept s (Ask q) x = x ≡ s
Does kept s (Report r part) x = x ≡ s

module _ (kept : Keeping) (bytes : List ℕ) where
  -- the turn behind the first ones, as it stands at the end; before, it was t
  abbrev pub turn_of : List Turn → List Turn → Turn → Turn
  turn_of turns front t = slice_index_or (run_of kept bytes turns).turns (length front) t

  -- the call is not refused behind these
  abbrev pub NotRefused : List Turn → Turn → Type 0
  NotRefused front t = (fault : CallFault) → Refuses (world_of kept bytes front) t.call fault → ⊥

-- where the first calls were made, those behind them go on from where these left the run
pub record GoesOn (kept : Keeping) (bytes : List ℕ) (front back : List Turn) : Type 0 where
  pub turns : (run_of kept bytes (front ++ back)).turns ≡ (run_of kept bytes front).turns ++ (behind kept bytes front back).turns
  pub moves : (run_of kept bytes (front ++ back)).moves ≡ (run_of kept bytes front).moves ++ (behind kept bytes front back).moves
  pub made : (run_of kept bytes (front ++ back)).made ≡ length front + (behind kept bytes front back).made
  pub world : world_of kept bytes (front ++ back) ≡ (behind kept bytes front back).world

-- where the first calls were made, none behind them is, and nothing more happens
pub record Stops (kept : Keeping) (bytes : List ℕ) (front back : List Turn) : Type 0 where
  pub turns : (run_of kept bytes (front ++ back)).turns ≡ (run_of kept bytes front).turns ++ back
  pub moves : (run_of kept bytes (front ++ back)).moves ≡ (run_of kept bytes front).moves
  pub made : (run_of kept bytes (front ++ back)).made ≡ length front
  pub world : world_of kept bytes (front ++ back) ≡ world_of kept bytes front

-- what a call leaves in its turn, from where the calls before it left the run to where it leaves it
pub record Shown (kept : Keeping) (w x : World) (before after : Turn) : Type 0 where
  pub outcome : Outcome
  pub made : after.outcome ≡ Some outcome
  pub call : after.call ≡ before.call
  pub answered : outcome.answer ≡ answer_to kept w before.call
  pub advertised : outcome.advertised ≡ x.network.advertised
  -- it tells whether the network is settled then
  pub settled : Decides outcome.settled (Settled kept x.network)
  pub bytes : x.bytes ≡ bytes_after w before.call
  -- it is refused exactly where it is to be, and with that fault; and that leaves the network and all bytes as they were
  pub refuses : (fault : CallFault) → (outcome.answer ≡ Refused fault) ↔ Refuses w before.call fault
  pub refused : (fault : CallFault) → outcome.answer ≡ Refused fault → (x.network ≡ w.network) × (x.bytes ≡ w.bytes)
  -- and otherwise it does what it is for
  pub does : ((fault : CallFault) → outcome.answer ≡ Refused fault → ⊥) → Does kept w.network before.call x.network

-- which best path a turn tells of router v: no candidate beats it, and it alone is so, or v advertises none
pub record Picked (s : State) (v : ℕ) (after : Turn) : Type 0 where
  pub path : Option ℕ
  pub told : Told (best_answer path) after
  pub is : BestIs plain s.table (set_of s.advertised v) v path
  pub only : (p : ℕ) → BestPath plain s.table (set_of s.advertised v) v p → path ≡ Some p

-- what a trace from router v tells and writes: how many routers the packet meets and the path by which it leaves, and the routers
-- in their order over the front of the buffer; bytes past them stay as they were
pub record Traces (s : State) (v : ℕ) (before after : List ℕ) (way : Option Way) : Type 0 where
  pub met : List ℕ
  pub path : ℕ
  pub leaves : Leaves plain s.table (best_of s) v met path
  pub told : way ≡ Some (record { count = length (v ∷ met); path = path })
  pub written : after ≡ (v ∷ met) ++ drop (length (v ∷ met)) before

-- a trace into a part of the bytes leaves its answer in its turn; bytes around the part stay as they were
pub record Traced (s : State) (v : ℕ) (part : Part) (before behind : List ℕ) (after : Turn) : Type 0 where
  pub way : Option Way
  pub into : List ℕ
  pub traces : Traces s v (part_of before part) into way
  pub told : Told (way_answer way) after
  pub written : behind ≡ with_part before part into

-- no call of these turns altered an advertised set
abbrev pub Unaltered : List ℕ → List Turn → Type 0
Unaltered advertised = All (λ t. (o : Outcome) → t.outcome ≡ Some o → o.advertised ≡ advertised)

-- of calls that were made on network s, as they left their turns and network x: if none was a change, then
pub record Rounded (kept : Keeping) (s x : State) (turns : List Turn) : Type 0 where
  -- where they hold six rounds, one behind the other, network x is settled
  pub settles : Rounds (length s.table.routers) 6 (steps_in (length s.table.routers) turns) → Settled kept x
  -- where they hold a round, and no call alters an advertised set, network s was settled
  pub quiet : Round (length s.table.routers) (steps_in (length s.table.routers) turns) → Unaltered s.advertised turns → Settled kept s
  -- where network s was settled, no call alters an advertised set
  pub stays : Settled kept s → Unaltered s.advertised turns

pub record Plays (kept : Keeping) (bytes : List ℕ) (turns : List Turn) : Type 0 where
  -- a call goes on from where the calls before it left the run
  pub goes_on : (front back : List Turn) → turns ≡ front ++ back → AllMade kept bytes front → GoesOn kept bytes front back
  -- only what may happen to the network did; each thing made of it what `Becomes` says; and it is what they made of it, one after another
  pub comes : AllCome kept begun (run_of kept bytes turns).moves
  pub becomes : AllBecome kept (run_of kept bytes turns).moves
  pub reaches : (front back : List Turn) → turns ≡ front ++ back → network_of kept bytes front ≡ reached kept (run_of kept bytes front).moves
  -- so it comes to rest, and there packets leave
  pub rests : Rests kept (run_of kept bytes turns).moves
  -- after settling, and until it is reopened, the network is settled
  pub settled : (front back : List Turn) → turns ≡ front ++ back → (world_of kept bytes front).settled ≡ true → Settled kept (network_of kept bytes front)
  -- the test by which a question and a turn tell whether it is settled tells so
  pub told : (front back : List Turn) → turns ≡ front ++ back → Decides (at_rest kept (network_of kept bytes front)) (Settled kept (network_of kept bytes front))
  -- its table is that of the last accepted load; there is none before the first
  pub declares :
      (front back : List Turn) → turns ≡ front ++ back → AllMade kept bytes front →
      (All (λ t. Loads t → ⊥) (run_of kept bytes front).turns × ((network_of kept bytes front).table ≡ nothing))
      ⊎ LastLoaded (network_of kept bytes front).table (run_of kept bytes front).turns
  -- a path is injected exactly if an accepted inject of it has no accepted withdraw of it and no accepted load behind it
  pub injects :
      (front back : List Turn) (q : ℕ) → turns ≡ front ++ back → AllMade kept bytes front →
      IsTrue (member (network_of kept bytes front).injected q) ↔ Stands q (run_of kept bytes front).turns
  -- a call that is offered is made, and its turn shows what it answered and what the network is afterwards
  pub shown :
      (front back : List Turn) (t : Turn) → turns ≡ front ++ (t ∷ back) → AllMade kept bytes front → offered (world_of kept bytes front).settled t.call ≡ true →
      Shown kept (world_of kept bytes front) (world_of kept bytes (front ++ (t ∷ []))) t (turn_of kept bytes turns front t)
  -- the bytes of a load are read as is promised of the bytes of a table
  pub reads :
      (front back : List Turn) (t : Turn) (read : Bor (List ℕ)) → turns ≡ front ++ (t ∷ back) → AllMade kept bytes front →
      offered (world_of kept bytes front).settled t.call ≡ true → t.call ≡ Act (Load read) → Reads read.now (table_in read.now)
  -- in front of one that is not offered the run stops, and the turns from there on stay as they were
  pub stops :
      (front back : List Turn) (t : Turn) → turns ≡ front ++ (t ∷ back) → AllMade kept bytes front → offered (world_of kept bytes front).settled t.call ≡ false →
      Stops kept bytes front (t ∷ back)
  -- rounds of calls are rounds of the steps that they make
  pub rounds :
      (front ts back : List Turn) → turns ≡ front ++ (ts ++ back) → AllMade kept bytes (front ++ ts) → All (λ t. Changes t → ⊥) (behind kept bytes front ts).turns →
      Rounded kept (network_of kept bytes front) (network_of kept bytes (front ++ ts)) (behind kept bytes front ts).turns
  -- the best path of a declared router is told; in a settled network it is none exactly where nothing is injected
  pub picked :
      (front back : List Turn) (t : Turn) (v : ℕ) → turns ≡ front ++ (t ∷ back) → AllMade kept bytes front →
      t.call ≡ Ask (Best v) → v < length (network_of kept bytes front).table.routers → Picked (network_of kept bytes front) v (turn_of kept bytes turns front t)
  pub picked_none :
      (front back : List Turn) (t : Turn) (v : ℕ) → turns ≡ front ++ (t ∷ back) → AllMade kept bytes front →
      t.call ≡ Ask (Best v) → v < length (network_of kept bytes front).table.routers → Settled kept (network_of kept bytes front) →
      Told (best_answer None) (turn_of kept bytes turns front t) ↔ Empty (network_of kept bytes front).injected
  -- a trace that is not refused tells how the packet leaves, where some path is injected; it tells of no way exactly where none is
  pub traced :
      (front back : List Turn) (t : Turn) (v q : ℕ) (part : Part) → turns ≡ front ++ (t ∷ back) → AllMade kept bytes front →
      t.call ≡ Report (Trace v) part → NotRefused kept bytes front t → (world_of kept bytes front).settled ≡ true → IsTrue (member (network_of kept bytes front).injected q) →
      Traced (network_of kept bytes front) v part (world_of kept bytes front).bytes (world_of kept bytes (front ++ (t ∷ []))).bytes (turn_of kept bytes turns front t)
  pub traced_none :
      (front back : List Turn) (t : Turn) (v : ℕ) (part : Part) → turns ≡ front ++ (t ∷ back) → AllMade kept bytes front →
      t.call ≡ Report (Trace v) part → NotRefused kept bytes front t → (world_of kept bytes front).settled ≡ true →
      Told (way_answer None) (turn_of kept bytes turns front t) ↔ Empty (network_of kept bytes front).injected
