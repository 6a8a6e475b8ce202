-- What follows for an operator from the promise of a run. Each is drawn from `Plays` alone, so that
-- a field of it that was dropped, or said nothing, would be missed here.
use Rattle.std.specs.Prelude.{◌≡◌, ℕ, ◌+◌, ◌<◌, ◌≤◌, ◌⊎◌, ◌↔◌, true, false, List, [], ◌∷◌, ◌++◌, All, length, drop, replicate, Some, None, Ok, IsTrue, slice_index_or}
use Rattle.std.specs.Borrow.{Bor}
use Rattle.std.specs.List.{flat_map}
use Rattle.costs.specs.Cost.{plain, AtMost}
use Rattle.costs.specs.Once.{Once}
use Rattle.faults.specs.declared.call.CallFault.{CallFault}
use Rattle.faults.specs.Faults.{place_of}
use Rattle.faults.specs.declared.call.CallFault.TheVariants.{Load as load_fault, NoRouterNamed}
use Rattle.faults.specs.declared.load.LoadFault.{LoadFault}
use Rattle.forwarding.specs.declared.packet.Way.{Way}
use Rattle.layout.specs.Encoding.{encoded}
use Rattle.layout.specs.Promise.{Broken}
use Rattle.layout.specs.Reading.{table_in}
use Rattle.layout.specs.Table.{Declared, nothing}
use Rattle.layout.specs.WellFormed.{WellFormed}
use Rattle.packets.specs.Best.{exit_of, metric}
use Rattle.packets.specs.BestPlain.{Best as BestPath}
use Rattle.packets.specs.WaysPlain.{links_cost, Way as PacketWay, Leaves}
use Rattle.selection.specs.Laws.{Keeping, Offered}
use Rattle.sets.specs.Members.{member, Empty}
use Rattle.protocol.specs.Alters.{HasInjected, Knows, Begins, Becomes}
use Rattle.protocol.specs.Moves.{Move, begun, one_by_one, all_of}
use Rattle.protocol.specs.Moves.Move.{Loaded, Injected, Withdrawn, Restarted, Activated}
use Rattle.protocol.specs.Network.{State, set_of}
use Rattle.protocol.specs.Packets.{best_of, way_of}
use Rattle.protocol.specs.Plain.{Learns}
use Rattle.protocol.specs.Runs.{Comes, reached}
use Rattle.protocol.specs.Settled.{Settled, stretch, named}
use Rattle.calls.specs.History.{Told, Accepts, Loads}
use Rattle.calls.specs.Calls.{at_rest, reply, report_answer, report_bytes}
use Rattle.calls.specs.Promise.{run_of, world_of, network_of, behind, Refuses, turn_of, Unaltered}
use Rattle.calls.specs.Rounds.{steps_in}
use Rattle.calls.specs.Turns.{World, part_of, with_part, offered}
use Rattle.calls.specs.declared.action.Action.{Action}
use Rattle.calls.specs.declared.action.Action.TheVariants.{Load, Inject, Withdraw, Restart, Step}
use Rattle.calls.specs.declared.answer.Answer.TheVariants.{Done, Best as best_answer, Settled as settled_answer, Way as way_answer, Refused}
use Rattle.calls.specs.declared.call.Call.{Call}
use Rattle.calls.specs.declared.call.Call.TheVariants.{Act, Settle, Reopen, Ask, Report}
use Rattle.calls.specs.declared.question.Question.{Question}
use Rattle.calls.specs.declared.question.Question.TheVariants.{Best, Settled as whether_settled}
use Rattle.calls.specs.declared.report.Part.{Part}
use Rattle.calls.specs.declared.report.Report.{Report as Reported}
use Rattle.calls.specs.declared.report.Report.TheVariants.{Trace}
use Rattle.calls.specs.declared.turn.Outcome.{Outcome}
use Rattle.calls.specs.declared.turn.Turn.{Turn}

-- what shows in network x, which network s became by this move
abbrev pub Sees : State → State → Move → Type 0
Sees s x (Loaded t) = (x.table ≡ t) × Empty x.injected
Sees s x (Injected p) = HasInjected x p × Knows x (exit_of s.table p) p
Sees s x (Withdrawn p) = (HasInjected x p → ⊥) × (Knows x (exit_of s.table p) p → ⊥)
Sees s x (Restarted u) = (q : ℕ) → Knows x u q → exit_of s.table q ≡ u
Sees s x (Activated w) =
    (v q : ℕ) → IsTrue (member w v) → Knows x v q → Learns s.table s.injected s.advertised v q

-- every router of network s is in the set
abbrev pub NamesAll : State → ℕ → Type 0
NamesAll s w = (v : ℕ) → v < length s.table.routers → IsTrue (member w v)

-- some set names each router of network s
abbrev pub IsRound : State → List ℕ → Type 0
IsRound s ws = (v : ℕ) → v < length s.table.routers → IsTrue (named ws v)

-- a set for each of 32 router numbers
abbrev pub HasAllSets : State → Type 0
HasAllSets s = (length s.known ≡ 32) × (length s.advertised ≡ 32)

-- a call that a running network alone offers, and one that a settled one alone offers
abbrev pub OfRunning : Call → Type 0
OfRunning (Act a) = Unit
OfRunning Settle = Unit
OfRunning Reopen = ⊥
OfRunning (Ask q) = ⊥
OfRunning (Report r part) = ⊥

abbrev pub OfSettled : Call → Type 0
OfSettled (Act a) = ⊥
OfSettled Settle = ⊥
OfSettled Reopen = Unit
OfSettled (Ask q) = ⊥
OfSettled (Report r part) = Unit

-- a call that leaves the network as it is: a question, a report or a reopening
abbrev pub LeavesNetwork : Call → Type 0
LeavesNetwork (Act a) = ⊥
LeavesNetwork Settle = ⊥
LeavesNetwork Reopen = Unit
LeavesNetwork (Ask q) = Unit
LeavesNetwork (Report r part) = Unit

-- a call that answers done unless it is refused: an action, a settle or a reopening
abbrev pub AnswersDone : Call → Type 0
AnswersDone (Act a) = Unit
AnswersDone Settle = Unit
AnswersDone Reopen = Unit
AnswersDone (Ask q) = ⊥
AnswersDone (Report r part) = ⊥

-- a call by which no table and no path comes or goes, and no router restarts
abbrev pub ChangesNone : Call → Type 0
ChangesNone (Act (Load read)) = ⊥
ChangesNone (Act (Inject p)) = ⊥
ChangesNone (Act (Withdraw p)) = ⊥
ChangesNone (Act (Restart v)) = ⊥
ChangesNone (Act (Step w)) = Unit
ChangesNone Settle = Unit
ChangesNone Reopen = Unit
ChangesNone (Ask q) = Unit
ChangesNone (Report r part) = Unit

-- a turn that tells of no change: of such a call, or of a refusal
abbrev pub NoChange : Turn → Type 0
NoChange t = ChangesNone t.call ⊎ ((fault : CallFault) × Told (Refused fault) t)

-- network x is what this accepted action makes of network s
abbrev pub Makes : Keeping → State → State → Action → Type 0
Makes kept s x (Load read) = (d : Declared) × (table_in read.now ≡ Ok d) × Begins d x
Makes kept s x (Inject p) = Becomes kept s x (Injected p)
Makes kept s x (Withdraw p) = Becomes kept s x (Withdrawn p)
Makes kept s x (Restart v) = Becomes kept s x (Restarted v)
Makes kept s x (Step w) = Becomes kept s x (Activated w)

-- the links of a packet's way from router v over these others cost no more than the metric of v's path
abbrev pub Cheap : State → ℕ → List ℕ → Type 0
Cheap s v met =
    (p : ℕ) → best_of s v ≡ Some p →
    AtMost plain (links_cost plain s.table v met) (metric plain s.table v p)

-- a call that writes nothing: any but a report
abbrev pub WritesNothing : Call → Type 0
WritesNothing (Act a) = Unit
WritesNothing Settle = Unit
WritesNothing Reopen = Unit
WritesNothing (Ask q) = Unit
WritesNothing (Report r part) = ⊥

-- a run of these turns
module _ (kept : Keeping) (bytes : List ℕ) (turns : List Turn) where
  -- the turns are those in front and those behind, and the calls in front were all made
  pub record Parts (front back : List Turn) : Type 0 where
    pub whole : turns ≡ front ++ back
    pub made : (run_of kept bytes front).made ≡ length front

  -- this call was made, behind the calls in front
  pub record Place (front : List Turn) (t : Turn) : Type 0 where
    pub back : List Turn
    pub whole : turns ≡ front ++ (t ∷ back)
    pub made : (run_of kept bytes front).made ≡ length front
    pub offers : offered (world_of kept bytes front).settled t.call ≡ true

  -- its turn, as it stands at the end, and where it left the run
  abbrev pub turn_then : List Turn → Turn → Turn
  turn_then front t = turn_of kept bytes turns front t

  abbrev pub world_then : List Turn → Turn → World
  world_then front t = world_of kept bytes (front ++ (t ∷ []))

  abbrev pub network_then : List Turn → Turn → State
  network_then front t = network_of kept bytes (front ++ (t ∷ []))

  -- the turns as these calls left them, and what happened to the network
  abbrev pub told_of : List Turn → List Turn
  told_of ts = (run_of kept bytes ts).turns

  abbrev pub happened : List Turn → List Move
  happened ts = (run_of kept bytes ts).moves

  -- what happened to the network has this in the midst
  abbrev pub Happens : List Move → List Move → List Move → Type 0
  Happens before now later = happened turns ≡ before ++ (now ++ later)

  -- the network that these moves made, and the one with another behind them
  abbrev pub so_far : List Move → State
  so_far before = reached kept before

  abbrev pub with_it : List Move → Move → State
  with_it before m = reached kept (before ++ (m ∷ []))

  -- no call behind those in front was made, nothing of it is told, and nothing more happened
  abbrev pub StopsBehind : List Turn → List Turn → Type 0
  StopsBehind front back =
      (told_of turns ≡ told_of front ++ back)
      × (happened turns ≡ happened front)
      × ((run_of kept bytes turns).made ≡ length front)
      × (world_of kept bytes turns ≡ world_of kept bytes front)

  -- of the calls one behind the other
  pub record FollowsOfCalls : Type 0 where
    -- what was told of the first calls stays, and what happened by them happened first; behind it
    -- stands what the calls behind them tell, and what happens by those
    pub first_told :
        (front back : List Turn) → Parts front back →
        told_of turns ≡ told_of front ++ (behind kept bytes front back).turns
    pub first_happened :
        (front back : List Turn) → Parts front back →
        happened turns ≡ happened front ++ (behind kept bytes front back).moves
    pub first_made :
        (front back : List Turn) → Parts front back →
        (run_of kept bytes turns).made ≡ length front + (behind kept bytes front back).made
    pub first_left :
        (front back : List Turn) → Parts front back →
        world_of kept bytes turns ≡ (behind kept bytes front back).world
    -- a question behind them tells one turn more, and nothing happens by it
    pub asked_last :
        (front : List Turn) (t : Turn) (q : Question) → Parts front (t ∷ []) → t.call ≡ Ask q →
        ((u : Turn) × (told_of turns ≡ told_of front ++ (u ∷ [])))
        × (happened turns ≡ happened front)
        × ((run_of kept bytes turns).made ≡ length turns)
        × (world_of kept bytes turns ≡ world_of kept bytes front)
    -- before a report or a reopening of a running network, and before an action on a settled one or
    -- another settle, the run stops
    pub stops_running :
        (front back : List Turn) (t : Turn) → Parts front (t ∷ back) →
        (world_of kept bytes front).settled ≡ false → OfSettled t.call →
        StopsBehind front (t ∷ back)
    pub stops_settled :
        (front back : List Turn) (t : Turn) → Parts front (t ∷ back) →
        (world_of kept bytes front).settled ≡ true → OfRunning t.call →
        StopsBehind front (t ∷ back)
    -- before a table is loaded there is none, and right behind a load it is that of the load
    pub none_loaded :
        (front back : List Turn) → Parts front back → All (λ t. Loads t → ⊥) (told_of front) →
        (network_of kept bytes front).table ≡ nothing
    pub just_loaded :
        (front back before : List Turn) (t : Turn) (read : Bor (List ℕ)) → Parts front back →
        told_of front ≡ before ++ (t ∷ []) → Accepts (Load read) t →
        table_in read.now ≡ Ok (network_of kept bytes front).table
    -- a path that no turn tells as injected is not injected; right behind an inject it is, and
    -- right behind a withdraw it is not
    pub none_injected :
        (front back : List Turn) (q : ℕ) → Parts front back →
        All (λ t. Accepts (Inject q) t → ⊥) (told_of front) →
        HasInjected (network_of kept bytes front) q → ⊥
    pub just_injected :
        (front back before : List Turn) (t : Turn) (q : ℕ) → Parts front back →
        told_of front ≡ before ++ (t ∷ []) → Accepts (Inject q) t →
        HasInjected (network_of kept bytes front) q
    pub just_withdrawn :
        (front back before : List Turn) (t : Turn) (q : ℕ) → Parts front back →
        told_of front ≡ before ++ (t ∷ []) → Accepts (Withdraw q) t →
        HasInjected (network_of kept bytes front) q → ⊥

  -- of what happened to the network
  pub record FollowsOfMoves : Type 0 where
    -- only what may come came: well-formed tables, declared paths not yet injected, withdrawals of
    -- injected ones, restarts and steps of declared routers
    pub may_come :
        (before later : List Move) (m : Move) → Happens before (m ∷ []) later →
        Comes (so_far before) m
    pub well_formed :
        (before later : List Move) (d : Declared) → Happens before (Loaded d ∷ []) later →
        WellFormed d
    pub injected_before :
        (before later : List Move) (p : ℕ) → Happens before (Withdrawn p ∷ []) later →
        HasInjected (so_far before) p
    pub declared_restart :
        (before later : List Move) (v : ℕ) → Happens before (Restarted v ∷ []) later →
        v < length (so_far before).table.routers
    pub injected_anew :
        (before later : List Move) (p : ℕ) → Happens before (Injected p ∷ []) later →
        (p < length (so_far before).table.paths)
        × (HasInjected (so_far before) p → ⊥)
    pub declared_step :
        (before later : List Move) (w v : ℕ) → Happens before (Activated w ∷ []) later →
        IsTrue (member w v) → v < length (so_far before).table.routers
    -- each time it is seen in the network, and the network became no other
    pub seen :
        (before later : List Move) (m : Move) → Happens before (m ∷ []) later →
        Sees (so_far before) (with_it before m) m
    pub no_other :
        (before later : List Move) (m : Move) (x y : State) → Happens before (m ∷ []) later →
        HasAllSets x → HasAllSets y → Becomes kept (so_far before) x m →
        Becomes kept (so_far before) y m → x ≡ y
    -- where nothing happened the network is as it began; else what happened last is seen in it
    pub as_begun :
        (front back : List Turn) → turns ≡ front ++ back → happened front ≡ [] →
        network_of kept bytes front ≡ begun
    pub last_seen :
        (front back : List Turn) (before : List Move) (m : Move) → Parts front back →
        happened front ≡ before ++ (m ∷ []) →
        Sees (so_far before) (network_of kept bytes front) m
    -- six rounds of one router a step settle a network, and so do six steps of all routers
    pub six_rounds :
        (before later : List Move) →
        let n = length (so_far before).table.routers in
        Happens before (stretch (all_of n 6)) later →
        Settled kept (reached kept (before ++ stretch (all_of n 6)))
    pub six_settle :
        (before later : List Move) (w : ℕ) → Happens before (stretch (replicate 6 w)) later →
        NamesAll (so_far before) w →
        Settled kept (reached kept (before ++ stretch (replicate 6 w)))
    -- a round that alters no advertised set shows that it was settled, and so does a step of all
    pub quiet_round :
        (before later : List Move) →
        let n = length (so_far before).table.routers in
        Happens before (stretch (one_by_one n)) later →
        ((front back : List ℕ) → one_by_one n ≡ front ++ back →
        (reached kept (before ++ stretch front)).advertised ≡ (so_far before).advertised) →
        Settled kept (so_far before)
    pub quiet_step :
        (before later : List Move) (w : ℕ) → Happens before (Activated w ∷ []) later →
        NamesAll (so_far before) w →
        (with_it before (Activated w)).advertised ≡ (so_far before).advertised →
        Settled kept (so_far before)
    -- where it is settled, no step alters an advertised set or a best path, and from every router a
    -- packet leaves that meets no router twice, if some path is injected
    pub settled_stays :
        (before later : List Move) (w v : ℕ) → Happens before (Activated w ∷ []) later →
        Settled kept (so_far before) →
        ((with_it before (Activated w)).advertised ≡ (so_far before).advertised)
        × (best_of (with_it before (Activated w)) v ≡ best_of (so_far before) v)
    pub all_leave :
        (before later : List Move) (q v : ℕ) → Happens before [] later →
        Settled kept (so_far before) → HasInjected (so_far before) q →
        v < length (so_far before).table.routers →
        (met : List ℕ)
        × (path : ℕ)
        × (way_of (so_far before) v ≡ Some (v ∷ met, path))
        × PacketWay plain (so_far before).table (best_of (so_far before)) v met path
        × Once (v ∷ met)
        × Cheap (so_far before) v met

  -- of what a call does and its turn tells
  pub record FollowsOfTurns : Type 0 where
    -- the turn has its call, and tells the set of every router behind it, and whether the network
    -- is settled then
    pub same_call :
        (front : List Turn) (t : Turn) → Place front t → (turn_then front t).call ≡ t.call
    pub sets_told :
        (front : List Turn) (t : Turn) → Place front t →
        (o : Outcome)
        × ((turn_then front t).outcome ≡ Some o)
        × ((v : ℕ) → set_of o.advertised v ≡ set_of (network_then front t).advertised v)
        × (IsTrue o.settled ↔ Settled kept (network_then front t))
    -- a question is answered as the network is, also whether it is settled
    pub asked :
        (front : List Turn) (t : Turn) (q : Question) → Place front t → t.call ≡ Ask q →
        Told (reply kept (network_of kept bytes front) q) (turn_then front t)
    pub settled_told :
        (front : List Turn) (t : Turn) → Place front t → t.call ≡ Ask whether_settled →
        Told (settled_answer true) (turn_then front t) ↔ Settled kept (network_of kept bytes front)
    -- the test by which that is told holds of settled networks and no others, also where not all calls
    -- in front were made
    pub tested :
        (front back : List Turn) → turns ≡ front ++ back →
        IsTrue (at_rest kept (network_of kept bytes front)) ↔ Settled kept (network_of kept bytes front)
    -- a report is answered, and goes into its part; no other call writes
    pub reported :
        (front : List Turn) (t : Turn) (r : Reported) (part : Part) → Place front t →
        t.call ≡ Report r part →
        let w = world_of kept bytes front in
        let into = part_of w.bytes part in
        Told (report_answer w.network r (length into)) (turn_then front t)
        × ((world_then front t).bytes ≡ with_part w.bytes part (report_bytes w.network r into))
    pub bytes_stay :
        (front : List Turn) (t : Turn) → Place front t → WritesNothing t.call →
        (world_then front t).bytes ≡ (world_of kept bytes front).bytes
    -- every other call is done, or refused with the fault that it is to be refused with
    pub done :
        (front : List Turn) (t : Turn) → Place front t → AnswersDone t.call →
        ((fault : CallFault) → Refuses (world_of kept bytes front) t.call fault → ⊥) →
        Told Done (turn_then front t)
    pub refused :
        (front : List Turn) (t : Turn) (fault : CallFault) → Place front t →
        Told (Refused fault) (turn_then front t) ↔ Refuses (world_of kept bytes front) t.call fault
    -- a step of no router, and that alone, is refused for naming none
    pub none_named :
        (front : List Turn) (t : Turn) → Place front t → t.call ≡ Act (Step 0) →
        Told (Refused NoRouterNamed) (turn_then front t)
    pub named_none :
        (front : List Turn) (t : Turn) → Place front t →
        Told (Refused NoRouterNamed) (turn_then front t) →
        (w : ℕ) × (t.call ≡ Act (Step w)) × Empty w
    -- a refused call alters nothing, and a call that only looks leaves the network
    pub refused_nothing :
        (front : List Turn) (t : Turn) (fault : CallFault) → Place front t →
        Told (Refused fault) (turn_then front t) →
        (network_then front t ≡ network_of kept bytes front)
        × ((world_then front t).bytes ≡ (world_of kept bytes front).bytes)
    pub looked :
        (front : List Turn) (t : Turn) → Place front t → LeavesNetwork t.call →
        network_then front t ≡ network_of kept bytes front
    -- an action that is told as accepted makes of the network what it is for
    pub acted :
        (front : List Turn) (t : Turn) (a : Action) → Place front t →
        Accepts a (turn_then front t) →
        Makes kept (network_of kept bytes front) (network_then front t) a
    -- a load is told as done exactly if its bytes are the encoding of a well-formed table, which the
    -- network has then; a refused one names what is wrong with them
    pub loaded :
        (front : List Turn) (t : Turn) (read : Bor (List ℕ)) → Place front t →
        Accepts (Load read) (turn_then front t) →
        WellFormed (network_then front t).table × (read.now ≡ encoded (network_then front t).table)
    pub loads :
        (front : List Turn) (t : Turn) (read : Bor (List ℕ)) (d : Declared) → Place front t →
        t.call ≡ Act (Load read) → WellFormed d → read.now ≡ encoded d →
        Told Done (turn_then front t)
    pub load_refused :
        (front : List Turn) (t : Turn) (read : Bor (List ℕ)) (why : LoadFault) → Place front t →
        t.call ≡ Act (Load read) → Told (Refused (load_fault why)) (turn_then front t) →
        Broken read.now why × (place_of why ≤ 2272)
    -- behind settle the network is settled, with the table and the injected paths that it had
    pub settles :
        (front : List Turn) (t : Turn) → Place front t → t.call ≡ Settle →
        Settled kept (network_then front t)
        × ((network_then front t).table ≡ (network_of kept bytes front).table)
        × ((network_then front t).injected ≡ (network_of kept bytes front).injected)
    -- until it is reopened, every router advertises what the rule keeps of the injected paths
    pub settled_sets :
        (front back : List Turn) (v : ℕ) → turns ≡ front ++ back →
        (world_of kept bytes front).settled ≡ true →
        let s = network_of kept bytes front in
        v < length s.table.routers → set_of s.advertised v ≡ kept s.table.paths s.injected

  -- calls that are made behind those in front, and no change among them
  pub record Midst (front ts : List Turn) : Type 0 where
    pub back : List Turn
    pub whole : turns ≡ front ++ (ts ++ back)
    pub made : (run_of kept bytes (front ++ ts)).made ≡ length (front ++ ts)
    pub none : All NoChange (behind kept bytes front ts).turns

  -- these calls make steps of these sets of routers, one behind the other, and no other step
  abbrev pub MakeSteps : List Turn → List Turn → List ℕ → Type 0
  MakeSteps front ts ws =
      steps_in (length (network_of kept bytes front).table.routers) (behind kept bytes front ts).turns
      ≡ ws

  -- of steps that are called, and of what is told of best paths and of packets
  pub record FollowsOfRest : Type 0 where
    -- of calls one behind the other the steps are counted one behind the other: an accepted step
    -- counts once, a settle as seven rounds of one router a step, and a refused action, a question, a
    -- report and a reopening as none
    pub counted_apart :
        (n : ℕ) (ts us : List Turn) → steps_in n (ts ++ us) ≡ steps_in n ts ++ steps_in n us
    pub step_counted : (n w : ℕ) (t : Turn) → Accepts (Step w) t → steps_in n (t ∷ []) ≡ w ∷ []
    pub settle_counted :
        (n : ℕ) (t : Turn) (o : Outcome) → t.call ≡ Settle → t.outcome ≡ Some o →
        steps_in n (t ∷ []) ≡ all_of n 7
    pub refused_uncounted :
        (n : ℕ) (t : Turn) (a : Action) (fault : CallFault) → t.call ≡ Act a → Told (Refused fault) t →
        steps_in n (t ∷ []) ≡ []
    pub looks_uncounted : (n : ℕ) (t : Turn) → LeavesNetwork t.call → steps_in n (t ∷ []) ≡ []
    -- six rounds settle the network, whichever routers step together and in whatever order; so do six
    -- steps of all routers
    pub six_called :
        (front ts : List Turn) (rounds : List (List ℕ)) → Midst front ts →
        MakeSteps front ts (flat_map (λ ws. ws) rounds) → length rounds ≡ 6 →
        All (IsRound (network_of kept bytes front)) rounds →
        Settled kept (network_of kept bytes (front ++ ts))
    pub six_steps :
        (front ts : List Turn) (w : ℕ) → Midst front ts → MakeSteps front ts (replicate 6 w) →
        NamesAll (network_of kept bytes front) w →
        Settled kept (network_of kept bytes (front ++ ts))
    -- a round by which no advertised set is told to be altered shows that the network was settled
    pub quiet_called :
        (front ts : List Turn) (ws : List ℕ) → Midst front ts → MakeSteps front ts ws →
        IsRound (network_of kept bytes front) ws →
        Unaltered (network_of kept bytes front).advertised (behind kept bytes front ts).turns →
        Settled kept (network_of kept bytes front)
    -- and where it was settled, no call but a change is told to alter one
    pub none_altered :
        (front ts before later : List Turn) (t : Turn) (o : Outcome) → Midst front ts →
        Settled kept (network_of kept bytes front) →
        (behind kept bytes front ts).turns ≡ before ++ (t ∷ later) → t.outcome ≡ Some o →
        o.advertised ≡ (network_of kept bytes front).advertised
    -- a path is told as the best one exactly if it is, and none where the router advertises none
    pub best_told :
        (front : List Turn) (t : Turn) (v p : ℕ) → Place front t → t.call ≡ Ask (Best v) →
        let s = network_of kept bytes front in
        v < length s.table.routers →
        Told (best_answer (Some p)) (turn_then front t)
        ↔ BestPath plain s.table (set_of s.advertised v) v p
    pub no_best :
        (front : List Turn) (t : Turn) (v q : ℕ) → Place front t → t.call ≡ Ask (Best v) →
        let s = network_of kept bytes front in
        v < length s.table.routers → Told (best_answer None) (turn_then front t) →
        Offered s.table.paths (set_of s.advertised v) q → ⊥
    -- in a settled network a path is told exactly if some path is injected
    pub best_none :
        (front : List Turn) (t : Turn) (v : ℕ) → Place front t → t.call ≡ Ask (Best v) →
        v < length (network_of kept bytes front).table.routers →
        Settled kept (network_of kept bytes front) → Empty (network_of kept bytes front).injected →
        Told (best_answer None) (turn_then front t)
    pub best_some :
        (front : List Turn) (t : Turn) (v q : ℕ) → Place front t → t.call ≡ Ask (Best v) →
        v < length (network_of kept bytes front).table.routers →
        Settled kept (network_of kept bytes front) → HasInjected (network_of kept bytes front) q →
        Told (best_answer None) (turn_then front t) → ⊥
    -- a trace writes as many routers as it tells, no router twice, and first the one that it was
    -- asked about; behind them the part is as it was, and so are the bytes around it
    pub way_written :
        (front : List Turn) (t : Turn) (v q d : ℕ) (part : Part) (way : Way) → Place front t →
        t.call ≡ Report (Trace v) part → HasInjected (network_of kept bytes front) q →
        Told (way_answer (Some way)) (turn_then front t) →
        let w = world_of kept bytes front in
        (met : List ℕ)
        × (length (v ∷ met) ≡ way.count)
        × Once (v ∷ met)
        × Leaves plain w.network.table (best_of w.network) v met way.path
        × Cheap w.network v met
        × ((world_then front t).bytes
        ≡ with_part w.bytes part ((v ∷ met) ++ drop way.count (part_of w.bytes part)))
        × (slice_index_or (world_then front t).bytes part.start d ≡ v)
    -- it tells a way exactly if some path is injected
    pub way_none :
        (front : List Turn) (t : Turn) (v : ℕ) (part : Part) → Place front t →
        t.call ≡ Report (Trace v) part → Empty (network_of kept bytes front).injected →
        ((fault : CallFault) → Told (Refused fault) (turn_then front t) → ⊥) →
        Told (way_answer None) (turn_then front t)
    pub way_some :
        (front : List Turn) (t : Turn) (v q : ℕ) (part : Part) → Place front t →
        t.call ≡ Report (Trace v) part → HasInjected (network_of kept bytes front) q →
        Told (way_answer None) (turn_then front t) → ⊥

  pub record Follows : Type 0 where
    pub of_calls : FollowsOfCalls
    pub of_moves : FollowsOfMoves
    pub of_turns : FollowsOfTurns
    pub of_rest : FollowsOfRest
