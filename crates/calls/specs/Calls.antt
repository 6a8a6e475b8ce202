-- What the calls on a network answer, and what they do to it.
use Rattle.std.specs.Prelude.{⊤, ℕ, Bool, cond, ◌&&◌, ◌==◌, List, length, take, Some, None, Ok, Err, Option, Result, nat_le, nat_lt}
use Rattle.std.specs.List.{list_all}
use Rattle.costs.specs.Cost.{plain}
use Rattle.distances.specs.Answered.{of_router}
use Rattle.faults.specs.declared.call.CallFault.{CallFault}
use Rattle.faults.specs.declared.call.CallFault.TheVariants.{Load as load_fault, UndeclaredPath, UndeclaredRouter, NoRouterNamed, AlreadyInjected, NotInjected, ShortBuffer}
use Rattle.faults.specs.declared.load.LoadFault.{LoadFault}
use Rattle.forwarding.specs.Answers.{told, over_written}
use Rattle.forwarding.specs.declared.packet.Way.{Way}
use Rattle.layout.specs.Reading.{table_in}
use Rattle.layout.specs.Table.{Declared}
use Rattle.listing.specs.Listing.{list_at, list_bytes}
use Rattle.packets.specs.Best.{metric}
use Rattle.selection.specs.Laws.{Keeping}
use Rattle.sets.specs.Members.{member, least_from}
use Rattle.protocol.specs.Moves.{Move, moved}
use Rattle.protocol.specs.Moves.Move.{Loaded, Injected as injected_path, Withdrawn, Restarted, Activated}
use Rattle.protocol.specs.Network.{State, set_of}
use Rattle.protocol.specs.Packets.{best_of, way_of}
use Rattle.calls.specs.declared.answer.Answer.{Answer}
use Rattle.calls.specs.declared.answer.Answer.TheVariants.{Best as best_answer, Metric as metric_answer, Paths, Settled as settled_answer, Way as way_answer, Written, Refused}
use Rattle.calls.specs.declared.action.Action.{Action}
use Rattle.calls.specs.declared.action.Action.TheVariants.{Load, Inject, Withdraw, Restart, Step}
use Rattle.calls.specs.declared.question.Question.{Question}
use Rattle.calls.specs.declared.question.Question.TheVariants.{Best, Metric, Known, Advertised, Injected, Settled}
use Rattle.calls.specs.declared.report.Report.{Report}
use Rattle.calls.specs.declared.report.Report.TheVariants.{Trace, List as list_report}

-- what an action comes to: what happens to the network, or why it is refused
abbrev pub Coming : Type 0
Coming = Result Move CallFault

abbrev pub loading_by : Result Declared LoadFault → Coming
loading_by (Ok t) = Ok (Loaded t)
loading_by (Err fault) = Err (load_fault fault)

abbrev pub loading : List ℕ → Coming
loading bytes = loading_by (table_in bytes)

abbrev pub stepping_by : ℕ → Option ℕ → Coming
stepping_by w (Some v) = Err (UndeclaredRouter v)
stepping_by w None = cond (w == 0) (Err NoRouterNamed) (Ok (Activated w))

module _ (s : State) where
  abbrev pub injecting : ℕ → Coming
  injecting p =
      cond (nat_lt p (length s.table.paths))
      (cond (member s.injected p) (Err (AlreadyInjected p)) (Ok (injected_path p)))
      (Err (UndeclaredPath p))

  abbrev pub withdrawing : ℕ → Coming
  withdrawing p =
      cond (nat_lt p (length s.table.paths))
      (cond (member s.injected p) (Ok (Withdrawn p)) (Err (NotInjected p)))
      (Err (UndeclaredPath p))

  abbrev pub restarting : ℕ → Coming
  restarting v = of_router s.table v (Ok (Restarted v))

  abbrev pub stepping : ℕ → Coming
  stepping w = stepping_by w (least_from 32 w (length s.table.routers))

-- what each action comes to
abbrev pub coming : State → Action → Coming
coming s (Load bytes) = loading bytes.now
coming s (Inject p) = injecting s p
coming s (Withdraw p) = withdrawing s p
coming s (Restart v) = restarting s v
coming s (Step w) = stepping s w

-- the answer, and the network afterwards: a refused action leaves it as it was
abbrev pub done : Keeping → State → Coming → Result ⊤ CallFault × State
done kept s (Ok m) = (Ok tt, moved kept s m)
done kept s (Err fault) = (Err fault, s)

-- the best path of router v
abbrev pub best_at : State → ℕ → Result (Option ℕ) CallFault
best_at s v = of_router s.table v (Ok (best_of s v))

-- the metric of a path at router v, where there is a path
abbrev pub metric_of : State → ℕ → Option ℕ → Option ℕ
metric_of s v None = None
metric_of s v (Some p) = Some (metric plain s.table v p)

-- the metric of router v's best path
abbrev pub metric_at : State → ℕ → Result (Option ℕ) CallFault
metric_at s v = of_router s.table v (Ok (metric_of s v (best_of s v)))

-- what router v knows, and what it advertises
abbrev pub known_at : State → ℕ → Result ℕ CallFault
known_at s v = of_router s.table v (Ok (set_of s.known v))

abbrev pub advertised_at : State → ℕ → Result ℕ CallFault
advertised_at s v = of_router s.table v (Ok (set_of s.advertised v))

-- whether every router advertises exactly what the rule keeps of all injected paths
abbrev pub at_rest : Keeping → State → Bool
at_rest kept s = list_all (λ set. set == kept s.table.paths s.injected) (take (length s.table.routers) s.advertised)

-- the way of a packet from router v, where a buffer has so many bytes
abbrev pub trace_at : State → ℕ → ℕ → Result (Option Way) CallFault
trace_at s v room = of_router s.table v (cond (nat_le 32 room) (Ok (told (way_of s v))) (Err (ShortBuffer 32)))

-- the buffer afterwards
abbrev pub trace_bytes_at : State → ℕ → List ℕ → List ℕ
trace_bytes_at s v before = cond (nat_lt v (length s.table.routers) && nat_le 32 (length before)) (over_written (way_of s v) before) before

-- an answer, or why there is none
abbrev pub answered : {X : Type 0} → (X → Answer) → Result X CallFault → Answer
answered tells (Ok x) = tells x
answered tells (Err fault) = Refused fault

-- what is answered to a question
abbrev pub reply : Keeping → State → Question → Answer
reply kept s (Best v) = answered best_answer (best_at s v)
reply kept s (Metric v) = answered metric_answer (metric_at s v)
reply kept s (Known v) = answered Paths (known_at s v)
reply kept s (Advertised v) = answered Paths (advertised_at s v)
reply kept s Injected = Paths s.injected
reply kept s Settled = settled_answer (at_rest kept s)

-- what is answered where a report goes into a buffer of so many bytes
abbrev pub report_answer : State → Report → ℕ → Answer
report_answer s (Trace v) room = answered way_answer (trace_at s v room)
report_answer s list_report room = answered Written (list_at s.table s.advertised room)

-- the buffer afterwards
abbrev pub report_bytes : State → Report → List ℕ → List ℕ
report_bytes s (Trace v) before = trace_bytes_at s v before
report_bytes s list_report before = list_bytes s.table s.advertised before
