-- What the calls answer, refused or not. Assumes nothing.
use Rattle.std.specs.Prelude.{ℕ, cond, List, ◌++◌, length, drop, Some, None, Ok, Err, Option, Result, nat_le, nat_lt}
use Rattle.costs.specs.Cost.{plain}
use Rattle.distances.specs.Answered.{of_router, of_routers}
use Rattle.faults.specs.declared.call.CallFault.{CallFault}
use Rattle.faults.specs.declared.call.CallFault.TheVariants.{UndeclaredPath, ShortBuffer}
use Rattle.layout.specs.Table.{Declared}
use Rattle.packets.specs.Best.{best, metric}
use Rattle.packets.specs.Hops.{hop}
use Rattle.packets.specs.Ways.{Course, way}
use Rattle.selection.specs.Undeclared.{lowest_undeclared}
use Rattle.forwarding.specs.declared.packet.Way.{Way}

-- an answer that is refused at this path, if there is one
abbrev pub refused_at : {X : Type 0} → Option ℕ → Result X CallFault → Result X CallFault
refused_at None answer = answer
refused_at (Some p) answer = Err (UndeclaredPath p)

-- an answer about a set, refused at the lowest of its paths that is not declared
abbrev pub of_set : {X : Type 0} → Declared → ℕ → Result X CallFault → Result X CallFault
of_set t s answer = refused_at (lowest_undeclared t.paths s) answer

-- the best path of router v of a set
abbrev pub best_answer : Declared → ℕ → ℕ → Result (Option ℕ) CallFault
best_answer t s v = of_set t s (of_router t v (Ok (best plain t s v)))

-- the metric of path p at router v
abbrev pub metric_answer : Declared → ℕ → ℕ → Result ℕ CallFault
metric_answer t v p = cond (nat_lt p (length t.paths)) (of_router t v (Ok (metric plain t v p))) (Err (UndeclaredPath p))

-- the next hop from v towards e
abbrev pub hop_answer : Declared → ℕ → ℕ → Result (Option ℕ) CallFault
hop_answer t v e = of_routers t v e (Ok (hop plain t v e))

-- how many routers a packet meets, and the path by which it leaves
abbrev pub told : Course → Option Way
told None = None
told (Some r) = Some (record { count = length r.0; path = r.1 })

-- the routers that it meets, and behind them what the buffer held
abbrev pub over_written : Course → List ℕ → List ℕ
over_written None before = before
over_written (Some r) before = r.0 ++ drop (length r.0) before

-- the way of a packet from router v, where a buffer has so many bytes
abbrev pub trace_answer : Declared → ℕ → ℕ → ℕ → Result (Option Way) CallFault
trace_answer t s v room = of_set t s (of_router t v (cond (nat_le 32 room) (Ok (told (way plain t s v))) (Err (ShortBuffer 32))))

-- a buffer afterwards, which a refused call leaves as it was
abbrev pub unless_refused : {X : Type 0} → Result X CallFault → List ℕ → List ℕ → List ℕ
unless_refused (Ok answer) before after = after
unless_refused (Err fault) before after = before

-- the buffer afterwards
abbrev pub trace_bytes : Declared → ℕ → ℕ → List ℕ → List ℕ
trace_bytes t s v before = unless_refused (trace_answer t s v (length before)) before (over_written (way plain t s v) before)
