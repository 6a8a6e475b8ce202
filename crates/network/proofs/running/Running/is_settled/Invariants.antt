use Rattle.std.proofs.Common.{◌≡◌, true, take}
use Rattle.std.specs.List.{list_all}
use Rattle.network.specs.Running.{state_of}
use Rattle.network.proofs.AtRest.{rests}
use Rattle.network.proofs.running.Running.is_settled.Given as goal

-- the routers before this one rest
abbrev pub invariant-loop-v : goal.invariant-loop-v
invariant-loop-v g l =
    let s = state_of l.fn.self in
    list_all (rests (g.R.Rule.kept l.fn.self.rule) s) (take l.v s.advertised) ≡ true
