use Rattle.std.proofs.Common.{◌≡◌}
use Rattle.protocol.specs.Moves.{one_by_one}
use Rattle.protocol.proofs.Rising.{after}
use Rattle.network.specs.Running.{state_of}
use Rattle.network.proofs.running.Running.round.Given as goal

-- the routers before this one made a step
abbrev pub invariant-loop-v : goal.invariant-loop-v
invariant-loop-v g l =
    ((state_of l.self).table ≡ (state_of l.initial.self).table)
    × (l.self.rule ≡ l.initial.self.rule)
    × (state_of l.self ≡ after (g.R.Rule.kept l.initial.self.rule) (state_of l.initial.self) (one_by_one l.v))
