use Rattle.std.proofs.Common.{◌≡◌, length}
use Rattle.protocol.specs.Moves.{all_of}
use Rattle.protocol.proofs.Rising.{after}
use Rattle.network.specs.Running.{state_of}
use Rattle.network.proofs.running.Running.rounds.Given as goal

-- so many rounds are made
abbrev pub invariant-loop : goal.invariant-loop
invariant-loop g l =
    ((state_of l.self).table ≡ (state_of l.initial.self).table)
    × (l.self.rule ≡ l.initial.self.rule)
    × (state_of l.self ≡ after (g.R.Rule.kept l.initial.self.rule) (state_of l.initial.self) (all_of (length (state_of l.initial.self).table.routers) l.counter))
