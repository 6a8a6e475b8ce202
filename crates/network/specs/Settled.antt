-- How clauses see a settled network: as the one that it was before.
use Rattle.protocol.specs.Network.{State}
use Rattle.rules.specs.declared.rule.Rule.{Ghosts}
use Rattle.network.specs.Running as running
use Rattle.network.specs.declared.settled.Settled.{Settled}

module _ {R : Type 0} {ghosts : Ghosts R} where
  abbrev pub rule_of : Settled R ghosts → R
  rule_of n = running.rule_of n.running

  abbrev pub state_of : Settled R ghosts → State
  state_of n = running.state_of n.running
