-- How clauses see a running network: its rule, and what it is.
use Rattle.protocol.specs.Network.{State}
use Rattle.rules.specs.declared.rule.Rule.{Ghosts}
use Rattle.network.specs.Held.{state_held}
use Rattle.network.specs.declared.running.Running.{Running}

module _ {R : Type 0} {ghosts : Ghosts R} where
  abbrev pub rule_of : Running R ghosts → R
  rule_of n = n.rule

  abbrev pub state_of : Running R ghosts → State
  state_of n = state_held n.held
