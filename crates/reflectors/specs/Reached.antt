-- What a network is that runs or is settled, and where a run stands with it.
use Rattle.std.specs.Prelude.{ℕ, Bool, true, false, List}
use Rattle.network.specs.Running as running
use Rattle.network.specs.Settled as settled
use Rattle.network.specs.declared.running.Running.{Running}
use Rattle.network.specs.declared.settled.Settled.{Settled}
use Rattle.protocol.specs.Network.{State}
use Rattle.rules.specs.declared.rule.Rule.{Ghosts}
use Rattle.calls.specs.Turns.{World}
use Rattle.reflectors.specs.declared.reached.Reached.{Reached}
use Rattle.reflectors.specs.declared.reached.Reached.TheVariants.{Running as is_running, Settled as is_at_rest}

module _ {R : Type 0} {ghosts : Ghosts R} where
  abbrev pub rule_in : Reached R ghosts → R
  rule_in (is_running n) = running.rule_of n
  rule_in (is_at_rest n) = settled.rule_of n

  abbrev pub state_in : Reached R ghosts → State
  state_in (is_running n) = running.state_of n
  state_in (is_at_rest n) = settled.state_of n

  -- whether it was settled and not reopened
  abbrev pub was_settled : Reached R ghosts → Bool
  was_settled (is_running n) = false
  was_settled (is_at_rest n) = true

  -- where a run stands with this network, and with these bytes
  abbrev pub running_world : Running R ghosts → List ℕ → World
  running_world n bytes = record { network = running.state_of n; settled = false; bytes = bytes }

  abbrev pub settled_world : Settled R ghosts → List ℕ → World
  settled_world n bytes = record { network = settled.state_of n; settled = true; bytes = bytes }

  abbrev pub world_in : Reached R ghosts → List ℕ → World
  world_in n bytes = record { network = state_in n; settled = was_settled n; bytes = bytes }
