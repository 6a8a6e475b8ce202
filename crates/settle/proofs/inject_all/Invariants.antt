use Rattle.std.proofs.Common.{◌≡◌}
use Rattle.network.specs.Running.{rule_of, state_of}
use Rattle.settle.proofs.Injecting.{InjectedBelow}
use Rattle.settle.proofs.inject_all.Given as goal

abbrev pub invariant-loop-path : goal.invariant-loop-path
invariant-loop-path g l =
    InjectedBelow (state_of l.fn.network).table l.path (state_of l.network)
    × (rule_of l.network ≡ rule_of l.fn.network)
