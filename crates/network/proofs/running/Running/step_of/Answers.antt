use Rattle.std.proofs.Common.{arith}
use Rattle.network.proofs.running.Running.step_of.Goals as goal

-- every named router is declared
pub activate-requires : goal.activate-requires
activate-requires g c v m = omega (arith, c.least_from.ensures.below c.in_default.is v m, c.count.ensures.value)
