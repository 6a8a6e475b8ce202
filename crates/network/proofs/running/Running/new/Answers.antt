use Rattle.std.proofs.Common.{sym, subst}
use Rattle.protocol.specs.Consistent.{Consistent}
use Rattle.protocol.proofs.Moving.{begun_consistent}
use Rattle.network.proofs.Whole.{nothing_is}
use Rattle.layout.specs.Table.{nothing}
use Rattle.network.proofs.running.Running.new.Goals as goal

pub invariant_of-result : goal.invariant_of-result
invariant_of-result g c =
    let nobody = c.nothing_known.ensures in
    record { consistent = subst (Consistent (g.R.Rule.kept c.args.rule)) (sym (nothing_is nothing nobody.injected nobody.known nobody.advertised)) (begun_consistent (g.R.Rule.laws c.args.rule)) }
