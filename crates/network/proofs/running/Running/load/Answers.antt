use Rattle.std.proofs.Common.{Ok, sym, ap, ◌∙◌, subst}
use Rattle.distances.specs.Answered.{declared_by}
use Rattle.layout.proofs.Certain.{known_well_formed}
use Rattle.layout.specs.Table.{Declared}
use Rattle.protocol.specs.Alters.{Begins}
use Rattle.protocol.specs.Consistent.{Consistent}
use Rattle.protocol.proofs.Moving.{loaded_consistent}
use Rattle.protocol.proofs.Altering.{begins}
use Rattle.network.proofs.Whole.{nothing_is}
use Rattle.network.proofs.running.Running.load.Goals as goal

pub invariant_of-self : goal.invariant_of-self
invariant_of-self g c =
    let nobody = c.nothing_known.ensures in
    let t = declared_by c.of-2.result.distances in
    let w = known_well_formed t c.of-2.result.distances.table.sound in
    record {
      consistent = subst (Consistent (g.R.Rule.kept c.args.self.now.rule)) (sym (nothing_is t nobody.injected nobody.known nobody.advertised)) (loaded_consistent (g.R.Rule.laws c.args.self.now.rule) t w);
    }

pub returns-clause-begins : goal.returns-clause-begins
returns-clause-begins g c =
    let nobody = c.nothing_known.ensures in
    let t = declared_by c.of-2.result.distances in (
      t,
      sym c.in_ok-table.ensures.value ∙ ap (λ (d : Declared). Ok d) (sym c.of.ensures.same ∙ sym c.of-2.ensures),
      subst (Begins t) (sym (nothing_is t nobody.injected nobody.known nobody.advertised)) (begins (g.R.Rule.laws c.args.self.now.rule) t),
    )
