use Rattle.selection.specs.Laws.{declared_of}
use Rattle.selection.proofs.DeclaredPart.{declared_all}
use Rattle.selection.proofs.SteadyLaws.{steady}
use Rattle.rules.proofs.advertise.advertised.Goals as goal

pub returns-clause-steady : goal.returns-clause-steady
returns-clause-steady g c =
    let xs = c.args.paths.now in
    steady (g.R.Rule.laws c.args.rule.now) xs (declared_of xs c.args.known) (declared_all xs c.args.known)
