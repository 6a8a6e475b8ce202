use Rattle.std.proofs.Common.{Bool, ◌&&◌, ap, ◌∙◌}
use Rattle.sets.specs.Members.{member}
use Rattle.sets.proofs.Same.{same_set}
use Rattle.selection.specs.Laws.{declared_of}
use Rattle.selection.proofs.DeclaredPart.{declared_first}
use Rattle.rules.proofs.declared.declared_of.Goals as goal

pub returns-clause-value : goal.returns-clause-value
returns-clause-value c =
    let xs = c.args.paths.now in
    let s = c.args.set in
    same_set c.intersection.result (declared_of xs s)
    (λ k.
    c.intersection.ensures.members k
    ∙ ap (λ (t : Bool). member s k && t) (c.first.ensures.members k)
    ∙ declared_first xs s c.min-count.result k c.intersection.ensures.narrow c.min-count.ensures)
