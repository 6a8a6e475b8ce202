use Rattle.std.proofs.Common.{◌≡◌}
use Rattle.selection.specs.Laws.{declared_of}
use Rattle.selection.specs.Stages.{extremes}
use Rattle.selection.proofs.DeclaredPart.{all_declared_part, declared_all, declared_same}
use Rattle.selection.proofs.Extremes.{extremes_within}
use Rattle.rules.proofs.extreme.ExtremeRule.keep.Goals as goal

pub returns : goal.returns
returns g c =
    let xs = c.args.paths.now in
    let s = declared_of xs c.args.set in
    let best = extremes c.args.self.now.criterion xs s in
    let same : declared_of xs best ≡ best = declared_same xs best (all_declared_part xs s best (declared_all xs c.args.set) (extremes_within c.args.self.now.criterion xs s)) in
    rw (c.keep.ensures, c.extremes-picked.ensures, c.declared_of.ensures.value, same)
