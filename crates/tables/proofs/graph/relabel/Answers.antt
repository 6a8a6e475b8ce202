use Rattle.std.proofs.Common.{◌<◌, length, get_or, set, sym, ap, ◌∙◌, arith}
use Rattle.std.proofs.lemmas.List.Edits.{map_over_more}
use Rattle.std.proofs.lemmas.List.{get_or_default}
use Rattle.layout.specs.Graph.{relabelled}
use Rattle.layout.proofs.Chains.{hit, miss}
use Rattle.tables.proofs.graph.relabel.Goals as goal
use Rattle.tables.proofs.graph.relabel.Goals.{then-label-old, else-label-old}

pub loop-label-preserved : goal.loop-label-preserved
loop-label-preserved c =
    let ys = c.loop-label.labels in
    let i = c.loop-label.label-index in
    let x = get_or ys i 0 in
    let f = relabelled c.args.old c.args.new in
    let within : i < length ys = omega (arith, c.loop-label.auto.labels, c.loop-label-test.true) in
    let next = map_over_more f c.args.labels.now ys i x c.loop-label-test.true c.loop-label.invariant (get_or_default ys i 0 x within) in
    elim c.if-label-old.branch [
      | then-label-old w ↦ w.labels-is ∙ ap (set ys i) (sym (hit _ _ x w.if-label-old.true)) ∙ next
      | else-label-old w ↦ w.labels-is ∙ ap (set ys i) (sym (miss c.args.old c.args.new x w.if-label-old.false)) ∙ next
    ]
