use Rattle.std.proofs.Common.{◌≡◌, ◌++◌, map, take, drop}
use Rattle.layout.specs.Graph.{relabelled}
use Rattle.tables.proofs.graph.relabel.Given as goal

-- the first labels are changed, and those that are left are as they were
abbrev pub invariant-loop-label : goal.invariant-loop-label
invariant-loop-label l = l.labels ≡ map (relabelled l.old l.new) (take l.label-index l.initial.labels) ++ drop l.label-index l.initial.labels
