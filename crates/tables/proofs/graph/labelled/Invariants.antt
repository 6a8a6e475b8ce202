use Rattle.std.proofs.Common.{◌≡◌, length, drop}
use Rattle.layout.specs.Graph.{merged_all, labels}
use Rattle.tables.proofs.graph.labelled.Given as goal

-- the links that are left take these labels to those of all links
abbrev pub invariant-loop-link : goal.invariant-loop-link
invariant-loop-link l = (merged_all l.labels (drop l.link-index l.links) ≡ labels l.links) × (length l.labels ≡ 32)
