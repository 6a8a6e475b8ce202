use Rattle.std.proofs.Common.{rules}
use Rattle.std.proofs.lemmas.List.FromFn.{fill_by_all}
use Rattle.tables.proofs.graph.own_labels.Goals as goal

pub returns : goal.returns
returns c =
    let made = c.from_fn.ensures.items in
    fill_by_all (λ k. k) c.from_fn.result 32 0 made.long (λ k lt. let called = made.at k 0 lt in search rules)
