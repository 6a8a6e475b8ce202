use Rattle.std.proofs.Common.{◌+◌, get_or, drop, sym, ap, ◌∙◌}
use Rattle.std.proofs.lemmas.List.{at_drop_more, at_drop_all}
use Rattle.layout.specs.declared.link.Link.{Link}
use Rattle.costs.specs.Cost.{plain}
use Rattle.costs.specs.Least.{by_links}
use Rattle.distances.specs.Held.{cost_at}
use Rattle.distances.proofs.Rows.{lowered_both}
use Rattle.distances.proofs.matrix.link.Goals as goal

abbrev unread : Link
unread = record { ends = record { a = 0; b = 0 }; metric = 0 }

pub loop-link-preserved : goal.loop-link-preserved
unfolding by_links
loop-link-preserved c = λ a b la lb.
    let links = c.args.links.now in
    let costs = c.loop-link.costs in
    let i = c.loop-link.link-index in
    ap (λ d. by_links plain d (drop (i + 1) links) a b) (lowered_both costs (get_or links i unread) _ _ c.min.ensures c.min-in-loop-link.ensures a b)
    ∙ sym (at_drop_more (λ ls. by_links plain (cost_at costs a b) ls a b) links i unread c.loop-link-test.true)
    ∙ c.loop-link.invariant a b la lb

pub returns : goal.returns
unfolding by_links
returns c = λ a b la lb.
    let links = c.args.links.now in
    let costs = c.loop-link.costs in
    sym (at_drop_all (λ ls. by_links plain (cost_at costs a b) ls a b) links c.loop-link.link-index c.loop-link-test.false) ∙ c.loop-link.invariant a b la lb
