use Rattle.std.proofs.Common.{Ok, sym, ◌∙◌, inl, inr}
use Rattle.costs.specs.Cost.{plain}
use Rattle.distances.specs.Answered.{declared_by, of_router}
use Rattle.packets.specs.Best.{best}
use Rattle.forwarding.proofs.Refused.{best_asked, best_refuses, best_where_declared, refused_for_path, through}
use Rattle.forwarding.proofs.best_path.best.Goals as goal

pub returns-in-Some-clause-refuses : goal.returns-in-Some-clause-refuses
returns-in-Some-clause-refuses c fault =
    let t = declared_by c.args.distances.now in
    let v = c.args.router in
    let s = c.args.set in
    through (refused_for_path t s c.lowest_undeclared.ensures.value c.in-Some.is (of_router t v (Ok (best plain t s v))))
    (best_refuses t s (inl (c.in-Some.path, sym c.lowest_undeclared.ensures.value ∙ c.in-Some.is)) v fault)

pub returns-clause-asked : goal.returns-clause-asked
returns-clause-asked c =
    best_asked (declared_by c.args.distances.now) c.args.set c.in_default.ensures.none c.args.router c.best_declared.result c.best_declared.ensures.value

pub returns-clause-refuses : goal.returns-clause-refuses
returns-clause-refuses c fault =
    let t = declared_by c.args.distances.now in
    let all = c.in_default.ensures.none in
    through (c.best_declared.ensures.value ∙ sym (best_where_declared t c.args.set all c.args.router)) (best_refuses t c.args.set (inr all) c.args.router fault)
