use Rattle.std.proofs.Common.{◌++◌, length, drop, ap, add-one, arith}
use Rattle.std.proofs.lemmas.Grind.{common_steps}
use Rattle.costs.specs.Least.{over}
use Rattle.distances.proofs.HeldCosts.{held_from}
use Rattle.tables.specs.Accepted.{declared}
use Rattle.distances.proofs.matrix.least.Goals as goal

pub loop-k-init : goal.loop-k-init
unfolding over
loop-k-init c = λ a b la lb. rw (← c.links.ensures.value) (grind (arith, common_steps, c.link.ensures a b, c.unlinked-costs.ensures a b))

pub loop-k-preserved : goal.loop-k-preserved
unfolding over
loop-k-preserved c = λ a b la lb.
    let held = c.loop-k.invariant in
    let k = c.loop-k.k in
    rw add-one (grind (arith, common_steps, c.pass.ensures a b, held a b, held a k, held k b))

pub returns : goal.returns
returns c =
    let t = declared c.args.table.now in
    let rows = c.loop-k.rows in
    let rest = drop (length c.routers.result.now) c.link.new.costs in
    let all = ap length c.routers.ensures.value in
    held_from t (rows ++ rest) c.args.table.now.sound (λ a b la lb. grind (arith, common_steps, c.loop-k.invariant a b))
