use Rattle.std.proofs.Common.{◌≡◌, ◌+◌, ◌*◌, ◌<◌, ◌≤◌, length, get_or, sym, ◌∙◌, subst, arith}
use Rattle.std.proofs.lemmas.Grind.{common_steps}
use Rattle.costs.specs.Cost.{plain}
use Rattle.costs.proofs.Plain.{plain_laws}
use Rattle.distances.specs.Answered.{declared_by, distances_from}
use Rattle.layout.specs.Table.{path_at}
use Rattle.layout.specs.declared.path.ExitPath.{ExitPath}
use Rattle.layout.proofs.Certain.{known_well_formed}
use Rattle.packets.specs.BestPlain.{BestIs}
use Rattle.packets.proofs.BestPaths.{best_is, best_from}
use Rattle.forwarding.proofs.Ranks.{none_found, found_first, found_declared, found_ends, found_higher, found_lower, ranked}
use Rattle.forwarding.proofs.Rows.{answered, answers, exit_in_row, row_near}
use Rattle.forwarding.proofs.best_path.best_declared.Goals as goal

pub returns-in_default : goal.returns-in_default
returns-in_default c =
    let t = declared_by c.args.distances.now in
    let v = c.args.router in
    let s = c.args.set in
    let is = none_found t v s c.in_default.ensures in
    record {
      value = answers t v _ _ (answered t v _ (distances_from t v) c.in_ok-row.ensures.value).0 is;
      plain = subst (BestIs plain t s v) (sym is) (best_is plain plain_laws t s v);
      only = λ p h. is ∙ best_from plain plain_laws t s v p h;
    }

pub rank-lowest-requires : goal.rank-lowest-requires
rank-lowest-requires c =
    let t = declared_by c.args.distances.now in
    let w = known_well_formed t c.args.distances.now.table.sound in
    let row = c.in_ok-row.row.now in
    let told = c.in_ok-row.ensures.value in
    let p = c.in-Some.first in
    let lt : p < length t.paths = c.requires p c.in-Some.ensures.0.0 in
    let at : path_at c.paths-paths.result.now p ≡ path_at t.paths p = grind (arith, common_steps) in
    record {
      in_row = subst (λ (x : ExitPath). x.exit_point < length row) (sym at) (exit_in_row t w c.args.router row told p lt);
      near = omega (arith, subst (λ (x : ExitPath). get_or row x.exit_point 0 + x.exit_cost ≤ 32 * 65535) (sym at) (row_near t w c.args.router row told p lt));
    }

pub loop-p-init : goal.loop-p-init
loop-p-init c =
    let t = declared_by c.args.distances.now in
    let w = known_well_formed t c.args.distances.now.table.sound in
    let p = c.in-Some.first in
    let lt : p < length t.paths = c.requires p c.in-Some.ensures.0.0 in
    let at : path_at c.paths-paths.result.now p ≡ path_at t.paths p = grind (arith, common_steps) in
    rw c.into_iter-p-iterator.ensures.into_iter_gives
    (found_first t c.args.router c.args.set p c.without-p-items.result c.in-Some.ensures.0 c.without-p-items.ensures.members lt c.rank-lowest.result
    (ranked t c.args.router w c.in_ok-row.row.now c.in_ok-row.ensures.value p (path_at c.paths-paths.result.now p) c.rank-lowest.result lt at c.rank-lowest.ensures.value c.rank-lowest.ensures.narrow))

pub rank-rank-requires : goal.rank-rank-requires
rank-rank-requires c =
    let t = declared_by c.args.distances.now in
    let w = known_well_formed t c.args.distances.now.table.sound in
    let row = c.in_ok-row.row.now in
    let told = c.in_ok-row.ensures.value in
    let p = c.in-Some-p.p in
    let lt : p < length t.paths = grind (arith, common_steps) in
    let at : c.in-Some-get.path.now ≡ path_at t.paths p = grind (arith, common_steps) in
    record {
      in_row = subst (λ (x : ExitPath). x.exit_point < length row) (sym at) (exit_in_row t w c.args.router row told p lt);
      near = omega (arith, subst (λ (x : ExitPath). get_or row x.exit_point 0 + x.exit_cost ≤ 32 * 65535) (sym at) (row_near t w c.args.router row told p lt));
    }

pub loop-p-preserved-then-rank-lowest : goal.loop-p-preserved-then-rank-lowest
loop-p-preserved-then-rank-lowest c =
    let t = declared_by c.args.distances.now in
    let w = known_well_formed t c.args.distances.now.table.sound in
    let p = c.in-Some-p.p in
    let step = c.in-Some-p.ensures.steps in
    let lt : p < length t.paths = grind (arith, common_steps) in
    let at : c.in-Some-get.path.now ≡ path_at t.paths p = grind (arith, common_steps) in
    found_lower t c.args.router c.args.set c.loop-p.p-iterator c.loop-p.first c.loop-p.lowest c.loop-p.invariant p c.next.new.self step.0 step.2 lt c.rank-rank.result
    (ranked t c.args.router w c.in_ok-row.row.now c.in_ok-row.ensures.value p c.in-Some-get.path.now c.rank-rank.result lt at c.rank-rank.ensures.value c.rank-rank.ensures.narrow)
    c.if-rank-lowest.true

pub loop-p-preserved-else-rank-lowest : goal.loop-p-preserved-else-rank-lowest
loop-p-preserved-else-rank-lowest c =
    let t = declared_by c.args.distances.now in
    let w = known_well_formed t c.args.distances.now.table.sound in
    let p = c.in-Some-p.p in
    let step = c.in-Some-p.ensures.steps in
    let lt : p < length t.paths = grind (arith, common_steps) in
    let at : c.in-Some-get.path.now ≡ path_at t.paths p = grind (arith, common_steps) in
    found_higher t c.args.router c.args.set c.loop-p.p-iterator c.loop-p.first c.loop-p.lowest c.loop-p.invariant p c.next.new.self step.0 step.2 lt c.rank-rank.result
    (ranked t c.args.router w c.in_ok-row.row.now c.in_ok-row.ensures.value p c.in-Some-get.path.now c.rank-rank.result lt at c.rank-rank.ensures.value c.rank-rank.ensures.narrow)
    c.if-rank-lowest.false

pub loop-p-preserved : goal.loop-p-preserved
loop-p-preserved c =
    let t = declared_by c.args.distances.now in
    let lt : c.in-Some-p.p < length t.paths = found_declared t c.args.router c.args.set c.loop-p.p-iterator c.loop-p.first c.loop-p.lowest c.loop-p.invariant c.requires c.in-Some-p.p c.in-Some-p.ensures.steps.0 in
    let past : length t.paths ≤ c.in-Some-p.p = grind (arith, common_steps) in
    absurd (omega (arith, lt, past))

pub overflow_cast-result : goal.overflow_cast-result
overflow_cast-result c =
    let t = declared_by c.args.distances.now in
    let w = known_well_formed t c.args.distances.now.table.sound in
    let is = found_ends t c.args.router c.args.set c.loop-p.p-iterator c.loop-p.first c.loop-p.lowest c.loop-p.invariant c.in-None.ensures.steps.0 in
    let best = subst (BestIs plain t c.args.set c.args.router) (sym is) (best_is plain plain_laws t c.args.set c.args.router) in
    omega (arith, c.requires c.loop-p.first best.0.0.1, w.sound.few_paths)

pub returns : goal.returns
returns c =
    let t = declared_by c.args.distances.now in
    let v = c.args.router in
    let s = c.args.set in
    let is = found_ends t v s c.loop-p.p-iterator c.loop-p.first c.loop-p.lowest c.loop-p.invariant c.in-None.ensures.steps.0 in
    record {
      value = answers t v _ _ (answered t v _ (distances_from t v) c.in_ok-row.ensures.value).0 is;
      plain = subst (BestIs plain t s v) (sym is) (best_is plain plain_laws t s v);
      only = λ p h. is ∙ best_from plain plain_laws t s v p h;
    }
