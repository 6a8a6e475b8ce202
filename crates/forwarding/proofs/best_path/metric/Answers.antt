use Rattle.std.proofs.Common.{◌≡◌, ◌+◌, ◌*◌, ◌<◌, ◌≤◌, length, get_or, Ok, sym, ap, ◌∙◌, subst, arith}
use Rattle.std.proofs.lemmas.Bool.{cond-true, lt-ltb}
use Rattle.std.proofs.lemmas.Grind.{common_steps}
use Rattle.distances.specs.Answered.{declared_by}
use Rattle.layout.specs.Table.{path_at}
use Rattle.layout.specs.declared.path.ExitPath.{ExitPath}
use Rattle.layout.proofs.Certain.{known_well_formed}
use Rattle.forwarding.proofs.Rows.{answers, exit_in_row, router_below, row_near, row_sum}
use Rattle.forwarding.proofs.best_path.metric.Goals as goal

pub metric_over-requires : goal.metric_over-requires
metric_over-requires c =
    let t = declared_by c.args.distances.now in
    let w = known_well_formed t c.args.distances.now.table.sound in
    let row = c.in_ok-row.row.now in
    let told = c.in_ok-row.ensures.value in
    let lt : c.args.path < length t.paths = grind (arith, common_steps) in
    let at : c.in_ok-exit.exit.now ≡ path_at t.paths c.args.path = grind (arith, common_steps) in
    record {
      in_row = subst (λ (x : ExitPath). x.exit_point < length row) (sym at) (exit_in_row t w c.args.router row told c.args.path lt);
      near = omega (arith, subst (λ (x : ExitPath). get_or row x.exit_point 0 + x.exit_cost ≤ 32 * 65535) (sym at) (row_near t w c.args.router row told c.args.path lt));
    }

pub returns-clause-value : goal.returns-clause-value
returns-clause-value c =
    let t = declared_by c.args.distances.now in
    let w = known_well_formed t c.args.distances.now.table.sound in
    let told = c.in_ok-row.ensures.value in
    let lt : c.args.path < length t.paths = grind (arith, common_steps) in
    let at : c.in_ok-exit.exit.now ≡ path_at t.paths c.args.path = grind (arith, common_steps) in
    ap Ok c.metric_over.ensures
    ∙ ap (λ (x : ExitPath). Ok (get_or c.in_ok-row.row.now x.exit_point 0 + x.exit_cost)) at
    ∙ answers t c.args.router _ _ (router_below t w c.args.router _ told c.args.path lt) (row_sum t w c.args.router _ told c.args.path lt) ∙ sym (cond-true _ _ _ (lt-ltb _ _ lt))
