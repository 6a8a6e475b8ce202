use Rattle.std.proofs.Common.{◌<◌, ap, ◌∙◌, arith}
use Rattle.std.proofs.lemmas.Bool.{eq-eqb, ne_eqb}
use Rattle.std.proofs.lemmas.Bool.Decides.{nat_tests}
use Rattle.tables.specs.Accepted.{declared}
use Rattle.tables.specs.Exits.{leaves_at}
use Rattle.tables.proofs.Exits.{leaves_here, exits_with, exits_without, exits_all, exits_are}
use Rattle.tables.proofs.table.Table.exits_at.Goals as goal
use Rattle.tables.proofs.table.Table.exits_at.Goals.{then-path-router, else-path-router}

pub loop-p-preserved : goal.loop-p-preserved
loop-p-preserved c =
    let v = c.args.router in
    let xs = c.paths-paths.result.now in
    let i = c.loop-p.p in
    let within : i < 64 = omega (arith, c.loop-p-test.true, c.paths-paths.ensures.few) in
    let here = leaves_here v xs i c.loop-p-test.true in
    elim c.if-path-router.branch [
      | then-path-router w ↦ λ k.
          rw (w.exits-is, w.with-exits.ensures.members k)
          (exits_with (leaves_at v xs) i within (here ∙ eq-eqb _ _ w.if-path-router.true) k _ (c.loop-p.invariant k))
      | else-path-router w ↦ λ k.
          rw w.exits-is (exits_without (leaves_at v xs) i (here ∙ ne_eqb _ _ w.if-path-router.false) k _ (c.loop-p.invariant k))
    ]

pub returns-clause-members : goal.returns-clause-members
returns-clause-members c = λ k.
    c.loop-p.invariant k ∙ exits_all c.args.router c.paths-paths.result.now c.loop-p.p c.loop-p-test.false k
    ∙ ap (λ xs. leaves_at c.args.router xs k) c.paths-paths.ensures.value

pub returns-clause-value : goal.returns-clause-value
returns-clause-value c =
    let same = exits_are c.args.router (declared c.args.self.now).paths c.loop-p.exits (returns-clause-members c) in
    grind (arith, nat_tests, same, c.in_ok-index_of.ensures)
