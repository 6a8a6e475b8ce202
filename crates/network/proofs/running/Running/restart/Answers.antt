use Rattle.std.proofs.Common.{[], sym, ap, ◌∙◌, subst}
use Rattle.protocol.specs.Consistent.{Consistent}
use Rattle.protocol.specs.Moves.{knowing}
use Rattle.protocol.proofs.Learning.{own_from}
use Rattle.protocol.proofs.Moving.{restarted_consistent}
use Rattle.selection.specs.Laws.{AllDeclared}
use Rattle.network.specs.Running.{state_of}
use Rattle.network.proofs.Changes.{given, ends, may_restart}
use Rattle.network.proofs.Whole.{fits_of}
use Rattle.protocol.specs.Moves.Move.{Restarted}
use Rattle.calls.specs.Calls.{restarting}
use Rattle.calls.specs.declared.action.Action.TheVariants.{Restart}
use Rattle.calls.proofs.Acting.{acted_as}
use Rattle.network.proofs.running.Running.restart.Goals as goal

pub know-requires-clause-declared : goal.know-requires-clause-declared
know-requires-clause-declared g c =
    let s = state_of c.args.self.now in
    subst (AllDeclared s.table.paths) (sym (given _ c.in_ok-own.ensures).1) (λ p m. (own_from s.table s.injected [] c.args.router p m).0)

pub know-requires-clause-consistent : goal.know-requires-clause-consistent
know-requires-clause-consistent g c =
    let rule = c.args.self.now.rule in
    let s = state_of c.args.self.now in
    let out = given _ c.in_ok-own.ensures in
    subst (Consistent (g.R.Rule.kept rule)) (sym (ap (knowing (g.R.Rule.kept rule) s s.injected c.args.router) out.1))
    (restarted_consistent (g.R.Rule.laws rule) (fits_of (g.R.Rule.laws rule) c.args.self.now.held.peering) c.args.self.now.consistent c.args.router out.0)

pub returns-clause-becomes : goal.returns-clause-becomes
returns-clause-becomes g c =
    let n = c.args.self.now in
    let kept = g.R.Rule.kept n.rule in
    let laws = g.R.Rule.laws n.rule in
    let s = state_of n in
    let out = given _ c.in_ok-own.ensures in
    let after = c.know.ensures.state ∙ ap (knowing kept s s.injected c.args.router) out.1 in
    acted_as laws s (fits_of laws n.held.peering, n.consistent) (Restart c.args.router) tt (Restarted c.args.router) (λ m e. e)
    (ends kept s (restarting s c.args.router) (may_restart s c.args.router out.0) after)
