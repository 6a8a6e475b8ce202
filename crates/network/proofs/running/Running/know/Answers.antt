use Rattle.std.proofs.Common.{sym, subst}
use Rattle.protocol.specs.Consistent.{Consistent}
use Rattle.network.specs.Running.{state_of}
use Rattle.network.proofs.Whole.{keeps_known, knows}
use Rattle.network.proofs.running.Running.know.Goals as goal

pub invariant_of-self : goal.invariant_of-self
invariant_of-self g c =
    let kept = g.R.Rule.kept c.args.self.now.rule in
    let s = state_of c.args.self.now in
    let is = keeps_known kept s c.args.known c.paths.result.now c.paths.ensures.value c.requires.declared c.advertised.ensures.value in
    record { consistent = subst (Consistent kept) (sym (knows kept s c.args.injected c.args.router c.args.known is)) c.requires.consistent }

pub returns-clause-state : goal.returns-clause-state
returns-clause-state g c =
    let kept = g.R.Rule.kept c.args.self.now.rule in
    let s = state_of c.args.self.now in
    knows kept s c.args.injected c.args.router c.args.known (keeps_known kept s c.args.known c.paths.result.now c.paths.ensures.value c.requires.declared c.advertised.ensures.value)
