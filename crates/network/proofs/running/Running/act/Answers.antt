use Rattle.std.proofs.Common.{rules, ◌≡◌, Err, OnOk, sym, subst}
use Rattle.std.specs.Prelude.{◌↔◌}
use Rattle.faults.specs.declared.call.CallFault.{CallFault}
use Rattle.protocol.specs.Alters.{Becomes}
use Rattle.protocol.specs.Moves.{Move}
use Rattle.calls.specs.History.{IsMove}
use Rattle.calls.specs.Refusals.{RefusesAction}
use Rattle.calls.specs.Typed.{TypedAction}
use Rattle.calls.specs.declared.action.Action.TheVariants.{Load, Inject, Withdraw, Restart, Step}
use Rattle.calls.proofs.Acting.{acted}
use Rattle.network.specs.Running.{state_of}
use Rattle.network.proofs.Whole.{fits_of}
use Rattle.network.proofs.running.Running.act.Goals as goal

pub returns-in-Load-clause-becomes : goal.returns-in-Load-clause-becomes
returns-in-Load-clause-becomes g c =
    let n = c.args.self.now in
    let laws = g.R.Rule.laws n.rule in
    subst (λ a. OnOk c.load.result ((m : Move) × IsMove a m × Becomes (g.R.Rule.kept n.rule) (state_of n) (state_of c.load.new.self) m)) (sym c.in-Load.is)
    (acted laws (state_of n) (fits_of laws n.held.peering, n.consistent) (Load c.in-Load.bytes) c.load.ensures.reads c.load.ensures.value)

pub returns-in-Inject-clause-becomes : goal.returns-in-Inject-clause-becomes
returns-in-Inject-clause-becomes g c =
    let n = c.args.self.now in
    let laws = g.R.Rule.laws n.rule in
    subst (λ a. OnOk c.inject.result ((m : Move) × IsMove a m × Becomes (g.R.Rule.kept n.rule) (state_of n) (state_of c.inject.new.self) m)) (sym c.in-Inject.is)
    (acted laws (state_of n) (fits_of laws n.held.peering, n.consistent) (Inject c.in-Inject.path) tt c.inject.ensures.value)

pub returns-in-Withdraw-clause-becomes : goal.returns-in-Withdraw-clause-becomes
returns-in-Withdraw-clause-becomes g c =
    let n = c.args.self.now in
    let laws = g.R.Rule.laws n.rule in
    subst (λ a. OnOk c.withdraw.result ((m : Move) × IsMove a m × Becomes (g.R.Rule.kept n.rule) (state_of n) (state_of c.withdraw.new.self) m)) (sym c.in-Withdraw.is)
    (acted laws (state_of n) (fits_of laws n.held.peering, n.consistent) (Withdraw c.in-Withdraw.path) tt c.withdraw.ensures.value)

pub returns-in-Restart-clause-becomes : goal.returns-in-Restart-clause-becomes
returns-in-Restart-clause-becomes g c =
    let n = c.args.self.now in
    let laws = g.R.Rule.laws n.rule in
    subst (λ a. OnOk c.restart.result ((m : Move) × IsMove a m × Becomes (g.R.Rule.kept n.rule) (state_of n) (state_of c.restart.new.self) m)) (sym c.in-Restart.is)
    (acted laws (state_of n) (fits_of laws n.held.peering, n.consistent) (Restart c.in-Restart.router) tt c.restart.ensures.value)

pub returns-in-Step-clause-becomes : goal.returns-in-Step-clause-becomes
returns-in-Step-clause-becomes g c =
    let n = c.args.self.now in
    let laws = g.R.Rule.laws n.rule in
    subst (λ a. OnOk c.step.result ((m : Move) × IsMove a m × Becomes (g.R.Rule.kept n.rule) (state_of n) (state_of c.step.new.self) m)) (sym c.in-Step.is)
    (acted laws (state_of n) (fits_of laws n.held.peering, n.consistent) (Step c.in-Step.named) (search rules) c.step.ensures.value)

pub returns-in-Step-clause-refuses : goal.returns-in-Step-clause-refuses
returns-in-Step-clause-refuses g c =
    subst (λ a. (fault : CallFault) → (c.step.result ≡ Err fault) ↔ RefusesAction (state_of c.args.self.now) a fault) (sym c.in-Step.is) c.step.ensures.refuses

pub returns-in-Load-clause-typed : goal.returns-in-Load-clause-typed
returns-in-Load-clause-typed g c = subst TypedAction (sym c.in-Load.is) c.load.ensures.reads

pub returns-in-Inject-clause-typed : goal.returns-in-Inject-clause-typed
returns-in-Inject-clause-typed g c = subst TypedAction (sym c.in-Inject.is) tt

pub returns-in-Withdraw-clause-typed : goal.returns-in-Withdraw-clause-typed
returns-in-Withdraw-clause-typed g c = subst TypedAction (sym c.in-Withdraw.is) tt

pub returns-in-Restart-clause-typed : goal.returns-in-Restart-clause-typed
returns-in-Restart-clause-typed g c = subst TypedAction (sym c.in-Restart.is) tt

pub returns-in-Step-clause-typed : goal.returns-in-Step-clause-typed
returns-in-Step-clause-typed g c = subst TypedAction (sym c.in-Step.is) (search rules)
