use Rattle.std.proofs.Common.{ℕ, ap, ◌∙◌}
use Rattle.protocol.specs.Moves.Move.{Activated}
use Rattle.calls.specs.Calls.{stepping, done}
use Rattle.calls.specs.declared.action.Action.TheVariants.{Step}
use Rattle.calls.proofs.Acting.{acted_as, acted_refuses}
use Rattle.network.specs.Running.{state_of}
use Rattle.network.proofs.Whole.{fits_of}
use Rattle.network.proofs.running.Running.step.Goals as goal

pub returns-clause-value : goal.returns-clause-value
returns-clause-value g c =
    let s = state_of c.args.self.now in
    c.step_of.ensures.value ∙ ap (λ (w : ℕ). done (g.R.Rule.kept c.args.self.now.rule) s (stepping s w)) c.from.ensures

pub returns-clause-becomes : goal.returns-clause-becomes
returns-clause-becomes g c =
    let n = c.args.self.now in
    let laws = g.R.Rule.laws n.rule in
    acted_as laws (state_of n) (fits_of laws n.held.peering, n.consistent) (Step c.args.named) c.ranges.named.fits (Activated c.args.named) (λ m e. e) (returns-clause-value g c)

pub returns-clause-refuses : goal.returns-clause-refuses
returns-clause-refuses g c =
    let n = c.args.self.now in
    let laws = g.R.Rule.laws n.rule in
    acted_refuses laws (state_of n) (fits_of laws n.held.peering, n.consistent) (Step c.args.named) c.ranges.named.fits (returns-clause-value g c)
