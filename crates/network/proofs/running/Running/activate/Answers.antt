use Rattle.std.proofs.Common.{◌≡◌, length, sym, ap, ◌∙◌, subst, arith}
use Rattle.std.proofs.lemmas.Bool.{false_from_ne_true}
use Rattle.distances.specs.Answered.{declared_by}
use Rattle.layout.specs.Table.{Declared}
use Rattle.protocol.specs.Consistent.{Consistent}
use Rattle.protocol.specs.Moves.{activated}
use Rattle.protocol.proofs.Activation.{stays_consistent}
use Rattle.network.specs.Held.{table_of, state_with}
use Rattle.network.specs.Running.{state_of}
use Rattle.network.proofs.Activating.{idle}
use Rattle.network.proofs.running.Running.activate.Goals as goal

-- where there is no table, no router is named
pub returns-in_default-clause-state : goal.returns-in_default-clause-state
returns-in_default-clause-state g c =
    let all = c.args.self.now.consistent in
    let none : length (table_of c.args.self.now.held.peering).routers ≡ 0 = ap (λ o. length (table_of o).routers) c.in_default.is in
    idle (g.R.Rule.kept c.args.self.now.rule) (state_of c.args.self.now) c.args.named all.all_known all.all_advertised
    (λ v. false_from_ne_true _ (λ m. omega (arith, c.requires v m, none)))

pub invariant_of-self-2 : goal.invariant_of-self-2
invariant_of-self-2 g c =
    let kept = g.R.Rule.kept c.args.self.now.rule in
    let held = c.args.self.now.held in
    let same : table_of held.peering ≡ declared_by c.in-Some.peering.distances = ap table_of c.in-Some.is in
    let is : state_with (table_of held.peering) c.activate.new.self ≡ activated kept (state_of c.args.self.now) c.args.named =
    ap (λ (t : Declared). state_with t c.activate.new.self) same ∙ c.activate.ensures
    ∙ ap (λ (t : Declared). activated kept (state_with t held.sets) c.args.named) (sym same) in
    record { consistent = subst (Consistent kept) (sym is) (stays_consistent (g.R.Rule.laws c.args.self.now.rule) c.args.self.now.consistent c.args.named c.requires) }
