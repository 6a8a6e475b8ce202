use Rattle.std.proofs.Common.{ℕ, ◌-◌, ◌^◌, ◌<◌, length, bit_and, sym, ap, ◌∙◌, subst, arith}
use Rattle.std.proofs.lemmas.List.{get_or_default}
use Rattle.protocol.specs.Consistent.{Consistent}
use Rattle.protocol.proofs.Moving.{exit_below, withdrawn_consistent}
use Rattle.network.specs.Running.{state_of}
use Rattle.network.proofs.Changes.{given, ends, withdraws, may_withdraw}
use Rattle.network.proofs.Whole.{fits_of}
use Rattle.protocol.specs.Moves.Move.{Withdrawn}
use Rattle.calls.specs.declared.action.Action.TheVariants.{Withdraw}
use Rattle.calls.proofs.Acting.{acted_as}
use Rattle.network.proofs.running.Running.withdraw.Goals as goal

pub know-requires-clause-consistent : goal.know-requires-clause-consistent
know-requires-clause-consistent g c =
    let kept = g.R.Rule.kept c.args.self.now.rule in
    let laws = g.R.Rule.laws c.args.self.now.rule in
    let s = state_of c.args.self.now in
    let fits = fits_of laws c.args.self.now.held.peering in
    let all = c.args.self.now.consistent in
    let out = given _ c.in_ok-router.ensures in
    let low : c.args.path < 64 = omega (arith, out.0, fits.sound.few_paths) in
    let near : c.in_ok-router.router < length s.known = omega (arith, out.1, exit_below laws fits all c.args.path out.0, all.few_routers, all.all_known) in
    let known = c.without-2.ensures.word low ∙ ap (λ (x : ℕ). bit_and x (2 ^ 64 - 1 - 2 ^ c.args.path)) (get_or_default s.known c.in_ok-router.router c.index-self-router.result 0 near) in
    subst (Consistent kept) (sym (withdraws kept s c.args.path out.1 (c.without.ensures.word low) known)) (withdrawn_consistent laws fits all c.args.path out.0)

pub returns-clause-value : goal.returns-clause-value
returns-clause-value g c =
    let kept = g.R.Rule.kept c.args.self.now.rule in
    let laws = g.R.Rule.laws c.args.self.now.rule in
    let s = state_of c.args.self.now in
    let fits = fits_of laws c.args.self.now.held.peering in
    let all = c.args.self.now.consistent in
    let out = given _ c.in_ok-router.ensures in
    let low : c.args.path < 64 = omega (arith, out.0, fits.sound.few_paths) in
    let near : c.in_ok-router.router < length s.known = omega (arith, out.1, exit_below laws fits all c.args.path out.0, all.few_routers, all.all_known) in
    let known = c.without-2.ensures.word low ∙ ap (λ (x : ℕ). bit_and x (2 ^ 64 - 1 - 2 ^ c.args.path)) (get_or_default s.known c.in_ok-router.router c.index-self-router.result 0 near) in
    ends kept s _ (may_withdraw kept s c.args.path out.0 (sym c.if-not-contains.ensures)) (c.know.ensures.state ∙ withdraws kept s c.args.path out.1 (c.without.ensures.word low) known)

pub returns-clause-becomes : goal.returns-clause-becomes
returns-clause-becomes g c =
    let n = c.args.self.now in
    let laws = g.R.Rule.laws n.rule in
    acted_as laws (state_of n) (fits_of laws n.held.peering, n.consistent) (Withdraw c.args.path) tt (Withdrawn c.args.path) (λ m e. e) (returns-clause-value g c)
