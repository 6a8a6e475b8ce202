use Rattle.std.proofs.Common.{◌≡◌, ◌<◌, ◌≤◌, length, ℕ, take, sym, ap, ◌∙◌, arith}
use Rattle.std.proofs.lemmas.Bool.Decides.{nat_tests}
use Rattle.std.proofs.lemmas.List.{get_or_default}
use Rattle.std.specs.List.{list_all}
use Rattle.protocol.specs.Network.{set_of}
use Rattle.calls.proofs.AtRest.{tells}
use Rattle.network.specs.Running.{state_of}
use Rattle.network.proofs.AtRest.{rests, more_rest, one_does_not}
use Rattle.network.proofs.Whole.{keeps_known}
use Rattle.network.proofs.running.Running.is_settled.Goals as goal

-- one router more rests
pub loop-v-preserved : goal.loop-v-preserved
loop-v-preserved g c =
    let kept = g.R.Rule.kept c.args.self.now.rule in
    let s = state_of c.args.self.now in
    let all = c.args.self.now.consistent in
    let is = keeps_known kept s s.injected c.paths.result.now c.paths.ensures.value all.injected_declared c.advertised-kept.ensures.value in
    let below : c.loop-v.v < length s.advertised = omega (arith, c.loop-v-test.true, c.count-v-end.ensures.few, all.all_advertised) in
    let here = get_or_default s.advertised c.loop-v.v c.index-self-v.result 0 below in
    let rests_here : set_of s.advertised c.loop-v.v ≡ kept s.table.paths s.injected = sym here ∙ grind (arith, nat_tests, c.if-ne.ensures) ∙ is in
    more_rest kept s c.loop-v.v below rests_here c.loop-v.invariant

pub returns-then-ne-clause-value : goal.returns-then-ne-clause-value
returns-then-ne-clause-value g c =
    let kept = g.R.Rule.kept c.args.self.now.rule in
    let s = state_of c.args.self.now in
    let all = c.args.self.now.consistent in
    let is = keeps_known kept s s.injected c.paths.result.now c.paths.ensures.value all.injected_declared c.advertised-kept.ensures.value in
    let low : c.loop-v.v < length s.table.routers = omega (arith, c.loop-v-test.true, c.count-v-end.ensures.value) in
    let few : length s.table.routers ≤ length s.advertised = omega (arith, all.few_routers, all.all_advertised) in
    let here = get_or_default s.advertised c.loop-v.v c.index-self-v.result 0 (omega (arith, low, few)) in
    sym (one_does_not kept s c.loop-v.v (length s.table.routers) low few (λ e. grind (arith, nat_tests, c.if-ne.ensures, here, e, is)))

-- all rest
pub returns-clause-value : goal.returns-clause-value
returns-clause-value g c =
    let s = state_of c.args.self.now in
    let all : c.loop-v.v ≡ length s.table.routers = omega (arith, c.loop-v-test.false, c.loop-v.auto.v-end, c.count-v-end.ensures.value) in
    sym c.loop-v.invariant ∙ ap (λ (n : ℕ). list_all (rests (g.R.Rule.kept c.args.self.now.rule) s) (take n s.advertised)) all

-- and that is what it is to be settled
pub returns-then-ne-clause-settled : goal.returns-then-ne-clause-settled
returns-then-ne-clause-settled g c =
    let n = c.args.self.now in
    let tests = tells (g.R.Rule.kept n.rule) n.consistent in
    (λ is. tests.0 (sym (returns-then-ne-clause-value g c) ∙ is), λ settled. returns-then-ne-clause-value g c ∙ tests.1 settled)

pub returns-clause-settled : goal.returns-clause-settled
returns-clause-settled g c =
    let n = c.args.self.now in
    let tests = tells (g.R.Rule.kept n.rule) n.consistent in
    (λ is. tests.0 (sym (returns-clause-value g c) ∙ is), λ settled. returns-clause-value g c ∙ tests.1 settled)
