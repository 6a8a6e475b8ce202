use Rattle.std.proofs.Common.{◌≡◌, ℕ, ◌^◌, length, bit_or, refl, ap, ◌∙◌, arith}
use Rattle.std.proofs.lemmas.Bool.Decides.{nat_tests}
use Rattle.std.specs.Int.Bits.{or_zero_l}
use Rattle.protocol.specs.Moves.{activated, one_by_one}
use Rattle.protocol.specs.Network.{State}
use Rattle.protocol.proofs.Rising.{after}
use Rattle.network.specs.Running.{state_of}
use Rattle.network.proofs.Rounds.{no_step, step_more}
use Rattle.network.proofs.running.Running.round.Goals as goal

pub loop-v-init : goal.loop-v-init
loop-v-init g c = (refl, refl, no_step (g.R.Rule.kept c.args.self.now.rule) (state_of c.args.self.now))

pub activate-requires : goal.activate-requires
activate-requires g c v m =
    let same = ap (λ t. length t.routers) c.loop-v.invariant.0 in
    grind (arith, nat_tests, m, c.with.ensures.members v, c.empty.ensures.members v, c.loop-v-test.true, same, c.count-v-end.ensures.value)

pub loop-v-preserved : goal.loop-v-preserved
loop-v-preserved g c =
    let h = c.loop-v.invariant in
    let v = c.loop-v.v in
    let x = state_of c.loop-v.self in
    let one : c.with.result ≡ 2 ^ v =
    c.with.ensures.word (omega (arith, c.loop-v-test.true, c.count-v-end.ensures.few)) ∙ ap (λ (e : ℕ). bit_or e (2 ^ v)) c.empty.ensures.word ∙ or_zero_l (2 ^ v) in
    let next = c.activate.ensures.state ∙ ap (λ (r : g.row.R.Denot). activated (g.R.Rule.kept r) x c.with.result) h.1 ∙ ap (activated (g.R.Rule.kept c.args.self.now.rule) x) one in (
      ap (λ (s : State). s.table) c.activate.ensures.state ∙ h.0,
      c.activate.ensures.rule ∙ h.1,
      step_more (g.R.Rule.kept c.args.self.now.rule) (state_of c.args.self.now) v x (state_of c.activate.new.self) h.2 next,
    )

pub returns-clause-state : goal.returns-clause-state
returns-clause-state g c =
    let all : c.loop-v.v ≡ length (state_of c.args.self.now).table.routers = omega (arith, c.loop-v-test.false, c.loop-v.auto.v-end, c.count-v-end.ensures.value) in
    c.loop-v.invariant.2 ∙ ap (λ (n : ℕ). after (g.R.Rule.kept c.args.self.now.rule) (state_of c.args.self.now) (one_by_one n)) all
