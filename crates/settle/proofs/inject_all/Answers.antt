use Rattle.std.proofs.Common.{◌≡◌, ℕ, ◌-◌, ◌^◌, length, sym, ap, ◌∙◌, arith}
use Rattle.network.specs.Running.{rule_of, state_of}
use Rattle.network.proofs.Whole.{fits_of}
use Rattle.settle.proofs.Injecting.{next}
use Rattle.settle.proofs.inject_all.Goals as goal

pub returns-then-is_err-clause-all : goal.returns-then-is_err-clause-all
returns-then-is_err-clause-all g c =
    let n = c.loop-path.network in
    let t = (state_of c.args.network.now).table in
    let all = (next (g.R.Rule.kept (rule_of n)) t c.loop-path.path (state_of n) c.loop-path.invariant.0 (c.inject.result, state_of c.inject.new.self) c.inject.ensures.value).1 (sym c.is_err.ensures.value ∙ c.if-is_err.true) in
    record { table = all.table; injected = all.injected }

pub loop-path-preserved : goal.loop-path-preserved
loop-path-preserved g c =
    let n = c.loop-path.network in
    let t = (state_of c.args.network.now).table in
    let one = (next (g.R.Rule.kept (rule_of n)) t c.loop-path.path (state_of n) c.loop-path.invariant.0 (c.inject.result, state_of c.inject.new.self) c.inject.ensures.value).0 (sym c.is_err.ensures.value ∙ c.if-is_err.false) in
    (one, c.inject.ensures.rule ∙ c.loop-path.invariant.1)

-- no table has more than 64 paths
pub returns-clause-all : goal.returns-clause-all
returns-clause-all g c =
    let n = c.args.network.now in
    let below = c.loop-path.invariant.0 in
    let few = (fits_of (g.R.Rule.laws (rule_of n)) n.held.peering).sound.few_paths in
    let all : c.loop-path.path ≡ length (state_of n).table.paths = omega (arith, few, below.declared, c.loop-path-test.false) in
    record { table = below.table; injected = below.injected ∙ ap (λ (k : ℕ). 2 ^ k - 1) all }
