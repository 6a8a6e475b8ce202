use Rattle.std.proofs.Common.{rules, ◌≡◌, ℕ, List, length, ap, ◌∙◌}
use Rattle.distances.specs.Answered.{declared_by}
use Rattle.protocol.specs.Network.{set_of}
use Rattle.network.specs.Held.{state_with}
use Rattle.network.proofs.Activating.{activates, tells}
use Rattle.network.proofs.held.Sets.activate.Goals as goal

pub returns : goal.returns
returns g c =
    let kept = g.R.Rule.kept c.args.rule.now in
    let s = state_with (declared_by c.args.peering.now.distances) c.args.self.now in
    let known = c.learn.ensures.known in
    let new = c.advertise.new.self in
    let long : length new.known ≡ 32 = ap (λ (k : List ℕ). length k) c.advertise.ensures.known ∙ c.learn.ensures.all in
    let paths : c.paths.result.now ≡ s.table.paths = search rules in
    activates kept s c.args.named new.injected new.known new.advertised (c.advertise.ensures.injected ∙ c.learn.ensures.injected) long c.advertise.ensures.all
    (λ v. ap (λ (k : List ℕ). set_of k v) c.advertise.ensures.known ∙ known v)
    (λ v. c.advertise.ensures.advertised v
    ∙ tells kept s c.args.named c.paths.result.now v (set_of c.learn.new.self.known v) (set_of c.learn.new.self.advertised v) paths (known v)
    (ap (λ (a : List ℕ). set_of a v) c.learn.ensures.advertised))
