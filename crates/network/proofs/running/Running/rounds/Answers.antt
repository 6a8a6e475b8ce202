use Rattle.std.proofs.Common.{length, refl, ap, ◌∙◌}
use Rattle.protocol.specs.Moves.{one_by_one}
use Rattle.protocol.specs.Network.{State}
use Rattle.protocol.proofs.Rising.{after}
use Rattle.protocol.proofs.Running.{same_table}
use Rattle.network.specs.Running.{state_of}
use Rattle.network.proofs.Rounds.{no_round, rounds_more}
use Rattle.network.proofs.running.Running.rounds.Goals as goal

pub loop-init : goal.loop-init
loop-init g c =
    let s = state_of c.args.self.now in
    (refl, refl, no_round (g.R.Rule.kept c.args.self.now.rule) s (length s.table.routers))

pub loop-preserved : goal.loop-preserved
loop-preserved g c =
    let kept = g.R.Rule.kept c.args.self.now.rule in
    let h = c.loop.invariant in
    let s = state_of c.args.self.now in
    let x = state_of c.loop.self in
    let next =
    c.round.ensures.state ∙ ap (λ (r : g.row.R.Denot). after (g.R.Rule.kept r) x (one_by_one (length x.table.routers))) h.1
    ∙ ap (λ t. after kept x (one_by_one (length t.routers))) h.0 in (
      ap (λ (y : State). y.table) (c.round.ensures.state) ∙ same_table (g.R.Rule.kept c.loop.self.rule) (one_by_one (length x.table.routers)) x ∙ h.0,
      c.round.ensures.rule ∙ h.1,
      rounds_more kept s (length s.table.routers) c.loop.counter x (state_of c.round.new.self) h.2 next,
    )
