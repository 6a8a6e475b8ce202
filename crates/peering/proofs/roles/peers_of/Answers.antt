use Rattle.std.proofs.Common.{ℕ, ◌<◌, Bool, sym, ap, ◌∙◌, arith}
use Rattle.protocol.specs.Network.{peers}
use Rattle.sets.specs.Members.{member}
use Rattle.tables.specs.Accepted.{declared}
use Rattle.peering.proofs.Gathering.{gather_more, gather_same}
use Rattle.peering.proofs.roles.peers_of.Goals as goal
use Rattle.peering.proofs.roles.peers_of.Goals.{then-are_peers, else-are_peers}

-- one router further on
pub loop-w-preserved : goal.loop-w-preserved
loop-w-preserved c k =
    let test : ℕ → Bool = λ w. peers (declared c.args.table.now) w c.args.v in
    let low : c.loop-w.w < 32 = omega (arith, c.loop-w-test.true, c.routers-w-end.ensures.few) in
    elim c.if-are_peers.branch [
      | then-are_peers w ↦
          ap (λ (s : ℕ). member s k) w.peers-is
          ∙ gather_more test c.loop-w.peers c.loop-w.w c.loop-w.invariant w.with-peers.result 32 low (sym c.are_peers.ensures ∙ w.if-are_peers.true) w.with-peers.ensures.members k
      | else-are_peers w ↦
          ap (λ (s : ℕ). member s k) w.peers-is ∙ gather_same test c.loop-w.peers c.loop-w.w c.loop-w.invariant (sym c.are_peers.ensures ∙ w.if-are_peers.false) k
    ]
