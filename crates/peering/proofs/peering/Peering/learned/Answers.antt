use Rattle.std.proofs.Common.{◌≡◌, ℕ, ◌&&◌, sym, ap, ◌∙◌, arith}
use Rattle.std.proofs.lemmas.Bool.{and_parts}
use Rattle.std.proofs.lemmas.List.{get_or_default}
use Rattle.distances.specs.Answered.{declared_by}
use Rattle.sets.specs.Members.{member}
use Rattle.protocol.specs.Network.{learned}
use Rattle.peering.specs.Peered.{peer_by, passed_by}
use Rattle.peering.proofs.Answered.{of_declared}
use Rattle.peering.proofs.Learned.{gathered_begins, gathered_grows, gathered_all}
use Rattle.peering.proofs.peering.Peering.learned.Goals as goal

-- one peer more is asked
pub loop-w-preserved : goal.loop-w-preserved
loop-w-preserved c =
    let t = declared_by c.args.self.now.distances in
    let h = c.loop-w.invariant in
    let steps = c.in-Some.ensures.steps in
    let w = c.in-Some.w in (
      tt,
      tt,
      λ u m. h.2 u (and_parts (member c.loop-w.w-iterator u) _ (sym (steps.2 u) ∙ m)).0,
      gathered_grows t c.args.injected c.args.advertised.now c.in_ok-v.v c.loop-w.known c.passed.result c.union-known.result c.loop-w.w-iterator c.next.new.self w
          h.3 steps.0.0 (h.2 w steps.0.0) steps.2
          (λ p.
          c.passed.ensures p
          ∙ ap (λ (s : ℕ). member s p && passed_by t w c.in_ok-v.v p) (get_or_default c.args.advertised.now w c.index-advertised-w.result 0 (omega (arith, steps.1, c.type_inv.advertised))))
          c.union-known.ensures.members,
    )

-- all were asked
pub returns : goal.returns
returns c =
    let t = declared_by c.args.self.now.distances in
    let v = c.in_ok-v.v in
    of_declared t v c.args.router c.loop-w.known (learned t c.args.injected c.args.advertised.now) c.in_ok-v.ensures.below
    (gathered_all t c.args.injected c.args.advertised.now v c.loop-w.known c.loop-w.w-iterator c.loop-w.invariant.3 c.in-None.ensures.steps.0)

-- nobody was asked yet
pub loop-w-init : goal.loop-w-init
loop-w-init c =
    let t = declared_by c.args.self.now.distances in
    let v = c.in_ok-v.v in
    let rest = c.into_iter-w-iterator.result in
    let all_peers : (w : ℕ) → member rest w ≡ peer_by t v w = λ w.
    ap (λ (s : ℕ). member s w) c.into_iter-w-iterator.ensures.into_iter_gives ∙ c.peers_of-w-items.ensures w in (
      tt,
      tt,
      λ w m. sym (all_peers w) ∙ m,
      gathered_begins t c.args.injected c.args.advertised.now v c.intersection-known.result c.exits_of.result rest
          c.intersection-known.ensures.members c.exits_of.ensures all_peers,
    )
