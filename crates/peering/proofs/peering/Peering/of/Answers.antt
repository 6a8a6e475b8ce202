use Rattle.std.proofs.Common.{◌≡◌, ℕ, ◌<◌, List, length, refl, ap, ◌∙◌, subst, arith}
use Rattle.std.proofs.lemmas.List.{length-set}
use Rattle.layout.specs.declared.router.Router.{Router}
use Rattle.distances.specs.Answered.{declared_by}
use Rattle.sets.specs.Members.{member}
use Rattle.tables.specs.Accepted.{declared}
use Rattle.tables.specs.Exits.{leaves_at}
use Rattle.tables.specs.declared.table.Table.{Table}
use Rattle.peering.specs.Peered.{exits_by, client_exits_by, peer_by}
use Rattle.peering.proofs.Answered.{declared_holds}
use Rattle.peering.proofs.Gathering.{set_grows, empty_sets, set_past, leaves_tells}
use Rattle.peering.proofs.peering.Peering.of.Goals as goal

-- one router further on
pub loop-v-preserved : goal.loop-v-preserved
loop-v-preserved c =
    let t = declared_by c.args.distances in
    let v = c.loop-v.v in
    let low : v < 32 = omega (arith, c.loop-v-test.true, c.routers-v-end.ensures.few) in
    let same = c.table-table.ensures in
    let below : v < length (declared c.table-table.result.now).routers = subst (λ (rs : List Router). v < length rs) c.routers-v-end.ensures.value c.loop-v-test.true in
    let exits : (p : ℕ) → member c.unwrap_or_default.result p ≡ leaves_at v (declared c.table-table.result.now).paths p =
    declared_holds (declared c.table-table.result.now) v _ c.exits_at.result _ _ c.unwrap_or_default.result below c.exits_at.ensures.value c.unwrap_or_default.ensures c.exits_at.ensures.members in
    let h = c.loop-v.invariant in (
      length-set c.loop-v.exits v c.unwrap_or_default.result ∙ h.0,
      length-set c.loop-v.client_exits v c.client_exits_of.result ∙ h.1,
      length-set c.loop-v.peers v c.peers_of.result ∙ h.2,
      set_grows (exits_by t) c.loop-v.exits v c.unwrap_or_default.result low h.0 h.3 (λ p. exits p ∙ ap (λ (x : Table). leaves_at v (declared x).paths p) same ∙ leaves_tells v t.paths p),
      set_grows (client_exits_by t) c.loop-v.client_exits v c.client_exits_of.result low h.1 h.4 (λ p. c.client_exits_of.ensures p ∙ ap (λ (x : Table). client_exits_by (declared x) v p) same),
      set_grows (peer_by t) c.loop-v.peers v c.peers_of.result low h.2 h.5 (λ w. c.peers_of.ensures w ∙ ap (λ (x : Table). peer_by (declared x) v w) same),
      set_past c.loop-v.exits v c.unwrap_or_default.result h.6,
      set_past c.loop-v.client_exits v c.client_exits_of.result h.7,
      set_past c.loop-v.peers v c.peers_of.result h.8,
    )

pub loop-v-init : goal.loop-v-init
loop-v-init c = (
  refl,
  refl,
  refl,
  λ u p lt. absurd (omega (arith, lt)),
  λ u p lt. absurd (omega (arith, lt)),
  λ u p lt. absurd (omega (arith, lt)),
  λ u _. empty_sets 32 c.empty-exits.result u c.empty-exits.ensures.word,
  λ u _. empty_sets 32 c.empty-client_exits.result u c.empty-client_exits.ensures.word,
  λ u _. empty_sets 32 c.empty-peers.result u c.empty-peers.ensures.word,
)
