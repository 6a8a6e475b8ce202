-- Each check of a record tells whether the record breaks its rule. Assumes nothing.
use Rattle.std.proofs.Common.{◌≡◌, ℕ, ◌<◌, true, false, ltb, List, length, get_or, Decides, sym, refl, ap, ◌∙◌}
use Rattle.std.proofs.lemmas.List.{get_or_default}
use Rattle.std.proofs.lemmas.Bool.{and_parts, and_from, ltb-true, lt-ltb, eqb-true, eq-eqb, false≢true}
use Rattle.std.proofs.lemmas.Bool.Decides.{Decides-eqb, Decides-or, Decides-not}
use Rattle.records.specs.declared.kind.Kind.{Kind}
use Rattle.records.specs.declared.kind.Kind.TheVariants.{Router as router_kind, Link as link_kind, Session as session_kind, Path as path_kind}
use Rattle.layout.specs.Bodies.{pair_in}
use Rattle.layout.specs.Checks.{is_client, clients_of_one, out_of_range, bad_pair, bad_session}
use Rattle.layout.specs.Rules.{OutOfRange, BadPair, BadSession}
use Rattle.layout.specs.Table.{Declared}
use Rattle.layout.specs.WellFormed.{Is, client, ClientsOfOne}
use Rattle.layout.specs.declared.link.Pair.{Pair}
use Rattle.layout.specs.declared.router.Role.{Role}
use Rattle.layout.specs.declared.router.Role.TheVariants.{Client, Reflector}
use Rattle.layout.specs.declared.router.Router.{Router}
use Rattle.layout.proofs.Pairs.{decides_leb, decides_wrong}

never : Decides false ⊥
never = (λ e. absurd (false≢true e), λ h. absurd h)

pub decides_range : (t : Declared) (k : Kind) (body : List ℕ) → Decides (out_of_range t k body) (OutOfRange t k body)
decides_range t router_kind body = Decides-or _ _ (decides_leb _ _) (decides_leb _ _)
decides_range t link_kind body = Decides-or _ _ (decides_leb _ _) (Decides-or _ _ (decides_leb _ _) (Decides-eqb _ _))
decides_range t session_kind body = Decides-or _ _ (decides_leb _ _) (decides_leb _ _)
decides_range t path_kind body = Decides-or _ _ (decides_leb _ _) (Decides-eqb _ _)

pub decides_pair : (t : Declared) (k : Kind) (body : List ℕ) → Decides (bad_pair t k body) (BadPair t k body)
decides_pair t router_kind body = never
decides_pair t link_kind body = decides_wrong _ _
decides_pair t session_kind body = decides_wrong _ _
decides_pair t path_kind body = never

pub a_client : (c : ℕ) (role : Role) → is_client role ≡ true → ◌≡◌ {A = Router} (record { cluster = c; role = role }) (client c)
a_client c Client e = refl
a_client c Reflector e = absurd (false≢true e)

-- a declared router, read at any default
pub is_from : (routers : List Router) (v : ℕ) (d r : Router) → v < length routers → get_or routers v d ≡ r → Is routers v r
is_from routers v d r lt e = (lt, get_or_default routers v r d lt ∙ e)

pub decides_clients : (routers : List Router) (p : Pair) → Decides (clients_of_one routers p) (ClientsOfOne routers p)
decides_clients routers p = (
  λ e.
      let x = get_or routers p.a (client 0) in
      let y = get_or routers p.b (client 0) in
      let s = and_parts (ltb p.a (length routers)) _ e in
      let u = and_parts (ltb p.b (length routers)) _ s.1 in
      let v = and_parts (is_client x.role) _ u.1 in
      let w = and_parts (is_client y.role) _ v.1 in
      let same : y.cluster ≡ x.cluster = sym (eqb-true _ _ w.1) in (
        x.cluster,
        is_from routers p.a (client 0) _ (ltb-true _ _ s.0) (a_client _ _ v.0),
        is_from routers p.b (client 0) _ (ltb-true _ _ u.0) (a_client _ _ w.0 ∙ ap client same),
      ),
  λ h.
      let x : get_or routers p.a (client 0) ≡ client h.0 = get_or_default routers p.a (client 0) (client h.0) h.1.0 ∙ h.1.1 in
      let y : get_or routers p.b (client 0) ≡ client h.0 = get_or_default routers p.b (client 0) (client h.0) h.2.0 ∙ h.2.1 in
      and_from _ _ (lt-ltb _ _ h.1.0) (and_from _ _ (lt-ltb _ _ h.2.0) (rw (x, y) (eq-eqb h.0 h.0 refl))),
)

pub decides_session : (t : Declared) (k : Kind) (body : List ℕ) → Decides (bad_session t k body) (BadSession t k body)
decides_session t router_kind body = never
decides_session t link_kind body = never
decides_session t session_kind body = Decides-not _ (decides_clients t.routers (pair_in body))
decides_session t path_kind body = never
