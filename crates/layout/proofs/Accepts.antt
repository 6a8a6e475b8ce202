-- The bytes of a well-formed table are read as that table. Assumes nothing.
use Rattle.std.proofs.Common.{◌≡◌, ℕ, zero, ◌+◌, ◌<◌, ◌≤◌, Bool, false, List, [], ◌∷◌, ◌++◌, map, length, Ok, Decides, All, sym, refl, ap, ◌∙◌, subst, ⊎_elim, append_assoc, append-nil, arith}
use mathlib.Core.List.{map-append}
use Rattle.std.specs.List.{flat_map}
use Rattle.std.proofs.lemmas.List.Elements.{All-contains, Contains-get_or, Contains-append_right}
use Rattle.std.proofs.lemmas.List.{length-append, drop_at}
use Rattle.std.proofs.lemmas.Bool.{cases_Bool, cond-false, lt-leb}
use Rattle.records.specs.Kinds.{kind_byte, body_length}
use Rattle.records.specs.declared.kind.Kind.{Kind}
use Rattle.records.specs.declared.kind.Kind.TheVariants.{Router as router_kind, Link as link_kind, Session as session_kind, Path as path_kind}
use Rattle.layout.specs.Bodies.{role_in, router_in, link_in, path_in, adding}
use Rattle.layout.specs.Checks.{declaring}
use Rattle.layout.specs.Encoding.{two_bytes, role_byte, router_bytes, link_bytes, session_bytes, path_body, path_bytes, encoded}
use Rattle.layout.specs.Reading.{of_graph, read_from, table_in}
use Rattle.layout.specs.Rules.{most, count, OutOfRange, BadPair, BadSession}
use Rattle.layout.specs.Table.{Declared}
use Rattle.layout.specs.WellFormed.{RouterFits, LinkFits, SessionFits, PathFits, link_ends, session_ends, Apart, WellFormed}
use Rattle.layout.specs.declared.link.Link.{Link}
use Rattle.layout.specs.declared.link.Session.{Session}
use Rattle.layout.specs.declared.path.ExitPath.{ExitPath}
use Rattle.layout.specs.declared.router.Role.{Role}
use Rattle.layout.specs.declared.router.Role.TheVariants.{Client, Reflector}
use Rattle.layout.specs.declared.router.Router.{Router}
use Rattle.layout.proofs.Checks.{decides_range, decides_pair, decides_session}
use Rattle.layout.proofs.KindBytes.{reading_whole}
use Rattle.layout.proofs.Numbers.{two_back, four_back}
use Rattle.layout.proofs.Pairs.{apart_new}
use Rattle.layout.proofs.Steps.{read_on}
use Rattle.layout.proofs.Whole.{whole_accepts}

false_from : {P : Type 0} (r : Bool) → Decides r P → (P → ⊥) → r ≡ false
false_from r d h = ⊎_elim (λ e. absurd (h (d.0 e))) (λ e. e) (cases_Bool r)

-- a whole record that breaks no rule is read, and the reading goes on behind it
pub reads_record : (t : Declared) (k : Kind) (body : List ℕ) (before place : ℕ) (rest : List ℕ) → before ≤ kind_byte k → length body ≡ body_length k → count t k < most k → (OutOfRange t k body → ⊥) → (BadPair t k body → ⊥) → (BadSession t k body → ⊥) → read_from zero t before place (kind_byte k ∷ (body ++ rest)) ≡ read_from zero (adding t k body) (kind_byte k) (place + 1 + body_length k) rest
reads_record t k body before place rest rises long room range pair session =
    let passes : declaring t place k body ≡ Ok (adding t k body) =
    cond-false _ _ _ (lt-leb _ _ room) ∙ cond-false _ _ _ (false_from _ (decides_range t k body) range) ∙ cond-false _ _ _ (false_from _ (decides_pair t k body) pair) ∙ cond-false _ _ _ (false_from _ (decides_session t k body) session) in
    let behind : length (kind_byte k ∷ body) ≡ 1 + body_length k = omega (arith, long) in
    read_on t before place place k body (kind_byte k ∷ (body ++ rest)) (adding t k body) (reading_whole before place k body rest long rises) passes
    ∙ ap (read_from zero (adding t k body) (kind_byte k) (place + 1 + body_length k)) (drop_at (kind_byte k ∷ body) rest (1 + body_length k) behind)

-- records of one kind, one after another: W holds of the whole list, `step` reads one record
module _ {X : Type 0} (bytes : X → List ℕ) (put : List X → Declared) (k : Kind) (W : List X → Type 0)
    (step : (done : List X) (x : X) (todo : List X) (before place : ℕ) (rest : List ℕ) → W (done ++ x ∷ todo) → before ≤ kind_byte k → read_from zero (put done) before place (bytes x ++ rest) ≡ read_from zero (put (done ++ x ∷ [])) (kind_byte k) (place + 1 + body_length k) rest) where
  reads_all : (todo done : List X) (before place : ℕ) (rest : List ℕ) → W (done ++ todo) → before ≤ kind_byte k → (b : ℕ) × (p : ℕ) × (b ≤ kind_byte k) × (read_from zero (put done) before place (flat_map bytes todo ++ rest) ≡ read_from zero (put (done ++ todo)) b p rest)
  reads_all [] done before place rest w rises = (before, place, rises, ap (λ l. read_from zero (put l) before place rest) (sym (append-nil done)))
  reads_all (x ∷ todo) done before place rest w rises =
      let one = step done x todo before place (flat_map bytes todo ++ rest) w rises in
      let more = reads_all todo (done ++ x ∷ []) (kind_byte k) (place + 1 + body_length k) rest (subst W (sym (append_assoc done (x ∷ []) todo)) w) (omega arith) in (
        more.0,
        more.1,
        more.2,
        ap (read_from zero (put done) before place) (append_assoc (bytes x) (flat_map bytes todo) rest) ∙ one ∙ more.3 ∙ ap (λ l. read_from zero (put l) more.0 more.1 rest) (append_assoc done (x ∷ []) todo),
      )

-- one in the middle of a list
all_mid : {X : Type 0} (P : X → Type 0) (done : List X) (x : X) (todo : List X) → All P (done ++ x ∷ todo) → P x
all_mid P done x todo h = All-contains P (done ++ x ∷ todo) x h (Contains-append_right done (x ∷ todo) x (Contains-get_or (x ∷ todo) 0 x (omega arith)))

few_mid : {X : Type 0} (n : ℕ) (done : List X) (x : X) (todo : List X) → length (done ++ x ∷ todo) ≤ n → length done < n
few_mid n done x todo h = omega (arith, length-append done (x ∷ todo))

role_back : (role : Role) → role_in (role_byte role) ≡ role
role_back Client = refl
role_back Reflector = refl

role_fits : (role : Role) → 2 ≤ role_byte role → ⊥
role_fits Client h = omega arith
role_fits Reflector h = omega arith

abbrev with_routers : List Router → Declared
with_routers rs = record { routers = rs; links = []; sessions = []; paths = [] }

abbrev with_links : List Router → List Link → Declared
with_links rs ls = record { routers = rs; links = ls; sessions = []; paths = [] }

abbrev with_sessions : List Router → List Link → List Session → Declared
with_sessions rs ls ss = record { routers = rs; links = ls; sessions = ss; paths = [] }

abbrev with_paths : List Router → List Link → List Session → List ExitPath → Declared
with_paths rs ls ss ps = record { routers = rs; links = ls; sessions = ss; paths = ps }

abbrev RoutersSound : List Router → Type 0
RoutersSound rs = (length rs ≤ 32) × All RouterFits rs

reads_router : (done : List Router) (r : Router) (todo : List Router) (before place : ℕ) (rest : List ℕ) → RoutersSound (done ++ r ∷ todo) → before ≤ 1 → read_from zero (with_routers done) before place (router_bytes r ++ rest) ≡ read_from zero (with_routers (done ++ r ∷ [])) 1 (place + 1 + 2) rest
reads_router done r todo before place rest w rises =
    let fits = all_mid RouterFits done r todo w.1 in
    let same : router_in (r.cluster ∷ role_byte r.role ∷ []) ≡ r = (λ i. record { cluster = r.cluster; role = role_back r.role i }) in
    reads_record (with_routers done) router_kind (r.cluster ∷ role_byte r.role ∷ []) before place rest rises refl (few_mid 32 done r todo w.0)
    (λ h. ⊎_elim (λ x. omega (arith, fits)) (role_fits r.role) h) (λ h. h) (λ h. h)
    ∙ ap (λ x. read_from zero (with_routers (done ++ x ∷ [])) 1 (place + 1 + 2) rest) same

module _ (rs : List Router) where
  abbrev LinksSound : List Link → Type 0
  LinksSound ls = (length ls ≤ 128) × All (LinkFits (length rs)) ls × Apart (map link_ends ls)

  reads_link : (done : List Link) (l : Link) (todo : List Link) (before place : ℕ) (rest : List ℕ) → LinksSound (done ++ l ∷ todo) → before ≤ 2 → read_from zero (with_links rs done) before place (link_bytes l ++ rest) ≡ read_from zero (with_links rs (done ++ l ∷ [])) 2 (place + 1 + 4) rest
  reads_link done l todo before place rest w rises =
      let fits = all_mid (LinkFits (length rs)) done l todo w.1 in
      let new = apart_new (map link_ends done) l.ends (map link_ends todo) (subst Apart (map-append link_ends done (l ∷ todo)) w.2) in
      let same : link_in (l.ends.a ∷ l.ends.b ∷ two_bytes l.metric) ≡ l = (λ i. record { ends = l.ends; metric = two_back l.metric i }) in
      reads_record (with_links rs done) link_kind (l.ends.a ∷ l.ends.b ∷ two_bytes l.metric) before place rest rises refl (few_mid 128 done l todo w.0)
      (λ h. ⊎_elim (λ x. omega (arith, fits.0.0)) (λ y. ⊎_elim (λ x. omega (arith, fits.0.1)) (λ x. omega (arith, fits.1, two_back l.metric)) y) h) (λ h. ⊎_elim fits.0.2 new h) (λ h. h)
      ∙ ap (λ x. read_from zero (with_links rs (done ++ x ∷ [])) 2 (place + 1 + 4) rest) same

  module _ (ls : List Link) where
    abbrev SessionsSound : List Session → Type 0
    SessionsSound ss = (length ss ≤ 64) × All (SessionFits rs) ss × Apart (map session_ends ss)

    reads_session : (done : List Session) (s : Session) (todo : List Session) (before place : ℕ) (rest : List ℕ) → SessionsSound (done ++ s ∷ todo) → before ≤ 3 → read_from zero (with_sessions rs ls done) before place (session_bytes s ++ rest) ≡ read_from zero (with_sessions rs ls (done ++ s ∷ [])) 3 (place + 1 + 2) rest
    reads_session done s todo before place rest w rises =
        let fits = all_mid (SessionFits rs) done s todo w.1 in
        let new = apart_new (map session_ends done) s.ends (map session_ends todo) (subst Apart (map-append session_ends done (s ∷ todo)) w.2) in
        reads_record (with_sessions rs ls done) session_kind (s.ends.a ∷ s.ends.b ∷ []) before place rest rises refl (few_mid 64 done s todo w.0)
        (λ h. ⊎_elim (λ x. omega (arith, fits.0.0)) (λ x. omega (arith, fits.0.1)) h) (λ h. ⊎_elim fits.0.2 new h) (λ h. h fits.1)

    module _ (ss : List Session) where
      abbrev PathsSound : List ExitPath → Type 0
      PathsSound ps = (length ps ≤ 64) × All (PathFits (length rs)) ps

      path_back : (p : ExitPath) → path_in (path_body p) ≡ p
      path_back p = λ i. record {
        exit_point = p.exit_point;
        neighbour_as = four_back p.neighbour_as i;
        local_pref = four_back p.local_pref i;
        as_path_len = p.as_path_len;
        med = four_back p.med i;
        exit_cost = two_back p.exit_cost i;
        speaker = four_back p.speaker i;
      }

      reads_path : (done : List ExitPath) (p : ExitPath) (todo : List ExitPath) (before place : ℕ) (rest : List ℕ) → PathsSound (done ++ p ∷ todo) → before ≤ 4 → read_from zero (with_paths rs ls ss done) before place (path_bytes p ++ rest) ≡ read_from zero (with_paths rs ls ss (done ++ p ∷ [])) 4 (place + 1 + 20) rest
      reads_path done p todo before place rest w rises =
          let fits = all_mid (PathFits (length rs)) done p todo w.1 in
          reads_record (with_paths rs ls ss done) path_kind (path_body p) before place rest rises refl (few_mid 64 done p todo w.0)
          (λ h. ⊎_elim (λ x. omega (arith, fits.at_router)) (λ x. omega (arith, fits.some_as)) h) (λ h. h) (λ h. h)
          ∙ ap (λ x. read_from zero (with_paths rs ls ss (done ++ x ∷ [])) 4 (place + 1 + 20) rest) (path_back p)

pub table_accepted : (t : Declared) → WellFormed t → table_in (encoded t) ≡ Ok t
table_accepted t w =
    let s = w.sound in
    let rs = t.routers in
    let ls = t.links in
    let ss = t.sessions in
    let ps = t.paths in
    let paths_bytes = flat_map path_bytes ps in
    let sessions_bytes = flat_map session_bytes ss ++ paths_bytes in
    let links_bytes = flat_map link_bytes ls ++ sessions_bytes in
    let one = reads_all router_bytes with_routers router_kind RoutersSound reads_router rs [] 0 0 links_bytes (s.few_routers, s.routers_fit) (omega arith) in
    let two = reads_all link_bytes (with_links rs) link_kind (LinksSound rs) (reads_link rs) ls [] one.0 one.1 sessions_bytes (s.few_links, s.links_fit, s.links_apart) (omega (arith, one.2)) in
    let three = reads_all session_bytes (with_sessions rs ls) session_kind (SessionsSound rs ls) (reads_session rs ls) ss [] two.0 two.1 paths_bytes (s.few_sessions, s.sessions_fit, s.sessions_apart) (omega (arith, two.2)) in
    let four = reads_all path_bytes (with_paths rs ls ss) path_kind (PathsSound rs ls ss) (reads_path rs ls ss) ps [] three.0 three.1 [] (s.few_paths, s.paths_fit) (omega (arith, three.2)) in
    one.3 ∙ two.3 ∙ three.3 ∙ ap (read_from zero (with_sessions rs ls ss) three.0 three.1) (sym (append-nil paths_bytes)) ∙ four.3 ∙ ap of_graph (whole_accepts t w)
