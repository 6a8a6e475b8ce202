-- One record more: the table stays sound, and its bytes are those before and the record's. Assumes nothing.
use Rattle.std.proofs.Common.{◌≡◌, ℕ, ◌+◌, ◌^◌, ◌<◌, ◌≤◌, List, [], ◌∷◌, ◌++◌, length, All, sym, refl, ap, ◌∙◌, subst, inl, inr, ⊎_elim, append_assoc, append-nil, arith}
use Rattle.std.specs.List.{flat_map}
use Rattle.std.proofs.lemmas.List.Elements.{All-nil, All-push}
use Rattle.std.proofs.lemmas.List.{flat_map_more, length_push, map_push}
use Rattle.std.proofs.lemmas.Bool.{cases_lt, cases_eq}
use Rattle.records.specs.Kinds.{kind_byte, body_length}
use Rattle.records.specs.declared.kind.Kind.{Kind}
use Rattle.records.specs.declared.kind.Kind.TheVariants.{Router as router_kind, Link as link_kind, Session as session_kind, Path as path_kind}
use Rattle.layout.specs.Bodies.{byte, two, four, pair_in, router_in, link_in, session_in, path_in, adding}
use Rattle.layout.specs.Encoding.{router_bytes, link_bytes, session_bytes, path_bytes, encoded}
use Rattle.layout.specs.Rules.{most, count, top, latest, OutOfRange, BadPair}
use Rattle.layout.specs.Table.{Declared}
use Rattle.layout.specs.WellFormed.{Joins, ClientsOfOne, RouterFits, LinkFits, SessionFits, PathFits, link_ends, session_ends, Apart, Sound}
use Rattle.layout.proofs.Pairs.{apart_push}
use Rattle.layout.proofs.Records.{Bytes, at_byte, router_bytes_in, link_bytes_in, session_bytes_in, path_bytes_in}

-- a session is between two clients of one cluster
abbrev pub Local : Declared → Kind → List ℕ → Type 0
Local t router_kind body = Unit {0}
Local t link_kind body = Unit {0}
Local t session_kind body = ClientsOfOne t.routers (pair_in body)
Local t path_kind body = Unit {0}

-- a record whose kind is not lower than the one before, which is whole and breaks no rule
pub record Good (t : Declared) (k : Kind) (body : List ℕ) : Type 0 where
  pub rises : latest t ≤ kind_byte k
  pub long : length body ≡ body_length k
  pub bytes : Bytes body
  pub room : count t k < most k
  pub range : OutOfRange t k body → ⊥
  pub pair : BadPair t k body → ⊥
  pub session : Local t k body

-- what that record adds
pub record Added (t : Declared) (k : Kind) (body : List ℕ) : Type 0 where
  pub sound : Sound (adding t k body)
  pub bytes : encoded (adding t k body) ≡ encoded t ++ (kind_byte k ∷ body)
  pub last : latest (adding t k body) ≡ kind_byte k

top_none : {X : Type 0} (xs : List X) (k below m : ℕ) → top xs k below ≤ m → m < k → (xs ≡ []) × (below ≤ m)
top_none [] k below m h lt = (refl, h)
top_none (x ∷ xs) k below m h lt = absurd (omega arith)

top_empty : {X : Type 0} (xs : List X) (k below : ℕ) → xs ≡ [] → top xs k below ≡ below
top_empty xs k below e = ap (λ l. top l k below) e

top_push : {X : Type 0} (xs : List X) (x : X) (k below : ℕ) → top (xs ++ x ∷ []) k below ≡ k
top_push [] x k below = refl
top_push (y ∷ xs) x k below = refl

joined_push : {X : Type 0} (f : X → List ℕ) (xs : List X) (x : X) → flat_map f (xs ++ x ∷ []) ≡ flat_map f xs ++ f x
joined_push f xs x = sym (flat_map_more f [] xs x)

joined_empty : {X : Type 0} (f : X → List ℕ) (xs : List X) → xs ≡ [] → flat_map f xs ≡ []
joined_empty f xs e = ap (flat_map f) e

-- a piece in front of an empty tail may as well stand behind it
past_empty : (a x tail : List ℕ) → tail ≡ [] → (a ++ x) ++ tail ≡ (a ++ tail) ++ x
past_empty a x tail e = ap (λ l. (a ++ x) ++ l) e ∙ append-nil (a ++ x) ∙ ap (λ l. l ++ x) (sym (append-nil a) ∙ ap (λ l. a ++ l) (sym e))

empty_both : (a b : List ℕ) → a ≡ [] → b ≡ [] → a ++ b ≡ []
empty_both a b p q = λ i. p i ++ q i

two_below : (body : List ℕ) → Bytes body → (i : ℕ) → i + 1 < length body → two body i < 2 ^ 16
two_below body bytes i lt = omega (arith, at_byte body bytes i (omega arith), at_byte body bytes (i + 1) lt)

four_below : (body : List ℕ) → Bytes body → (i : ℕ) → i + 3 < length body → four body i < 2 ^ 32
four_below body bytes i lt =
    omega (arith, at_byte body bytes i (omega arith), at_byte body bytes (i + 1) (omega arith), at_byte body bytes (i + 2) (omega arith), at_byte body bytes (i + 3) lt)

below_from : (a b : ℕ) → (a ≤ b → ⊥) → b < a
below_from a b h = ⊎_elim (λ lt. lt) (λ le. absurd (h le)) (cases_lt b a)

some_from : (n : ℕ) → (n ≡ 0 → ⊥) → 1 ≤ n
some_from n h = ⊎_elim (λ e. absurd (h e)) (λ ne. omega arith) (cases_eq n 0)

module _ (t : Declared) (body : List ℕ) (s : Sound t) where
  abbrev RB : List ℕ
  RB = flat_map router_bytes t.routers

  abbrev LB : List ℕ
  LB = flat_map link_bytes t.links

  abbrev SB : List ℕ
  SB = flat_map session_bytes t.sessions

  abbrev PB : List ℕ
  PB = flat_map path_bytes t.paths

  pub added_router : Good t router_kind body → Added t router_kind body
  added_router g =
      let no_paths = top_none t.paths 4 _ 1 g.rises (omega arith) in
      let no_sessions = top_none t.sessions 3 _ 1 no_paths.1 (omega arith) in
      let no_links = top_none t.links 2 _ 1 no_sessions.1 (omega arith) in
      let tail : LB ++ (SB ++ PB) ≡ [] = empty_both LB (SB ++ PB) (joined_empty link_bytes _ no_links.0) (empty_both SB PB (joined_empty session_bytes _ no_sessions.0) (joined_empty path_bytes _ no_paths.0)) in
      let role : byte body 1 < 2 = below_from 2 (byte body 1) (λ h. g.range (inr h)) in
      record {
        sound = record {
          few_routers = omega (arith, length_push t.routers (router_in body), g.room);
          few_links = s.few_links;
          few_sessions = s.few_sessions;
          few_paths = s.few_paths;
          routers_fit = All-push RouterFits t.routers (router_in body) s.routers_fit (below_from 32 (byte body 0) (λ h. g.range (inl h)));
          links_fit = subst (All (LinkFits (length (t.routers ++ router_in body ∷ [])))) (sym no_links.0) (All-nil (LinkFits (length (t.routers ++ router_in body ∷ []))));
          links_apart = s.links_apart;
          sessions_fit = subst (All (SessionFits (t.routers ++ router_in body ∷ []))) (sym no_sessions.0) (All-nil (SessionFits (t.routers ++ router_in body ∷ [])));
          sessions_apart = s.sessions_apart;
          paths_fit = subst (All (PathFits (length (t.routers ++ router_in body ∷ [])))) (sym no_paths.0) (All-nil (PathFits (length (t.routers ++ router_in body ∷ []))));
        };
        bytes =
            ap (λ l. l ++ (LB ++ (SB ++ PB))) (joined_push router_bytes t.routers (router_in body))
            ∙ past_empty RB (router_bytes (router_in body)) (LB ++ (SB ++ PB)) tail
            ∙ ap (λ l. (RB ++ (LB ++ (SB ++ PB))) ++ l) (router_bytes_in body g.bytes g.long role);
        last = top_empty t.paths 4 _ no_paths.0 ∙ top_empty t.sessions 3 _ no_sessions.0 ∙ top_empty t.links 2 _ no_links.0 ∙ top_push t.routers (router_in body) 1 0;
      }

  pub added_link : Good t link_kind body → Added t link_kind body
  added_link g =
      let no_paths = top_none t.paths 4 _ 2 g.rises (omega arith) in
      let no_sessions = top_none t.sessions 3 _ 2 no_paths.1 (omega arith) in
      let tail : SB ++ PB ≡ [] = empty_both SB PB (joined_empty session_bytes _ no_sessions.0) (joined_empty path_bytes _ no_paths.0) in
      let joins : Joins (length t.routers) (pair_in body) = (below_from _ (byte body 0) (λ h. g.range (inl h)), below_from _ (byte body 1) (λ h. g.range (inr (inl h))), λ e. g.pair (inl e)) in
      let metric : two body 2 < 2 ^ 16 = two_below body g.bytes 2 (omega (arith, g.long)) in
      record {
        sound = record {
          few_routers = s.few_routers;
          few_links = omega (arith, length_push t.links (link_in body), g.room);
          few_sessions = s.few_sessions;
          few_paths = s.few_paths;
          routers_fit = s.routers_fit;
          links_fit = All-push (LinkFits (length t.routers)) t.links (link_in body) s.links_fit (joins, some_from (two body 2) (λ h. g.range (inr (inr h))), metric);
          links_apart = subst Apart (sym (map_push link_ends t.links (link_in body))) (apart_push _ _ s.links_apart (λ h. g.pair (inr h)));
          sessions_fit = s.sessions_fit;
          sessions_apart = s.sessions_apart;
          paths_fit = s.paths_fit;
        };
        bytes =
            ap (λ l. RB ++ (l ++ (SB ++ PB))) (joined_push link_bytes t.links (link_in body))
            ∙ ap (λ l. RB ++ l) (past_empty LB (link_bytes (link_in body)) (SB ++ PB) tail)
            ∙ sym (append_assoc RB (LB ++ (SB ++ PB)) (link_bytes (link_in body)))
            ∙ ap (λ l. (RB ++ (LB ++ (SB ++ PB))) ++ l) (link_bytes_in body g.bytes g.long);
        last = top_empty t.paths 4 _ no_paths.0 ∙ top_empty t.sessions 3 _ no_sessions.0 ∙ top_push t.links (link_in body) 2 _;
      }

  pub added_session : Good t session_kind body → Added t session_kind body
  added_session g =
      let no_paths = top_none t.paths 4 _ 3 g.rises (omega arith) in
      let joins : Joins (length t.routers) (pair_in body) = (below_from _ (byte body 0) (λ h. g.range (inl h)), below_from _ (byte body 1) (λ h. g.range (inr h)), λ e. g.pair (inl e)) in
      record {
        sound = record {
          few_routers = s.few_routers;
          few_links = s.few_links;
          few_sessions = omega (arith, length_push t.sessions (session_in body), g.room);
          few_paths = s.few_paths;
          routers_fit = s.routers_fit;
          links_fit = s.links_fit;
          links_apart = s.links_apart;
          sessions_fit = All-push (SessionFits t.routers) t.sessions (session_in body) s.sessions_fit (joins, g.session);
          sessions_apart = subst Apart (sym (map_push session_ends t.sessions (session_in body))) (apart_push _ _ s.sessions_apart (λ h. g.pair (inr h)));
          paths_fit = s.paths_fit;
        };
        bytes =
            ap (λ l. RB ++ (LB ++ (l ++ PB))) (joined_push session_bytes t.sessions (session_in body))
            ∙ ap (λ l. RB ++ (LB ++ l)) (past_empty SB (session_bytes (session_in body)) PB (joined_empty path_bytes _ no_paths.0))
            ∙ ap (λ l. RB ++ l) (sym (append_assoc LB (SB ++ PB) (session_bytes (session_in body))))
            ∙ sym (append_assoc RB (LB ++ (SB ++ PB)) (session_bytes (session_in body)))
            ∙ ap (λ l. (RB ++ (LB ++ (SB ++ PB))) ++ l) (session_bytes_in body g.bytes g.long);
        last = top_empty t.paths 4 _ no_paths.0 ∙ top_push t.sessions (session_in body) 3 _;
      }

  pub added_path : Good t path_kind body → Added t path_kind body
  added_path g =
      let long : 19 < length body = omega (arith, g.long) in
      record {
        sound = record {
          few_routers = s.few_routers;
          few_links = s.few_links;
          few_sessions = s.few_sessions;
          few_paths = omega (arith, length_push t.paths (path_in body), g.room);
          routers_fit = s.routers_fit;
          links_fit = s.links_fit;
          links_apart = s.links_apart;
          sessions_fit = s.sessions_fit;
          sessions_apart = s.sessions_apart;
          paths_fit = All-push (PathFits (length t.routers)) t.paths (path_in body) s.paths_fit (record {
            at_router = below_from _ (byte body 0) (λ h. g.range (inl h));
            neighbour = four_below body g.bytes 1 (omega arith);
            preference = four_below body g.bytes 5 (omega arith);
            some_as = some_from (byte body 9) (λ h. g.range (inr h));
            as_byte = at_byte body g.bytes 9 (omega arith);
            med = four_below body g.bytes 10 (omega arith);
            cost = two_below body g.bytes 14 (omega arith);
            speaker = four_below body g.bytes 16 long;
          });
        };
        bytes =
            ap (λ l. RB ++ (LB ++ (SB ++ l))) (joined_push path_bytes t.paths (path_in body))
            ∙ ap (λ l. RB ++ (LB ++ l)) (sym (append_assoc SB PB (path_bytes (path_in body))))
            ∙ ap (λ l. RB ++ l) (sym (append_assoc LB (SB ++ PB) (path_bytes (path_in body))))
            ∙ sym (append_assoc RB (LB ++ (SB ++ PB)) (path_bytes (path_in body)))
            ∙ ap (λ l. (RB ++ (LB ++ (SB ++ PB))) ++ l) (path_bytes_in body g.bytes g.long);
        last = top_push t.paths (path_in body) 4 _;
      }

pub added : (t : Declared) (k : Kind) (body : List ℕ) → Sound t → Good t k body → Added t k body
added t router_kind body s g = added_router t body s g
added t link_kind body s g = added_link t body s g
added t session_kind body s g = added_session t body s g
added t path_kind body s g = added_path t body s g
