-- What is merely known of a table is known. Assumes nothing.
use Rattle.std.proofs.Common.{◌≡◌, ℕ, ◌≤◌, Bool, true, List, [], ◌∷◌, map, length, get_or, Ok, Err, Decides, All, Result, refl, arith}
use mathlib.Core.Bool.{Bool-set}
use mathlib.Core.HLevel.{⊥_prop}
use mathlib.Core.Logic.{∥∥₁_elim, ∥∥₁_map}
use native.Mathlib.Bridge.{le_prop}
use Rattle.faults.specs.declared.graph.GraphFault.{GraphFault}
use Rattle.layout.specs.Checks.{clients_of_one}
use Rattle.layout.specs.Graph.{whole}
use Rattle.layout.specs.Table.{Declared}
use Rattle.layout.specs.WellFormed.{Same, Apart, Joins, ClientsOfOne, RouterFits, LinkFits, SessionFits, PathFits, link_ends, session_ends, Sound, WellFormed}
use Rattle.layout.specs.declared.link.Link.{Link}
use Rattle.layout.specs.declared.link.Pair.{Pair}
use Rattle.layout.specs.declared.link.Session.{Session}
use Rattle.layout.specs.declared.path.ExitPath.{ExitPath}
use Rattle.layout.specs.declared.router.Router.{Router}
use Rattle.layout.proofs.Checks.{decides_clients}
use Rattle.layout.proofs.Whole.{WholeTells, whole_tells, whole_accepts}

-- what is merely known of A is known
abbrev Known : Type 0 → Type 0
Known A = ∥ A ∥₁ → A

known_le : (m n : ℕ) → Known (m ≤ n)
known_le m n h = ∥∥₁_elim h le_prop (λ e. e)

known_not : (A : Type 0) → Known (A → ⊥)
known_not A h a = ∥∥₁_elim h ⊥_prop (λ f. f a)

known_decided : (b : Bool) (A : Type 0) → Decides b A → Known A
known_decided b A decides h = decides.0 (∥∥₁_elim h (Bool-set b true) decides.1)

known_all : {X : Type 0} (P : X → Type 0) → ((x : X) → Known (P x)) → (xs : List X) → Known (All P xs)
known_all P known xs h = λ k d below. known (get_or xs k d) (∥∥₁_map h (λ all. all k d below))

known_apart : (ps : List Pair) → Known (Apart ps)
known_apart [] h = tt
known_apart (p ∷ ps) h = (
  known_all (λ q. Same p q → ⊥) (λ q. known_not (Same p q)) ps (∥∥₁_map h (λ e. e.0)),
  known_apart ps (∥∥₁_map h (λ e. e.1)),
)

known_joins : (n : ℕ) (p : Pair) → Known (Joins n p)
known_joins n p h = (
  known_le _ n (∥∥₁_map h (λ e. e.0)),
  known_le _ n (∥∥₁_map h (λ e. e.1)),
  known_not (p.a ≡ p.b) (∥∥₁_map h (λ e. e.2)),
)

known_link : (n : ℕ) (l : Link) → Known (LinkFits n l)
known_link n l h = (
  known_joins n l.ends (∥∥₁_map h (λ e. e.0)),
  known_le _ _ (∥∥₁_map h (λ e. e.1)),
  known_le _ _ (∥∥₁_map h (λ e. e.2)),
)

known_session : (routers : List Router) (s : Session) → Known (SessionFits routers s)
known_session routers s h = (
  known_joins (length routers) s.ends (∥∥₁_map h (λ e. e.0)),
  known_decided (clients_of_one routers s.ends) (ClientsOfOne routers s.ends) (decides_clients routers s.ends) (∥∥₁_map h (λ e. e.1)),
)

known_path : (n : ℕ) (x : ExitPath) → Known (PathFits n x)
known_path n x h = record {
  at_router = known_le _ _ (∥∥₁_map h (λ e. e.at_router));
  neighbour = known_le _ _ (∥∥₁_map h (λ e. e.neighbour));
  preference = known_le _ _ (∥∥₁_map h (λ e. e.preference));
  some_as = known_le _ _ (∥∥₁_map h (λ e. e.some_as));
  as_byte = known_le _ _ (∥∥₁_map h (λ e. e.as_byte));
  med = known_le _ _ (∥∥₁_map h (λ e. e.med));
  cost = known_le _ _ (∥∥₁_map h (λ e. e.cost));
  speaker = known_le _ _ (∥∥₁_map h (λ e. e.speaker));
}

known_sound : (t : Declared) → Known (Sound t)
known_sound t h = record {
  few_routers = known_le _ _ (∥∥₁_map h (λ e. e.few_routers));
  few_links = known_le _ _ (∥∥₁_map h (λ e. e.few_links));
  few_sessions = known_le _ _ (∥∥₁_map h (λ e. e.few_sessions));
  few_paths = known_le _ _ (∥∥₁_map h (λ e. e.few_paths));
  routers_fit = known_all RouterFits (λ r. known_le _ _) t.routers (∥∥₁_map h (λ e. e.routers_fit));
  links_fit = known_all (LinkFits (length t.routers)) (known_link (length t.routers)) t.links (∥∥₁_map h (λ e. e.links_fit));
  links_apart = known_apart (map link_ends t.links) (∥∥₁_map h (λ e. e.links_apart));
  sessions_fit = known_all (SessionFits t.routers) (known_session t.routers) t.sessions (∥∥₁_map h (λ e. e.sessions_fit));
  sessions_apart = known_apart (map session_ends t.sessions) (∥∥₁_map h (λ e. e.sessions_apart));
  paths_fit = known_all (PathFits (length t.routers)) (known_path (length t.routers)) t.paths (∥∥₁_map h (λ e. e.paths_fit));
}

-- the checks of the whole do not refuse
module _ (t : Declared) (s : Sound t) where
  accepted : (r : Result Declared GraphFault) → WholeTells t s r → ((fault : GraphFault) → r ≡ Err fault → ⊥) → WellFormed t
  accepted (Ok u) tells _ = tells.1
  accepted (Err fault) _ never = absurd (never fault refl)

not_both : (r : Result Declared GraphFault) (t : Declared) (fault : GraphFault) → r ≡ Ok t → r ≡ Err fault → ⊥
not_both r t fault e f = let z : ◌≡◌ {A = ℕ} 0 1 = cc in omega arith

pub known_well_formed : (t : Declared) → ∥ WellFormed t ∥₁ → WellFormed t
known_well_formed t h =
    let s = known_sound t (∥∥₁_map h (λ w. w.sound)) in
    accepted t s (whole t) (whole_tells t s) (λ fault e. ∥∥₁_elim h ⊥_prop (λ w. not_both (whole t) t fault (whole_accepts t w) e))
