-- What is answered about a network's routers, in plain terms.
use Rattle.std.proofs.Common.{◌≡◌, ℕ, ◌<◌, true, false, ◌&&◌, cond, Bool, List, length, Some, None, Ok, Err, IfOk, Option, Result, sym, refl, ap, ◌∙◌, subst}
use Rattle.std.proofs.lemmas.Bool.{ltb-true}
use Rattle.std.specs.Prelude.{◌↔◌, nat_le, nat_lt}
use Rattle.costs.specs.Cost.{plain}
use Rattle.costs.proofs.Plain.{plain_laws}
use Rattle.distances.specs.Answered.{of_router}
use Rattle.faults.specs.declared.call.CallFault.{CallFault}
use Rattle.faults.specs.declared.call.CallFault.TheVariants.{UndeclaredRouter, ShortBuffer}
use Rattle.forwarding.specs.Answers.{best_answer, told, over_written, trace_answer, trace_bytes}
use Rattle.forwarding.proofs.Refused.{best_where_declared, trace_where_declared, trace_bytes_where_declared}
use Rattle.layout.specs.Table.{Declared}
use Rattle.listing.specs.Listing.{list_at, list_bytes, list_answer, list_written}
use Rattle.listing.specs.Refusals.{NoStray}
use Rattle.listing.proofs.Strays.{list_where_declared, list_bytes_where_declared}
use Rattle.packets.specs.BestPlain.{Best}
use Rattle.packets.specs.Ways.{way}
use Rattle.packets.proofs.BestPaths.{best_from}
use Rattle.selection.specs.Laws.{Keeping, Laws, AllDeclared}
use Rattle.sets.specs.Members.{member}
use Rattle.protocol.specs.Consistent.{Consistent}
use Rattle.protocol.specs.Network.{State, set_of}
use Rattle.protocol.specs.Packets.{best_of}
use Rattle.calls.specs.Calls.{best_at, metric_of}
use Rattle.calls.specs.Refusals.{NoSuchRouter}
use Rattle.calls.proofs.Refusing.{both, one_fault}

-- a question about a router is refused just where the router is not declared
pub router_refuses : {X : Type 0} {r : Result X CallFault} (s : State) (v : ℕ) (y : X) → r ≡ of_router s.table v (Ok y) → (fault : CallFault) → (r ≡ Err fault) ↔ NoSuchRouter s v fault
router_refuses s v y is fault = both (λ e. sym is ∙ e, λ e. is ∙ e) (one_fault fault (UndeclaredRouter v) v (length s.table.routers) y)

-- and where it is answered, the router is declared
pub if_declared : {X : Type 0} {r : Result X CallFault} (P : X → Type 0) (s : State) (v : ℕ) (y : X) → r ≡ of_router s.table v (Ok y) → (v < length s.table.routers → P y) → IfOk r P
if_declared P s v y is holds = subst (λ r. IfOk r P) (sym is) (by_test (nat_lt v (length s.table.routers)) (λ below. holds (ltb-true v (length s.table.routers) below)))
  where
    by_test : (b : Bool) → (b ≡ true → P y) → IfOk (cond b (Ok y) (Err (UndeclaredRouter v))) P
    by_test true holds = holds refl
    by_test false holds = tt

module _ {kept : Keeping} (laws : Laws kept) {s : State} (c : Consistent kept s) where
  -- a router advertises declared paths only
  pub tells_declared : (v : ℕ) → AllDeclared s.table.paths (set_of s.advertised v)
  tells_declared v p told =
      c.known_declared v p
      (laws.within s.table.paths (set_of s.known v) (c.known_declared v) p (subst (λ (set : ℕ). member set p ≡ true) (c.advertises v) told))

  module _ {t : Declared} (same : t ≡ s.table) where
    -- so of what it advertises nothing is refused
    pub best_answers : {set : ℕ} (v : ℕ) → set ≡ set_of s.advertised v → best_answer t set v ≡ best_at s v
    best_answers {set} v is =
        ap (λ (x : Declared). best_answer x set v) same ∙ ap (λ (x : ℕ). best_answer s.table x v) is
        ∙ best_where_declared s.table (set_of s.advertised v) (tells_declared v) v

    pub trace_answers :
        {set : ℕ} (v room : ℕ) → set ≡ set_of s.advertised v →
        trace_answer t set v room ≡ of_router s.table v (cond (nat_le 32 room) (Ok (told (way plain s.table (set_of s.advertised v) v))) (Err (ShortBuffer 32)))
    trace_answers {set} v room is =
        ap (λ (x : Declared). trace_answer x set v room) same ∙ ap (λ (x : ℕ). trace_answer s.table x v room) is
        ∙ trace_where_declared s.table (set_of s.advertised v) (tells_declared v) v room

    pub trace_writes :
        {set : ℕ} (v : ℕ) (before : List ℕ) → set ≡ set_of s.advertised v →
        trace_bytes t set v before ≡ cond (nat_lt v (length s.table.routers) && nat_le 32 (length before)) (over_written (way plain s.table (set_of s.advertised v) v) before) before
    trace_writes {set} v before is =
        ap (λ (x : Declared). trace_bytes x set v before) same ∙ ap (λ (x : ℕ). trace_bytes s.table x v before) is
        ∙ trace_bytes_where_declared s.table (set_of s.advertised v) (tells_declared v) v before

    none_stray : NoStray s.table s.advertised
    none_stray v below = tells_declared v

    pub list_answers : (room : ℕ) → list_answer t s.advertised room ≡ list_at s.table s.advertised room
    list_answers room = ap (λ (x : Declared). list_answer x s.advertised room) same ∙ list_where_declared s.table s.advertised none_stray room

    pub list_writes : (before : List ℕ) → list_written t s.advertised before ≡ list_bytes s.table s.advertised before
    list_writes before = ap (λ (x : Declared). list_written x s.advertised before) same ∙ list_bytes_where_declared s.table s.advertised none_stray before

-- the best path of a declared router, and that no other is, where it was worked out
pub only_best : {r : Result (Option ℕ) CallFault} (s : State) (v : ℕ) → r ≡ best_at s v → IfOk r (λ path. (p : ℕ) → Best plain s.table (set_of s.advertised v) v p → path ≡ Some p)
only_best s v is =
    if_declared (λ path. (p : ℕ) → Best plain s.table (set_of s.advertised v) v p → path ≡ Some p) s v (best_of s v) is (λ below. best_from plain plain_laws s.table (set_of s.advertised v) v)

-- a router's best path has a metric just where there is one
pub metric_none : (s : State) (v : ℕ) (path : Option ℕ) → (metric_of s v path ≡ None) ↔ (path ≡ None)
metric_none s v None = (λ e. refl, λ e. refl)
metric_none s v (Some p) = (λ e. absurd (let clash : ⊥ = cc in clash), λ e. absurd (let clash : ⊥ = cc in clash))
