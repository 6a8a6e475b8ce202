-- A packet that is followed, where there may be no path at all. Assumes nothing.
use Rattle.std.proofs.Common.{◌≡◌, ℕ, ◌+◌, ◌<◌, ◌≤◌, List, ◌∷◌, length, length-append, set, Some, None, Ok, Err, Option, sym, refl, ap, ◌∙◌, subst, arith}
use Rattle.std.proofs.lemmas.List.Elements.{All-get_or}
use Rattle.costs.specs.Cost.{plain}
use Rattle.costs.proofs.Plain.{plain_laws}
use Rattle.distances.specs.Answered.{declared_by, of_router}
use Rattle.distances.specs.declared.distances.Distances.{Distances}
use Rattle.faults.specs.declared.call.CallFault.{CallFault}
use Rattle.layout.specs.Table.{Declared, path_at}
use Rattle.layout.specs.WellFormed.{PathFits, WellFormed}
use Rattle.layout.specs.declared.path.ExitPath.{ExitPath}
use Rattle.layout.proofs.Certain.{known_well_formed}
use Rattle.packets.specs.Best.{exit_of, best}
use Rattle.packets.specs.BestPlain.{BestIs}
use Rattle.packets.specs.Hops.{hop}
use Rattle.packets.specs.Ways.{Course, way}
use Rattle.packets.proofs.BestPaths.{best_is}
use Rattle.packets.specs.WaysPlain.{AlwaysLeaves, LeavesFrom}
use Rattle.packets.proofs.Following.{leaves, no_way}
use Rattle.packets.proofs.Leaving.{always_leaves}
use Rattle.packets.proofs.PlainPackets.{plain_measured}
use Rattle.packets.proofs.Tracing.{Tracing, Out, Onward, tracing_begins, tracing_goes, tracing_out, tracing_on}
use Rattle.selection.specs.Laws.{Offered}
use Rattle.tables.specs.Accepted.{declared}
use Rattle.tables.specs.declared.table.Table.{Table}
use Rattle.forwarding.specs.Answers.{hop_answer, told, over_written}
use Rattle.forwarding.proofs.Rows.{answered, both_answered, both_not_refused}

-- a packet is followed from router v, and its routers are written over what a buffer held
pub record Setting (t : Declared) (s v : ℕ) (before : List ℕ) : Type 0 where
  pub sound : WellFormed t
  pub declared : v < length t.routers
  pub room : 32 ≤ length before

-- no path is there to take, or the packet is on its way
pub data Traced (t : Declared) (s v : ℕ) (before : List ℕ) : ℕ → ℕ → List ℕ → Type 0 where
  nowhere : {at count : ℕ} {now : List ℕ} → ((q : ℕ) → Offered t.paths s q → ⊥) → at ≡ v → count ≡ 0 → now ≡ before → Traced t s v before at count now
  going : {at count : ℕ} {now : List ℕ} (q : ℕ) → Offered t.paths s q → Tracing plain t s v at count before now → Traced t s v before at count now

module _ {t : Declared} {s v : ℕ} {before : List ℕ} (set_up : Setting t s v before) where
  enough : length t.routers ≤ length before
  enough = omega (arith, set_up.sound.sound.few_routers, set_up.room)

  begun : (o : Option ℕ) → BestIs plain t s v o → Traced t s v before v 0 before
  begun None h = nowhere h refl refl refl
  begun (Some p) h = going p h.0.0 (tracing_begins plain plain_laws t (plain_measured t set_up.sound) s p h.0.0 v before enough set_up.declared)

  pub traced_begins : Traced t s v before v 0 before
  traced_begins = begun (best plain t s v) (best_is plain plain_laws t s v)

  pub traced_below : {at count : ℕ} {now : List ℕ} → Traced t s v before at count now → at < length t.routers
  traced_below (nowhere none at_first first same) = subst (λ x. x < length t.routers) (sym at_first) set_up.declared
  traced_below (going q offered tracing) = tracing.below

  -- no packet is followed past the end of the buffer
  pub traced_within : {at count : ℕ} {now : List ℕ} → Traced t s v before at count now → count < length before
  traced_within (nowhere none at_first first same) = omega (arith, first, set_up.room)
  traced_within {at} (going q offered tracing) =
      omega (arith, tracing.counted, tracing.short, enough, length-append tracing.done (at ∷ tracing.rest))

  -- without a path the buffer is as it was
  pub traced_none : {at count : ℕ} {now : List ℕ} {o : Option ℕ} → Traced t s v before at count now → Ok o ≡ of_router t at (Ok (best plain t s at)) → o ≡ None → (None ≡ told (way plain t s v)) × (now ≡ over_written (way plain t s v) before)
  traced_none (nowhere none at_first first same) said is =
      let no = no_way plain plain_laws t (plain_measured t set_up.sound) s v none in
      (ap told (sym no), same ∙ ap (λ (r : Course). over_written r before) (sym no))
  traced_none {at} {count} {now} {o} (going q offered tracing) said is =
      absurd (tracing_goes plain plain_laws t (plain_measured t set_up.sound) s q offered v before enough at count now tracing (sym (answered t at o (best plain t s at) said).1 ∙ is))

  -- router at answered that it takes path p
  module _ (at : ℕ) {o : Option ℕ} {p : ℕ} (said : Ok o ≡ of_router t at (Ok (best plain t s at))) (is : o ≡ Some p) where
    takes : best plain t s at ≡ Some p
    takes = sym (answered t at o (best plain t s at) said).1 ∙ is

    is_offered : (q : Option ℕ) → BestIs plain t s at q → q ≡ Some p → Offered t.paths s p
    is_offered None h e = cc
    is_offered (Some q) h e = let same : q ≡ p = cc in subst (Offered t.paths s) same h.0.0

    taken_offered : Offered t.paths s p
    taken_offered = is_offered (best plain t s at) (best_is plain plain_laws t s at) takes

    exit_below : exit_of t p < length t.routers
    exit_below = (All-get_or (PathFits (length t.routers)) t.paths p _ taken_offered.0 set_up.sound.sound.paths_fit).at_router

    -- and the packet is there; e is where the path exits
    module _ {count : ℕ} {now : List ℕ} (traced : Traced t s v before at count now) {e : ℕ} (exit : e ≡ exit_of t p) where
      out_here : Traced t s v before at count now → exit_of t p ≡ at → (Some (record { count = count + 1; path = p }) ≡ told (way plain t s v)) × (set now count at ≡ over_written (way plain t s v) before)
      out_here (nowhere none at_first first same) own = absurd (none p taken_offered)
      out_here (going q offered tracing) own =
          let end : Out plain plain_laws t (plain_measured t set_up.sound) s q offered v before enough at count now tracing p takes =
          tracing_out plain plain_laws t (plain_measured t set_up.sound) s q offered v before enough at count now tracing p takes own in (
            ap (λ (k : ℕ). Some (record { count = k; path = p })) (sym end.counted) ∙ ap told (sym end.whole),
            end.held ∙ ap (λ (r : Course). over_written r before) (sym end.whole),
          )

      -- it leaves
      pub traced_out : e ≡ at → (Some (record { count = count + 1; path = p }) ≡ told (way plain t s v)) × (set now count at ≡ over_written (way plain t s v) before)
      traced_out own = out_here traced (sym exit ∙ own)

      on_from_here : Traced t s v before at count now → (exit_of t p ≡ at → ⊥) → (x : ℕ) × (hop plain t at (exit_of t p) ≡ Some x) × Traced t s v before x (count + 1) (set now count at)
      on_from_here (nowhere none at_first first same) other = absurd (none p taken_offered)
      on_from_here (going q offered tracing) other =
          let more : Onward plain plain_laws t (plain_measured t set_up.sound) s q offered v before enough at count now tracing p takes other =
          tracing_on plain plain_laws t (plain_measured t set_up.sound) s q offered v before enough at count now tracing p takes other in
          (more.next, more.hops, going q offered more.further)

      -- it goes on to the next hop, and there is one
      pub traced_on : {q : Option ℕ} → (e ≡ at → ⊥) → Ok q ≡ hop_answer t at e → (x : ℕ) × (q ≡ Some x) × Traced t s v before x (count + 1) (set now count at)
      traced_on {q} other hops =
          let on = on_from_here traced (λ own. other (exit ∙ own)) in
          (on.0, (both_answered t at e q (hop plain t at e) hops).2 ∙ ap (hop plain t at) exit ∙ on.1, on.2)

      pub hop_not_refused : {fault : CallFault} → Err fault ≡ hop_answer t at e → ⊥
      hop_not_refused {fault} h =
          both_not_refused t at e (hop plain t at e) fault (traced_below traced) (subst (λ x. x < length t.routers) (sym exit) exit_below) h

-- the setting, where a table's soundness is merely known
pub setting : (d : Distances) {s v : ℕ} {before : List ℕ} → v < length (declared_by d).routers → 32 ≤ length before → Setting (declared_by d) s v before
setting d lt room = record { sound = known_well_formed (declared_by d) d.table.sound; declared = lt; room = room }

-- the exit point, by the list of paths that was read
pub exit_read : (d : Distances) (table : Table) (xs : List ExitPath) → xs ≡ (declared table).paths → table ≡ d.table → (p : ℕ) → (path_at xs p).exit_point ≡ exit_of (declared_by d) p
exit_read d table xs e f p = ap (λ (ys : List ExitPath). (path_at ys p).exit_point) (e ∙ ap (λ (x : Table). (declared x).paths) f)

-- where a table's soundness is merely known, a packet leaves
module _ (d : Distances) (s : ℕ) where
  pub leaves_here : (v : ℕ) → v < length (declared_by d).routers → LeavesFrom plain (declared_by d) s v
  leaves_here = leaves plain plain_laws (declared_by d) (plain_measured (declared_by d) (known_well_formed (declared_by d) d.table.sound)) s

  pub leaves_always : AlwaysLeaves plain (declared_by d) s
  leaves_always = always_leaves plain plain_laws (declared_by d) (plain_measured (declared_by d) (known_well_formed (declared_by d) d.table.sound)) s
