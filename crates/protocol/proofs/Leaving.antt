-- From every router of a settled network a packet leaves. Assumes nothing.
use Rattle.std.proofs.Common.{◌≡◌, ℕ, ◌<◌, true, length, ap, ◌∙◌, inl, inr, arith}
use Rattle.std.proofs.lemmas.Bool.{both_ways, cases_eq}
use Rattle.costs.specs.Cost.{plain}
use Rattle.costs.proofs.Plain.{plain_laws}
use Rattle.layout.specs.WellFormed.{WellFormed}
use Rattle.packets.specs.Best.{best}
use Rattle.packets.specs.WaysPlain.{Choosing}
use Rattle.packets.proofs.Following.{best_choosing, course_from, met_short}
use Rattle.packets.proofs.Leaving.{leaves_from, way_exists}
use Rattle.packets.proofs.PlainPackets.{plain_measured}
use Rattle.selection.specs.Laws.{Keeping, Laws, Offered}
use Rattle.sets.specs.Members.{member}
use Rattle.sets.proofs.Emptiness.{empty_zero}
use Rattle.sets.proofs.Smallest.{some_member}
use Rattle.protocol.specs.Network.{State}
use Rattle.protocol.specs.Settled.{Settled}
use Rattle.protocol.specs.Consistent.{Consistent}
use Rattle.protocol.proofs.Fitting.{Fits}
use Rattle.protocol.specs.Packets.{best_of, AllLeave}

module _ {kept : Keeping} (laws : Laws kept) {s : State} (fits : Fits s.table) (c : Consistent kept s) (settled : Settled kept s) where
  some_kept : (q : ℕ) → member s.injected q ≡ true → (p : ℕ) × Offered s.table.paths (kept s.table.paths s.injected) p
  some_kept q in_it =
      elim (cases_eq (kept s.table.paths s.injected) 0) [
        | inl none ↦ absurd (both_ways _ (laws.nonempty s.table.paths s.injected c.injected_declared (empty_zero _ none) q) in_it)
        | inr some ↦
            let found = some_member (kept s.table.paths s.injected) (omega (arith, some)) in
            (found.0, (c.injected_declared found.0 (laws.within s.table.paths s.injected c.injected_declared found.0 found.1), found.1))
      ]

  -- a table with a router is a well-formed one
  whole : (v : ℕ) → v < length s.table.routers → WellFormed s.table
  whole v below = record { sound = fits.sound; some_router = omega (arith, below); led = fits.led; connected = fits.connected }

  -- each router chooses among what the rule keeps of all injected paths
  choosing : (q : ℕ) → member s.injected q ≡ true → Choosing plain s.table (kept s.table.paths s.injected) (best_of s)
  choosing q in_it v below =
      let found = some_kept q in_it in
      let one = best_choosing plain plain_laws s.table (plain_measured s.table (whole v below)) (kept s.table.paths s.injected) found.0 found.1 v below in
      (one.0, ap (λ set. best plain s.table set v) (settled v below) ∙ one.1, one.2)

  pub all_leave : AllLeave s
  all_leave q in_it v below =
      let measured = plain_measured s.table (whole v below) in
      let set = kept s.table.paths s.injected in
      let chosen = choosing q in_it in
      let way = way_exists plain plain_laws s.table measured set (best_of s) chosen v below in (
        way.0,
        way.1,
        course_from plain plain_laws s.table measured set (best_of s) chosen (length s.table.routers) v way.0 way.1 below way.2 (met_short plain plain_laws s.table measured set (best_of s) chosen v way.0 way.1 below way.2),
        leaves_from plain plain_laws s.table measured set (best_of s) chosen v way.0 way.1 below way.2,
      )
