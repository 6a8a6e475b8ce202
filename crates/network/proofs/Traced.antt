-- In a settled network a packet goes where each router sends it by what it advertises itself.
use Rattle.std.proofs.Common.{◌≡◌, ℕ, ◌<◌, ◌&&◌, cond, List, length, Ok, Err, sym, ap, ◌∙◌, inl, inr, arith}
use Rattle.std.proofs.lemmas.Bool.{cases_lt}
use Rattle.std.proofs.lemmas.Bool.Decides.{nat_tests}
use Rattle.costs.specs.Cost.{plain}
use Rattle.costs.proofs.Plain.{plain_laws}
use Rattle.distances.specs.Answered.{of_router}
use Rattle.faults.specs.declared.call.CallFault.TheVariants.{ShortBuffer}
use Rattle.std.specs.Prelude.{nat_lt, nat_le}
use Rattle.forwarding.specs.Answers.{told, over_written}
use Rattle.packets.specs.Best.{best}
use Rattle.packets.specs.Ways.{Course, way}
use Rattle.packets.proofs.SameChoices.{course_same}
use Rattle.selection.specs.Laws.{Keeping}
use Rattle.calls.specs.Calls.{trace_at, trace_bytes_at}
use Rattle.protocol.specs.Network.{State, set_of}
use Rattle.protocol.specs.Packets.{best_of, way_of}
use Rattle.protocol.specs.Settled.{Settled}

module _ (kept : Keeping) (s : State) (settled : Settled kept s) where
  -- all routers choose from one set, so it is no matter whose it is
  same_way : (v : ℕ) → v < length s.table.routers → way plain s.table (set_of s.advertised v) v ≡ way_of s v
  same_way v below =
      course_same plain plain_laws s.table (best plain s.table (set_of s.advertised v)) (best_of s)
      (λ u low. ap (λ (set : ℕ). best plain s.table set u) (settled v below ∙ sym (settled u low))) (length s.table.routers) v below

  pub traces : (v room : ℕ) → of_router s.table v (cond (nat_le 32 room) (Ok (told (way plain s.table (set_of s.advertised v) v))) (Err (ShortBuffer 32))) ≡ trace_at s v room
  traces v room =
      elim (cases_lt v (length s.table.routers)) [
        | inl below ↦ ap (λ (c : Course). of_router s.table v (cond (nat_le 32 room) (Ok (told c)) (Err (ShortBuffer 32)))) (same_way v below)
        | inr past ↦ grind (arith, nat_tests, past)
      ]

  pub traces_bytes :
      (v : ℕ) (before : List ℕ) →
      cond (nat_lt v (length s.table.routers) && nat_le 32 (length before)) (over_written (way plain s.table (set_of s.advertised v) v) before) before ≡ trace_bytes_at s v before
  traces_bytes v before =
      elim (cases_lt v (length s.table.routers)) [
        | inl below ↦ ap (λ (c : Course). cond (nat_lt v (length s.table.routers) && nat_le 32 (length before)) (over_written c before) before) (same_way v below)
        | inr past ↦ grind (arith, nat_tests, past)
      ]
