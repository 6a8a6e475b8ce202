-- Where all routers choose the same, a packet goes the same way. Assumes nothing.
use Rattle.std.proofs.Common.{◌≡◌, ℕ, zero, suc, ◌<◌, cond, eqb, [], ◌∷◌, length, Some, None, Option, refl, ap, ◌∙◌}
use Rattle.costs.specs.Cost.{Cost, CostLaws}
use Rattle.layout.specs.Table.{Declared}
use Rattle.packets.specs.Best.{exit_of}
use Rattle.packets.specs.Hops.{hop}
use Rattle.packets.specs.Ways.{Course, after, onward, sent, course}
use Rattle.packets.proofs.NextHops.{Found, hop_found}

module _ {C : Type 0} (cost : Cost C) (laws : CostLaws cost) (t : Declared) where
  onward_same :
      (go go' : ℕ → Course) → ((w : ℕ) → w < length t.routers → go w ≡ go' w) → (v e : ℕ) (o : Option ℕ) → Found cost laws t v e o → onward go o ≡ onward go' o
  onward_same go go' same v e None h = refl
  onward_same go go' same v e (Some w) h = same w h.0

  sent_same : (go go' : ℕ → Course) → ((w : ℕ) → w < length t.routers → go w ≡ go' w) → (v : ℕ) (o : Option ℕ) → sent cost t go v o ≡ sent cost t go' v o
  sent_same go go' same v None = refl
  sent_same go go' same v (Some p) =
      ap (λ (x : Course). cond (eqb (exit_of t p) v) (Some (v ∷ [], p)) (after v x))
      (onward_same go go' same v (exit_of t p) (hop cost t v (exit_of t p)) (hop_found cost laws t v (exit_of t p)))

  module _ (choice choice' : ℕ → Option ℕ) (same : (u : ℕ) → u < length t.routers → choice u ≡ choice' u) where
    pub course_same : (n v : ℕ) → v < length t.routers → course cost t choice n v ≡ course cost t choice' n v
    unfolding course
    course_same zero v below = refl
    course_same (suc n) v below =
        ap (sent cost t (course cost t choice n) v) (same v below)
        ∙ sent_same (course cost t choice n) (course cost t choice' n) (course_same n) v (choice' v)
