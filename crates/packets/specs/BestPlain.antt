-- The best path of a router, in the terms of an operator. Assumes nothing.
use Rattle.std.specs.Prelude.{◌≡◌, ℕ, ◌<◌, ◌⊎◌, Some, None, Option, ◌≢◌}
use Rattle.costs.specs.Cost.{Cost, AtMost, Less}
use Rattle.layout.specs.Table.{Declared}
use Rattle.selection.specs.Laws.{Offered}
use Rattle.packets.specs.Best.{exit_of, speaker_of, metric}

-- path p counts at router v: it is declared and in s, and leaves at v itself unless no path of s does
abbrev pub Candidate : Declared → ℕ → ℕ → ℕ → Type 0
Candidate t s v p = Offered t.paths s p × ((exit_of t p ≡ v) ⊎ ((q : ℕ) → Offered t.paths s q → exit_of t q ≢ v))

module _ {C : Type 0} (cost : Cost C) (t : Declared) where
  -- the lower metric wins, then the lower speaker, then the lower number
  abbrev pub Beats : ℕ → ℕ → ℕ → Type 0
  Beats v p q =
      Less cost (metric cost t v p) (metric cost t v q)
      ⊎ ((metric cost t v p ≡ metric cost t v q) × ((speaker_of t p < speaker_of t q) ⊎ ((speaker_of t p ≡ speaker_of t q) × (p < q))))

  -- p is a candidate, and no candidate beats it
  abbrev pub Best : ℕ → ℕ → ℕ → Type 0
  Best s v p = Candidate t s v p × ((q : ℕ) → Candidate t s v q → Beats v q p → ⊥)

  -- there is no path exactly if the set has none that is declared
  abbrev pub BestIs : ℕ → ℕ → Option ℕ → Type 0
  BestIs s v None = (q : ℕ) → Offered t.paths s q → ⊥
  BestIs s v (Some p) = Best s v p

  -- p is a candidate, and no candidate has a lower metric, however ties fall
  abbrev pub Nearest : ℕ → ℕ → ℕ → Type 0
  Nearest s v p = Candidate t s v p × ((q : ℕ) → Candidate t s v q → AtMost cost (metric cost t v p) (metric cost t v q))
