-- The way of a packet, in the terms of an operator. Assumes nothing.
use Rattle.std.specs.Prelude.{◌≡◌, ℕ, ◌<◌, List, [], ◌∷◌, length, Some, Option, ◌≢◌}
use Rattle.costs.specs.Cost.{Cost, AtMost}
use Rattle.costs.specs.Least.{direct}
use Rattle.costs.specs.Once.{Once}
use Rattle.layout.specs.Table.{Declared}
use Rattle.selection.specs.Laws.{Offered}
use Rattle.packets.specs.Best.{exit_of, metric, best}
use Rattle.packets.specs.BestPlain.{Nearest}
use Rattle.packets.specs.Hops.{NextHop}
use Rattle.packets.specs.Ways.{way}

module _ {C : Type 0} (cost : Cost C) (t : Declared) where
  -- what the links from each router to the next cost, from v over the others
  abbrev pub links_cost : ℕ → List ℕ → C
  links_cost v [] = cost.zero_cost
  links_cost v (w ∷ met) = cost.join (direct cost t.links v w) (links_cost w met)

  -- a packet goes from a router over the others, each of which sends it on by the path that is chosen for it, and leaves by a path
  pub data Way (choice : ℕ → Option ℕ) : ℕ → List ℕ → ℕ → Type 0 where
    -- the router's own path is chosen: the packet leaves
    out : (v p : ℕ) → choice v ≡ Some p → exit_of t p ≡ v → Way choice v [] p
    -- it goes on to the next hop
    on : (v p w : ℕ) (met : List ℕ) (q : ℕ) → choice v ≡ Some p → (exit_of t p ≢ v) → NextHop cost t v (exit_of t p) w → Way choice w met q → Way choice v (w ∷ met) q

  -- a packet from router v leaves: it meets the others, no router twice, and leaves by the path;
  -- its links cost no more than the metric that v reckons for its own path
  pub record Leaves (choice : ℕ → Option ℕ) (v : ℕ) (met : List ℕ) (path : ℕ) : Type 0 where
    pub goes : Way choice v met path
    pub once : Once (v ∷ met)
    pub cheap : (p : ℕ) → choice v ≡ Some p → AtMost cost (links_cost v met) (metric cost t v p)

  -- each router chooses a candidate of s, and none of a lower metric
  abbrev pub Choosing : ℕ → (ℕ → Option ℕ) → Type 0
  Choosing s choice = (v : ℕ) → v < length t.routers → (p : ℕ) × (choice v ≡ Some p) × Nearest cost t s v p

  -- however ties fall, even differently at different routers, a packet leaves from every router
  abbrev pub AlwaysLeaves : ℕ → Type 0
  AlwaysLeaves s = (choice : ℕ → Option ℕ) → Choosing s choice → (v : ℕ) → v < length t.routers → (met : List ℕ) × (path : ℕ) × Leaves choice v met path

  -- where s has a declared path and each router takes its best one of s, a packet from v leaves, and the way that is followed is its way
  abbrev pub LeavesFrom : ℕ → ℕ → Type 0
  LeavesFrom s v = (q : ℕ) → Offered t.paths s q → (met : List ℕ) × (path : ℕ) × (way cost t s v ≡ Some (v ∷ met, path)) × Leaves (best cost t s) v met path
