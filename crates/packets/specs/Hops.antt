-- The next hop of a packet towards a router. Assumes nothing.
use Rattle.std.specs.Prelude.{◌≡◌, ℕ, Bool, cond, ◌&&◌, List, length, Some, None, Contains, Option, ◌==◌}
use Rattle.std.specs.List.{list_any, position, range_with_len}
use Rattle.costs.specs.Cost.{Cost}
use Rattle.costs.specs.Least.{joins, distance}
use Rattle.layout.specs.Promise.{Lowest}
use Rattle.layout.specs.Table.{Declared}
use Rattle.layout.specs.WellFormed.{Same}
use Rattle.layout.specs.declared.link.Link.{Link}
use Rattle.layout.specs.declared.link.Pair.{Pair}

-- the router that a pair joins to v
abbrev pub other_end : Pair → ℕ → Option ℕ
other_end p v = cond (p.a == v) (Some p.b) (cond (p.b == v) (Some p.a) None)

module _ {C : Type 0} (cost : Cost C) where
  -- whether two costs are the same
  abbrev pub level : C → C → Bool
  level a b = cost.at_most a b && cost.at_most b a

module _ {C : Type 0} (cost : Cost C) (t : Declared) where
  -- whether link l joins v and w, and from v to e it is as far as over l and on from w
  abbrev pub leads : ℕ → ℕ → ℕ → Link → Bool
  leads v e w l = joins l v w && level cost (cost.join (cost.of_link l) (distance cost t w e)) (distance cost t v e)

  -- whether one of the links does
  abbrev pub some_leads : ℕ → ℕ → ℕ → List Link → Bool
  some_leads v e w links = list_any (leads v e w) links

  -- where v sends a packet that is to leave at e: the lowest router to which a link leads so
  abbrev pub hop : ℕ → ℕ → Option ℕ
  hop v e = position (λ w. some_leads v e w t.links) (range_with_len 0 (length t.routers))

  -- a link joins v and w, and its cost and then the distance from w to e are the distance from v to e
  abbrev pub Towards : ℕ → ℕ → ℕ → Type 0
  Towards v e w = (l : Link) × Contains t.links l × Same l.ends (record { a = v; b = w }) × (cost.join (cost.of_link l) (distance cost t w e) ≡ distance cost t v e)

  -- w is the lowest such router
  abbrev pub NextHop : ℕ → ℕ → ℕ → Type 0
  NextHop v e w = Lowest (Towards v e) w

  -- there is none only from a router to itself
  abbrev pub HopIs : ℕ → ℕ → Option ℕ → Type 0
  HopIs v e None = v ≡ e
  HopIs v e (Some w) = NextHop v e w

  -- the router to which link l leads
  abbrev pub led_to : ℕ → ℕ → Link → Option ℕ → Option ℕ
  led_to v e l None = None
  led_to v e l (Some w) = cond (level cost (cost.join (cost.of_link l) (distance cost t w e)) (distance cost t v e)) (Some w) None

  abbrev pub lead_along : ℕ → ℕ → Link → Option ℕ
  lead_along v e l = led_to v e l (other_end l.ends v)
