-- What a way costs, the laws that every cost shows, and the plain metric. Assumes nothing.
use Rattle.std.specs.Prelude.{◌≡◌, ℕ, ◌+◌, ◌-◌, ◌^◌, ◌<◌, ◌≤◌, min, Bool, true, false, cond, ◌||◌, nat_lt, nat_le}
use Rattle.layout.specs.declared.link.Link.{Link}
use Rattle.layout.specs.declared.path.ExitPath.{ExitPath}

-- costs are values of C; a way's costs join from its first router on, the exit cost last
pub record Cost (C : Type 0) : Type 0 where
  -- whether a value is a cost
  pub fits : C → Bool
  -- the cost of going nowhere
  pub zero_cost : C
  -- there is no way, or its cost is too large
  pub unreached : C
  pub of_link : Link → C
  pub of_exit : ExitPath → C
  -- one way, and then another
  pub join : C → C → C
  -- whether the first is no more than the second
  pub at_most : C → C → Bool

module _ {C : Type 0} (cost : Cost C) where
  abbrev pub Fits : C → Type 0
  Fits a = cost.fits a ≡ true

  abbrev pub AtMost : C → C → Type 0
  AtMost a b = cost.at_most a b ≡ true

  abbrev pub Less : C → C → Type 0
  Less a b = cost.at_most b a ≡ false

  -- the lesser of two, the first where they are equal
  abbrev pub lesser : C → C → C
  lesser a b = cond (cost.at_most a b) a b

-- the laws of a cost; joining need not commute
pub record CostLaws {C : Type 0} (cost : Cost C) : Type 0 where
  -- the order is total, and no two different costs tie
  pub total : (a b : C) → (cost.at_most a b || cost.at_most b a) ≡ true
  pub no_tie : (a b : C) → AtMost cost a b → AtMost cost b a → a ≡ b
  pub transitive : (a b c : C) → AtMost cost a b → AtMost cost b c → AtMost cost a c
  -- these are costs
  pub zero_fits : Fits cost cost.zero_cost
  pub unreached_fits : Fits cost cost.unreached
  pub link_fits : (l : Link) → l.metric < 2 ^ 16 → Fits cost (cost.of_link l)
  pub exit_fits : (x : ExitPath) → x.exit_cost < 2 ^ 16 → Fits cost (cost.of_exit x)
  pub join_fits : (a b : C) → Fits cost a → Fits cost b → Fits cost (cost.join a b)
  -- joining is associative, and zero is its unit
  pub join_assoc : (a b c : C) → Fits cost a → Fits cost b → Fits cost c → cost.join (cost.join a b) c ≡ cost.join a (cost.join b c)
  pub zero_join : (a : C) → Fits cost a → cost.join cost.zero_cost a ≡ a
  pub join_zero : (a : C) → Fits cost a → cost.join a cost.zero_cost ≡ a
  -- joining never makes a cost smaller
  pub join_first : (a b : C) → Fits cost a → Fits cost b → AtMost cost a (cost.join a b)
  pub join_last : (a b : C) → Fits cost a → Fits cost b → AtMost cost b (cost.join a b)
  -- and keeps the order on both sides
  pub join_before : (a b c : C) → Fits cost a → Fits cost b → Fits cost c → AtMost cost b c → AtMost cost (cost.join a b) (cost.join a c)
  pub join_behind : (a b c : C) → Fits cost a → Fits cost b → Fits cost c → AtMost cost a b → AtMost cost (cost.join a c) (cost.join b c)
  -- unreached is the largest, and absorbs
  pub largest : (a : C) → Fits cost a → AtMost cost a cost.unreached
  pub unreached_join : (a : C) → Fits cost a → cost.join cost.unreached a ≡ cost.unreached
  pub join_unreached : (a : C) → Fits cost a → cost.join a cost.unreached ≡ cost.unreached
  -- a link in front of a cost that is reached makes it larger
  pub farther : (l : Link) (a : C) → 1 ≤ l.metric → l.metric < 2 ^ 16 → Fits cost a → Less cost a cost.unreached → Less cost a (cost.join (cost.of_link l) a)

-- the plain metric: sums of metrics in 32 bits, and anything larger is unreached
abbrev pub plain : Cost ℕ
plain = record {
  fits = λ a. nat_lt a (2 ^ 32);
  zero_cost = 0;
  unreached = 2 ^ 32 - 1;
  of_link = λ l. l.metric;
  of_exit = λ x. x.exit_cost;
  join = λ a b. min (a + b) (2 ^ 32 - 1);
  at_most = nat_le;
}
