-- What happens to a network, and what it is afterwards. Assumes nothing.
use Rattle.std.specs.Prelude.{ℕ, zero, suc, ◌-◌, ◌^◌, cond, List, [], ◌∷◌, ◌++◌, map, bit_and, bit_or, slice_set}
use Rattle.std.specs.List.{range_with_len}
use Rattle.layout.specs.Table.{Declared, nothing}
use Rattle.packets.specs.Best.{exit_of}
use Rattle.selection.specs.Laws.{Keeping}
use Rattle.sets.specs.Members.{member}
use Rattle.protocol.specs.Network.{State, set_of, own_of, learned}

-- a set for each of 32 router numbers
unfoldable pub for_each : (ℕ → ℕ) → List ℕ
for_each f = map f (range_with_len 0 32)

-- the network of a table: nothing is injected, and no router knows a path
abbrev pub loaded : Declared → State
loaded t = record { table = t; injected = 0; known = for_each (λ v. 0); advertised = for_each (λ v. 0) }

-- the network before any table is loaded
abbrev pub begun : State
begun = loaded nothing

-- what a network goes through: a table comes, a path is injected at its exit point or withdrawn there, a router restarts, or the
-- routers of a set are activated at once
pub data Move : Type 0 where
  Loaded : Declared → Move
  Injected : ℕ → Move
  Withdrawn : ℕ → Move
  Restarted : ℕ → Move
  Activated : ℕ → Move

module _ (kept : Keeping) (s : State) where
  -- the network where router v alone knows something else, and advertises what the rule keeps of it
  abbrev pub knowing : ℕ → ℕ → ℕ → State
  knowing injected v set = record { table = s.table; injected = injected; known = slice_set s.known v set; advertised = slice_set s.advertised v (kept s.table.paths set) }

  abbrev pub injected_at : ℕ → ℕ → State
  injected_at p e = knowing (bit_or s.injected (2 ^ p)) e (bit_or (set_of s.known e) (2 ^ p))

  abbrev pub withdrawn_at : ℕ → ℕ → State
  withdrawn_at p e = knowing (bit_and s.injected (2 ^ 64 - 1 - 2 ^ p)) e (bit_and (set_of s.known e) (2 ^ 64 - 1 - 2 ^ p))

  -- router v knows its own injected paths only
  abbrev pub restarted : ℕ → State
  restarted v = knowing s.injected v (own_of s.table s.injected v)

  -- each router of a set learns from its peers as they stood before; the others stay as they are
  abbrev pub activated_known : ℕ → ℕ → ℕ
  activated_known w v = cond (member w v) (learned s.table s.injected s.advertised v) (set_of s.known v)

  abbrev pub activated_advertised : ℕ → ℕ → ℕ
  activated_advertised w v = cond (member w v) (kept s.table.paths (learned s.table s.injected s.advertised v)) (set_of s.advertised v)

  abbrev pub activated : ℕ → State
  activated w = record { table = s.table; injected = s.injected; known = for_each (activated_known w); advertised = for_each (activated_advertised w) }

-- the network after one thing
abbrev pub moved : Keeping → State → Move → State
moved kept s (Loaded t) = loaded t
moved kept s (Injected p) = injected_at kept s p (exit_of s.table p)
moved kept s (Withdrawn p) = withdrawn_at kept s p (exit_of s.table p)
moved kept s (Restarted v) = restarted kept s v
moved kept s (Activated w) = activated kept s w

-- and after one after another
unfoldable pub after_all : Keeping → State → List Move → State
after_all kept s [] = s
after_all kept s (m ∷ ms) = after_all kept (moved kept s m) ms

-- the n routers one by one, in the order of their numbers, and that so many times
abbrev pub one_by_one : ℕ → List ℕ
one_by_one n = map (λ v. 2 ^ v) (range_with_len 0 n)

unfoldable pub all_of : ℕ → ℕ → List ℕ
all_of n zero = []
all_of n (suc m) = one_by_one n ++ all_of n m
