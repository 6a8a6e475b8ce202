-- What every network keeps, whatever is asked of it. Assumes nothing.
use Rattle.std.specs.Prelude.{◌≡◌, ℕ, ◌<◌, ◌≤◌, true, length}
use Rattle.packets.specs.Best.{exit_of}
use Rattle.selection.specs.Laws.{Keeping, AllDeclared}
use Rattle.sets.specs.Members.{member}
use Rattle.protocol.specs.Network.{State, set_of}

pub record Consistent (kept : Keeping) (s : State) : Type 0 where
  pub few_routers : length s.table.routers ≤ 32
  -- a set for each of 32 router numbers
  pub all_known : length s.known ≡ 32
  pub all_advertised : length s.advertised ≡ 32
  -- only declared paths are injected or known, and only by declared routers
  pub injected_declared : AllDeclared s.table.paths s.injected
  pub known_declared : (v : ℕ) → AllDeclared s.table.paths (set_of s.known v)
  pub no_router : (v : ℕ) → length s.table.routers ≤ v → set_of s.known v ≡ 0
  -- a router knows an exit path of its own exactly if that path is injected
  pub own : (p : ℕ) → p < length s.table.paths → member (set_of s.known (exit_of s.table p)) p ≡ member s.injected p
  -- a router advertises what the rule keeps of what it knows
  pub advertises : (v : ℕ) → set_of s.advertised v ≡ kept s.table.paths (set_of s.known v)

-- a set of declared routers
abbrev pub Declares : State → ℕ → Type 0
Declares s w = (v : ℕ) → member w v ≡ true → v < length s.table.routers
