use Rattle.std.proofs.Common.{◌≡◌, ℕ, ◌&&◌, ltb}
use Rattle.sets.specs.Members.{member}
use Rattle.tables.specs.Exits.{leaves_at}
use Rattle.tables.proofs.table.Table.exits_at.Given as goal

-- the set has the exit paths among the first
abbrev pub invariant-loop-p : goal.invariant-loop-p
invariant-loop-p l = (k : ℕ) → member l.exits k ≡ (ltb k l.p && leaves_at l.router l.paths k)
