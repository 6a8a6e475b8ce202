-- When a list is refused, in the terms of an operator. Assumes nothing.
use Rattle.std.specs.Prelude.{◌≡◌, ℕ, ◌<◌, ◌≤◌, ◌⊎◌, List, length}
use Rattle.faults.specs.declared.call.CallFault.{CallFault}
use Rattle.faults.specs.declared.call.CallFault.TheVariants.{UndeclaredPath, ShortBuffer}
use Rattle.layout.specs.Promise.{Lowest}
use Rattle.layout.specs.Table.{Declared}
use Rattle.protocol.specs.Network.{set_of}
use Rattle.selection.specs.Laws.{AllDeclared}
use Rattle.selection.specs.Undeclared.{Undeclared}

-- where each router advertises these sets
module _ (t : Declared) (advertised : List ℕ) where
  -- some router advertises path p, which is not declared
  abbrev pub Stray : ℕ → Type 0
  Stray p = (v : ℕ) × (v < length t.routers) × Undeclared t.paths (set_of advertised v) p

  -- every router advertises declared paths alone
  abbrev pub NoStray : Type 0
  NoStray = (v : ℕ) → v < length t.routers → AllDeclared t.paths (set_of advertised v)

  -- a list is written exactly if every router advertises declared paths alone and the buffer has 512 bytes
  abbrev pub ListAsked : ℕ → Type 0
  ListAsked room = NoStray × (512 ≤ room)

  -- it is refused with this fault: at the lowest path that some router advertises and that is not declared, whatever the buffer; then
  -- for a buffer of fewer bytes
  abbrev pub ListRefused : ℕ → CallFault → Type 0
  ListRefused room fault =
      ((p : ℕ) × Lowest Stray p × (fault ≡ UndeclaredPath p))
      ⊎ (NoStray × (room < 512) × (fault ≡ ShortBuffer 512))
