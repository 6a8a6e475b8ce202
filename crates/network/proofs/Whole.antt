-- What every network has, and what it holds.
use Rattle.std.proofs.Common.{◌≡◌, ℕ, List, set, Some, None, Option, ap, ◌∙◌}
use Rattle.distances.specs.Answered.{declared_by}
use Rattle.layout.specs.Table.{Declared}
use Rattle.layout.proofs.Certain.{known_well_formed}
use Rattle.layout.specs.declared.path.ExitPath.{ExitPath}
use Rattle.peering.specs.declared.peering.Peering.{Peering}
use Rattle.selection.specs.Laws.{Keeping, Laws, AllDeclared, declared_of}
use Rattle.selection.proofs.DeclaredPart.{declared_same}
use Rattle.protocol.proofs.Fitting.{Fits}
use Rattle.protocol.specs.Moves.{for_each, loaded, knowing}
use Rattle.protocol.specs.Network.{State}
use Rattle.protocol.proofs.Moving.{begun_fits}
use Rattle.network.specs.Held.{table_of}

-- the table that is held fits
pub fits_of : {kept : Keeping} → Laws kept → (o : Option Peering) → Fits (table_of o)
fits_of laws None = begun_fits laws
fits_of laws (Some p) =
    let w = known_well_formed (declared_by p.distances) p.distances.table.sound in
    record { sound = w.sound; led = w.led; connected = w.connected }

-- the paths that are held, and of a set of them nothing is dropped
module _ (kept : Keeping) (s : State) where
  pub keeps_known : {a : ℕ} (known : ℕ) (paths : List ExitPath) → paths ≡ s.table.paths → AllDeclared s.table.paths known → a ≡ kept paths (declared_of paths known) → a ≡ kept s.table.paths known
  keeps_known known paths same declared is =
      is ∙ ap (λ (xs : List ExitPath). kept xs (declared_of xs known)) same ∙ ap (kept s.table.paths) (declared_same s.table.paths known declared)

  -- one router knows another set
  pub knows : {a : ℕ} (injected v known : ℕ) → a ≡ kept s.table.paths known →
      record { table = s.table; injected = injected; known = set s.known v known; advertised = set s.advertised v a } ≡ knowing kept s injected v known
  knows injected v known is = ap (λ (x : ℕ). record { table = s.table; injected = injected; known = set s.known v known; advertised = set s.advertised v x }) is

-- nobody knows a path
pub nothing_is : (t : Declared) {i : ℕ} {k a : List ℕ} → i ≡ 0 → k ≡ for_each (λ v. 0) → a ≡ for_each (λ v. 0) → record { table = t; injected = i; known = k; advertised = a } ≡ loaded t
nothing_is t {i} {k} {a} none known advertised =
    ap (λ (x : ℕ). record { table = t; injected = x; known = k; advertised = a }) none
    ∙ ap (λ (x : List ℕ). record { table = t; injected = 0; known = x; advertised = a }) known
    ∙ ap (λ (x : List ℕ). record { table = t; injected = 0; known = for_each (λ v. 0); advertised = x }) advertised
