-- Loading a table, and settling its network. Assumes nothing.
use Rattle.std.specs.Prelude.{⊤}
use Rattle.std.specs.Result.{is_err}
use Rattle.std.proofs.Common.{◌≡◌, false, Ok, Err, Result, refl, ap, ◌∙◌}
use Rattle.std.proofs.lemmas.Bool.{both_ways}
use Rattle.faults.specs.declared.call.CallFault.{CallFault}
use Rattle.faults.specs.declared.load.LoadFault.{LoadFault}
use Rattle.layout.specs.Table.{Declared}
use Rattle.selection.specs.Laws.{Keeping}
use Rattle.calls.specs.Calls.{loading_by, done}
use Rattle.protocol.specs.Moves.{loaded}
use Rattle.protocol.specs.Network.{State}
use Rattle.settle.specs.Report.{AllInjected}

-- where a table is loaded, the network is its own
pub loaded_is : (kept : Keeping) (s after : State) (r : Result Declared LoadFault) → (Ok tt, after) ≡ done kept s (loading_by r) → (t : Declared) × (r ≡ Ok t) × (after ≡ loaded t)
loaded_is kept s after (Ok t) is = (t, refl, ap (λ (r : Result ⊤ CallFault × State). r.1) is)
loaded_is kept s after (Err fault) is = absurd (both_ways false refl (ap (λ (r : Result ⊤ CallFault × State). is_err r.0) is))

-- a network with the same table and injected paths has all injected too
pub still_injected : (t : Declared) (s settled : State) → AllInjected t s → settled.table ≡ s.table → settled.injected ≡ s.injected → AllInjected t settled
still_injected t s settled all table injected =
    record { table = table ∙ all.table; injected = injected ∙ all.injected }
