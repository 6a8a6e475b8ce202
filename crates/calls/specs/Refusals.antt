-- When a call is refused, and with which fault, in the terms of an operator: where several apply, the smaller number goes first.
use Rattle.std.specs.Prelude.{◌≡◌, ℕ, ◌<◌, ◌≤◌, ◌⊎◌, true, false, length, Err}
use Rattle.faults.specs.declared.call.CallFault.{CallFault}
use Rattle.faults.specs.declared.call.CallFault.TheVariants.{Load as load_fault, UndeclaredPath, UndeclaredRouter, NoRouterNamed, AlreadyInjected, NotInjected, ShortBuffer}
use Rattle.faults.specs.declared.load.LoadFault.{LoadFault}
use Rattle.layout.specs.Promise.{Lowest}
use Rattle.layout.specs.Reading.{table_in}
use Rattle.sets.specs.Members.{member, Empty}
use Rattle.protocol.specs.Network.{State}
use Rattle.calls.specs.declared.action.Action.{Action}
use Rattle.calls.specs.declared.action.Action.TheVariants.{Load, Inject, Withdraw, Restart, Step}
use Rattle.calls.specs.declared.question.Question.{Question}
use Rattle.calls.specs.declared.question.Question.TheVariants.{Best, Metric, Known, Advertised, Injected, Settled}
use Rattle.calls.specs.declared.report.Report.{Report}
use Rattle.calls.specs.declared.report.Report.TheVariants.{Trace, List as list_report}

module _ (s : State) where
  -- path p is not declared, and that is the fault
  abbrev pub NoSuchPath : ℕ → CallFault → Type 0
  NoSuchPath p fault = (length s.table.paths ≤ p) × (fault ≡ UndeclaredPath p)

  -- router v is not declared, and that is the fault
  abbrev pub NoSuchRouter : ℕ → CallFault → Type 0
  NoSuchRouter v fault = (length s.table.routers ≤ v) × (fault ≡ UndeclaredRouter v)

  -- an action is refused with this fault
  abbrev pub RefusesAction : Action → CallFault → Type 0
  RefusesAction (Load bytes) fault = (why : LoadFault) × (table_in bytes.now ≡ Err why) × (fault ≡ load_fault why)
  RefusesAction (Inject p) fault =
      NoSuchPath p fault
      ⊎ ((p < length s.table.paths) × (member s.injected p ≡ true) × (fault ≡ AlreadyInjected p))
  RefusesAction (Withdraw p) fault =
      NoSuchPath p fault
      ⊎ ((p < length s.table.paths) × (member s.injected p ≡ false) × (fault ≡ NotInjected p))
  RefusesAction (Restart v) fault = NoSuchRouter v fault
  RefusesAction (Step w) fault =
      ((v : ℕ) × Lowest (λ u. (member w u ≡ true) × (length s.table.routers ≤ u)) v × (fault ≡ UndeclaredRouter v))
      ⊎ (Empty w × (fault ≡ NoRouterNamed))

  -- a question is refused with this fault
  abbrev pub RefusesQuestion : Question → CallFault → Type 0
  RefusesQuestion (Best v) fault = NoSuchRouter v fault
  RefusesQuestion (Metric v) fault = NoSuchRouter v fault
  RefusesQuestion (Known v) fault = NoSuchRouter v fault
  RefusesQuestion (Advertised v) fault = NoSuchRouter v fault
  RefusesQuestion Injected fault = ⊥
  RefusesQuestion Settled fault = ⊥

  -- a report into a buffer of so many bytes is refused with this fault
  abbrev pub RefusesReport : Report → ℕ → CallFault → Type 0
  RefusesReport (Trace v) room fault =
      NoSuchRouter v fault
      ⊎ ((v < length s.table.routers) × (room < 32) × (fault ≡ ShortBuffer 32))
  RefusesReport list_report room fault = (room < 512) × (fault ≡ ShortBuffer 512)
