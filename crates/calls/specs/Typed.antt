-- What holds of every call: its bytes are read as is promised of bytes, and a set of routers is a word of 32 bits.
use Rattle.std.specs.Prelude.{⊤, ◌^◌, ◌<◌}
use Rattle.layout.specs.Promise.{Reads}
use Rattle.layout.specs.Reading.{table_in}
use Rattle.calls.specs.declared.action.Action.{Action}
use Rattle.calls.specs.declared.action.Action.TheVariants.{Load, Inject, Withdraw, Restart, Step}
use Rattle.calls.specs.declared.call.Call.{Call}
use Rattle.calls.specs.declared.call.Call.TheVariants.{Act, Settle, Reopen, Ask, Report}

-- of an action
abbrev pub TypedAction : Action → Type 0
TypedAction (Load bytes) = Reads bytes.now (table_in bytes.now)
TypedAction (Inject p) = ⊤
TypedAction (Withdraw p) = ⊤
TypedAction (Restart v) = ⊤
TypedAction (Step w) = w < 2 ^ 32

abbrev pub Typed : Call → Type 0
Typed (Act a) = TypedAction a
Typed Settle = ⊤
Typed Reopen = ⊤
Typed (Ask q) = ⊤
Typed (Report r part) = ⊤
