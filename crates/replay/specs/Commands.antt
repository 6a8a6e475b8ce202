-- The call that a command words. Assumes nothing.
use Rattle.std.specs.Prelude.{ℕ, List}
use Rattle.std.specs.Borrow.{Bor}
use Rattle.calls.specs.declared.action.Action.TheVariants.{Load as load, Inject as inject, Withdraw as withdraw, Restart as restart, Step as step}
use Rattle.calls.specs.declared.call.Call.{Call}
use Rattle.calls.specs.declared.call.Call.TheVariants.{Act, Settle as settle, Reopen as reopen, Ask as ask, Report as report_into}
use Rattle.replay.specs.declared.command.Command.{Command}
use Rattle.replay.specs.declared.command.Command.TheVariants.{Load, Inject, Withdraw, Restart, Step, Settle, Reopen, Ask, Report}

-- where the table of the command's file has these bytes, and its buffer begins at this place
abbrev pub call_of : Bor (List ℕ) → ℕ → Command → Call
call_of table start (Load file) = Act (load table)
call_of table start (Inject path) = Act (inject path)
call_of table start (Withdraw path) = Act (withdraw path)
call_of table start (Restart router) = Act (restart router)
call_of table start (Step named) = Act (step named)
call_of table start Settle = settle
call_of table start Reopen = reopen
call_of table start (Ask question) = ask question
call_of table start (Report report len) = report_into report (record { start = start; len = len })
