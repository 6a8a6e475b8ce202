-- The steps that calls make, for rounds of calls.
use Rattle.std.specs.Prelude.{ℕ, List, [], ◌∷◌, flat_map, Some, Option}
use Rattle.protocol.specs.Moves.{all_of}
use Rattle.calls.specs.declared.action.Action.TheVariants.{Step}
use Rattle.calls.specs.declared.answer.Answer.{Answer}
use Rattle.calls.specs.declared.answer.Answer.TheVariants.{Done}
use Rattle.calls.specs.declared.call.Call.{Call}
use Rattle.calls.specs.declared.call.Call.TheVariants.{Act, Settle}
use Rattle.calls.specs.declared.turn.Outcome.{Outcome}
use Rattle.calls.specs.declared.turn.Turn.{Turn}

-- a step of the routers of a set, where it was accepted
abbrev pub step_by : ℕ → Answer → List ℕ
step_by w Done = w ∷ []
step_by w _ = []

-- the steps of a call in a network of n routers: settling counts as the steps that it makes
abbrev pub steps_by : ℕ → Call → Option Outcome → List ℕ
steps_by n (Act (Step w)) (Some o) = step_by w o.answer
steps_by n Settle (Some o) = all_of n 7
steps_by n _ _ = []

-- the steps of calls that were made, by their turns
abbrev pub steps_in : ℕ → List Turn → List ℕ
steps_in n = flat_map (λ t. steps_by n t.call t.outcome)
