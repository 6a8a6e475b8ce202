-- What turns tell of a network once their calls were made, in the terms of an operator.
use Rattle.std.specs.Prelude.{◌≡◌, ℕ, ◌⊎◌, List, ◌∷◌, All, Ok, Some}
use Rattle.std.specs.Borrow.{Bor}
use Rattle.layout.specs.Reading.{table_in}
use Rattle.layout.specs.Table.{Declared}
use Rattle.protocol.specs.Moves.{Move}
use Rattle.protocol.specs.Moves.Move.{Loaded, Injected, Withdrawn, Restarted, Activated}
use Rattle.calls.specs.declared.action.Action.{Action}
use Rattle.calls.specs.declared.action.Action.TheVariants.{Load, Inject, Withdraw, Restart, Step}
use Rattle.calls.specs.declared.answer.Answer.{Answer}
use Rattle.calls.specs.declared.answer.Answer.TheVariants.{Done}
use Rattle.calls.specs.declared.call.Call.TheVariants.{Act}
use Rattle.calls.specs.declared.turn.Outcome.{Outcome}
use Rattle.calls.specs.declared.turn.Turn.{Turn}

-- the turn tells this answer
abbrev pub Told : Answer → Turn → Type 0
Told answer t = (o : Outcome) × (t.outcome ≡ Some o) × (o.answer ≡ answer)

-- it tells that this action was accepted
abbrev pub Accepts : Action → Turn → Type 0
Accepts a t = (t.call ≡ Act a) × Told Done t

-- it tells that a table was loaded
abbrev pub Loads : Turn → Type 0
Loads t = (bytes : Bor (List ℕ)) × Accepts (Load bytes) t

-- it tells that path q is no longer injected: it was withdrawn, or a table was loaded
abbrev pub Ends : ℕ → Turn → Type 0
Ends q t = Accepts (Withdraw q) t ⊎ Loads t

-- it tells of a change: a load, an inject, a withdraw or a restart that was accepted
abbrev pub Changes : Turn → Type 0
Changes t =
    Loads t
    ⊎ (((p : ℕ) × Accepts (Inject p) t)
    ⊎ (((p : ℕ) × Accepts (Withdraw p) t) ⊎ ((v : ℕ) × Accepts (Restart v) t)))

-- some turn tells that path q was injected, and none behind it that it no longer is
pub data Stands (q : ℕ) : List Turn → Type 0 where
  last : {t : Turn} {behind : List Turn} → Accepts (Inject q) t → All (λ u. Ends q u → ⊥) behind → Stands q (t ∷ behind)
  later : {t : Turn} {behind : List Turn} → Stands q behind → Stands q (t ∷ behind)

-- some turn tells that the table with these declarations was loaded, and none behind it that one was
pub data LastLoaded (d : Declared) : List Turn → Type 0 where
  last : {t : Turn} {behind : List Turn} (bytes : Bor (List ℕ)) → Accepts (Load bytes) t → table_in bytes.now ≡ Ok d → All (λ u. Loads u → ⊥) behind → LastLoaded d (t ∷ behind)
  later : {t : Turn} {behind : List Turn} → LastLoaded d behind → LastLoaded d (t ∷ behind)

-- an accepted action is this move
abbrev pub IsMove : Action → Move → Type 0
IsMove (Load bytes) m = (d : Declared) × (table_in bytes.now ≡ Ok d) × (m ≡ Loaded d)
IsMove (Inject p) m = m ≡ Injected p
IsMove (Withdraw p) m = m ≡ Withdrawn p
IsMove (Restart v) m = m ≡ Restarted v
IsMove (Step w) m = m ≡ Activated w
