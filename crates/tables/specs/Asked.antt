-- Answers about routers by their numbers, refused where one is not declared. Assumes nothing.
use Rattle.std.specs.Prelude.{ℕ, min, cond, ◌&&◌, length, Err, Result, nat_lt}
use Rattle.faults.specs.declared.call.CallFault.{CallFault}
use Rattle.faults.specs.declared.call.CallFault.TheVariants.{UndeclaredRouter}
use Rattle.layout.specs.Table.{Declared}

-- an answer about router v, refused where v is not declared
abbrev pub of_router : {X : Type 0} → Declared → ℕ → Result X CallFault → Result X CallFault
of_router t v answer = cond (nat_lt v (length t.routers)) answer (Err (UndeclaredRouter v))

-- the one of a and b that is not among the first n, and the lower where neither is
abbrev pub undeclared : ℕ → ℕ → ℕ → ℕ
undeclared n a b = cond (nat_lt a n) b (cond (nat_lt b n) a (min a b))

-- an answer about routers a and b, refused where one of them is not declared
abbrev pub of_routers : {X : Type 0} → Declared → ℕ → ℕ → Result X CallFault → Result X CallFault
of_routers t a b answer = cond (nat_lt a (length t.routers) && nat_lt b (length t.routers)) answer (Err (UndeclaredRouter (undeclared (length t.routers) a b)))
