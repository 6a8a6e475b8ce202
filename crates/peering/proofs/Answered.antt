-- What is answered of a declared router is not refused. Assumes nothing.
use Rattle.std.proofs.Common.{◌≡◌, ℕ, ◌<◌, ltb, length, Ok, Err, Result, IfOk, sym, refl, ap, ◌∙◌, subst, arith}
use Rattle.std.specs.Result.{ResultUnwrapsOrElse}
use Rattle.std.proofs.lemmas.Bool.{lt-ltb, cond-true}
use Rattle.faults.specs.declared.call.CallFault.{CallFault}
use Rattle.faults.specs.declared.call.CallFault.TheVariants.{UndeclaredRouter}
use Rattle.layout.specs.Table.{Declared}
use Rattle.tables.specs.Asked.{of_router}

pub of_declared :
    {X : Type 0} (t : Declared) (v router : ℕ) (answer : X) (f : ℕ → X) → (v ≡ router) × (v < length t.routers) → answer ≡ f v →
    ◌≡◌ {A = Result X CallFault} (Ok answer) (of_router t router (Ok (f router)))
of_declared t v router answer f index is =
    ap (λ x. Ok x) (is ∙ ap f index.0)
    ∙ sym (cond-true (ltb router (length t.routers)) (Ok (f router)) (Err (UndeclaredRouter router))
    (lt-ltb router (length t.routers) (subst (λ w. w < length t.routers) index.0 index.1)))

err_not_ok : {X : Type 0} (fault : CallFault) (x : X) → ◌≡◌ {A = Result X CallFault} (Err fault) (Ok x) → ⊥
err_not_ok fault x e = let z : ◌≡◌ {A = ℕ} 0 1 = cc in omega arith

unwrapped : {X : Type 0} (r : Result X CallFault) (P Q : X → Type 0) (x y : X) → r ≡ Ok x → ResultUnwrapsOrElse r P y → IfOk r Q → Q y
unwrapped (Ok z) P Q x y e is holds = subst Q (sym is) holds
unwrapped (Err fault) P Q x y e is holds = absurd (err_not_ok fault x e)

-- what is promised of the answer holds of what is taken out of it
pub declared_holds :
    {X : Type 0} (t : Declared) (v : ℕ) (answer : X) (r : Result X CallFault) (P Q : X → Type 0) (y : X) → v < length t.routers →
    r ≡ of_router t v (Ok answer) → ResultUnwrapsOrElse r P y → IfOk r Q → Q y
declared_holds t v answer r P Q y below e =
    unwrapped r P Q answer y (e ∙ sym (of_declared t v v answer (λ _. answer) (refl, below) refl))
