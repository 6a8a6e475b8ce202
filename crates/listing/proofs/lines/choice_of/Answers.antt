use Rattle.std.proofs.Common.{ℕ, ◌<◌, length, Some, None, Ok, Err, Option, Result, IfOk, IfSome, ◌∙◌, arith}
use Rattle.std.proofs.lemmas.Bool.Decides.{nat_tests}
use Rattle.costs.specs.Cost.{plain}
use Rattle.distances.specs.Answered.{declared_by}
use Rattle.faults.specs.declared.call.CallFault.{CallFault}
use Rattle.forwarding.proofs.Refused.{best_where_declared}
use Rattle.layout.specs.Table.{Declared}
use Rattle.packets.specs.BestPlain.{BestIs}
use Rattle.listing.proofs.lines.choice_of.Goals as goal

-- the best path of a set is declared
path_of : (t : Declared) (s v : ℕ) (r : Result (Option ℕ) CallFault) → IfOk r (BestIs plain t s v) → IfOk r (λ choice. IfSome choice (λ p. p < length t.paths))
path_of t s v (Ok None) is = tt
path_of t s v (Ok (Some p)) is = is.0.0.0
path_of t s v (Err fault) is = tt

pub returns-clause-value : goal.returns-clause-value
returns-clause-value c =
    c.best.ensures.value ∙ best_where_declared (declared_by c.args.distances.now) c.args.set c.requires.all c.args.router
    ∙ grind (arith, nat_tests, c.requires.declared)

pub returns-clause-path : goal.returns-clause-path
returns-clause-path c = path_of (declared_by c.args.distances.now) c.args.set c.args.router c.best.result c.best.ensures.plain
