use Rattle.std.proofs.Common.{ℕ, ap, replicate}
use Rattle.protocol.specs.Moves.{for_each}
use Rattle.network.proofs.running.actions.nothing_known.Goals as goal

pub returns-clause-known : goal.returns-clause-known
unfolding for_each
returns-clause-known c = ap (λ (s : ℕ). replicate 32 s) c.empty-2.ensures.word

pub returns-clause-advertised : goal.returns-clause-advertised
unfolding for_each
returns-clause-advertised c = ap (λ (s : ℕ). replicate 32 s) c.empty-3.ensures.word
