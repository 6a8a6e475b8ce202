use Rattle.network.proofs.settled.Settled.best.Goals as goal

pub returns-clause-none : goal.returns-clause-none
returns-clause-none g c = c.best.ensures.none c.args.self.now.at_rest
