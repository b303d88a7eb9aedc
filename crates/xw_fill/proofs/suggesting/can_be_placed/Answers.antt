use Rattle.xw_fill.proofs.suggesting.can_be_placed.Goals as goal

pub returns-clause-unchanged : goal.returns-clause-unchanged
returns-clause-unchanged g c = c.take_back.ensures (g.E.Feasible.state c.args.engine.now) c.place-trial.ensures.leads
