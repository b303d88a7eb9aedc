use Rattle.std.proofs.Common.{sym, ap, ◌∙◌}
use Rattle.xw_fill.specs.Choices.{fewest_words}
use Rattle.xw_fill.proofs.ChoiceLemmas.{known_after}
use Rattle.xw_fill.proofs.choices.fewest_after.Goals as goal

pub returns-clause-unchanged : goal.returns-clause-unchanged
returns-clause-unchanged g c = c.take_back.ensures (g.E.Feasible.state c.args.engine.now) c.place-trial.ensures.leads

pub returns-clause-fewest : goal.returns-clause-fewest
returns-clause-fewest g c =
    let before = g.E.Feasible.state c.args.engine.now in
    c.fewest_words-fewest.ensures
    ∙ ap fewest_words c.place-trial.ensures.placed
    ∙ sym (known_after before c.args.light c.args.index (g.met.E.Feasible.well_formed c.args.engine.now) c.requires.tried.light_in c.requires.tried.index_in)
