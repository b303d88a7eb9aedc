use Rattle.std.proofs.Common.{◌∙◌}
use Rattle.xw_search.proofs.StateLemmas.{DiffersInEntries-then, same_state}
use Rattle.xw_fill.proofs.trial.Trial.take_back.Goals as goal

pub returns : goal.returns
returns g c before leads =
    let old = g.E.Feasible.state c.args.engine.now in
    let after = g.E.Feasible.state c.clear_blanks.new.engine in
    same_state before after (DiffersInEntries-then before old after leads.entries c.clear_blanks.ensures.entries) (c.clear_blanks.ensures.back ∙ leads.back)
