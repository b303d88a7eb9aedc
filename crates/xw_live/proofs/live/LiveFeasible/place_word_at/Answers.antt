use Rattle.xw_live.proofs.live.LiveFeasible.place_word_at.Goals as goal

pub returns-clause-done : goal.returns-clause-done
returns-clause-done c = c.place_known.ensures.done

pub returns-clause-placed : goal.returns-clause-placed
returns-clause-placed c = c.place_known.ensures.placed
