use Rattle.std.proofs.Common.{sym, ◌∙◌}
use Rattle.xw_search.specs.Position.{position_of}
use Rattle.xw_fill.proofs.SearchLemmas.{chosen-Some}
use Rattle.xw_fill.proofs.choices.fewest_words.Goals as goal

pub word_count-requires : goal.word_count-requires
word_count-requires g c = (chosen-Some (position_of (g.E.Feasible.state c.args.engine.now)) c.in-Some.light (sym c.chosen.ensures ∙ c.in-Some.is)).0
