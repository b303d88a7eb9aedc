use Rattle.std.proofs.Common.{length, ap, ◌∙◌}
use Rattle.xw_search.specs.Position.{position_of}
use Rattle.xw_search.proofs.FeasibleWordsLemmas.{answered_words}
use Rattle.xw_search.proofs.StateLemmas.{in_grid_light}
use Rattle.xw_search.proofs.lights.word_count.Goals as goal

pub word_count_at-requires : goal.word_count_at-requires
word_count_at-requires g c = in_grid_light (g.E.Feasible.state c.args.engine.now).grid c.args.light c.requires

pub returns : goal.returns
returns g c =
    let engine = c.args.engine.now in
    c.word_count_at.ensures ∙ ap length (answered_words (position_of (g.E.Feasible.state engine)) (g.E.Feasible.answers engine) (g.met.E.Feasible.exact engine) c.args.light)
