use Rattle.xw_search.specs.Position.{position_of}
use Rattle.std.proofs.Common.{sym, ◌∙◌, ap, Some}
use Rattle.xw_search.proofs.Shaped.{distinct_words}
use Rattle.xw_fill.proofs.WordsLemmas.{next_listed, next_none}
use Rattle.xw_search.proofs.StateLemmas.{in_grid_light}
use Rattle.xw_fill.proofs.scan.next_word_index.Goals as goal

pub returns-in-None : goal.returns-in-None
returns-in-None g c = next_none (position_of (g.E.Feasible.state c.args.engine.now)) (g.E.Feasible.answers c.args.engine.now) c.args.light c.args.from (g.met.E.Feasible.exact c.args.engine.now) (distinct_words (g.E.Feasible.state c.args.engine.now).words (g.met.E.Feasible.well_formed c.args.engine.now).dictionary) c.requires.light c.requires.not_entered (sym c.next_word_at.ensures ∙ c.in-None.is)

pub returns-in-Listed : goal.returns-in-Listed
returns-in-Listed g c = next_listed (position_of (g.E.Feasible.state c.args.engine.now)) (g.E.Feasible.answers c.args.engine.now) c.args.light c.args.from c.in-Listed.index (g.met.E.Feasible.exact c.args.engine.now) (distinct_words (g.E.Feasible.state c.args.engine.now).words (g.met.E.Feasible.well_formed c.args.engine.now).dictionary) c.requires.light c.requires.not_entered (sym c.next_word_at.ensures ∙ c.in-Some.is ∙ ap Some c.in-Listed.is)

pub next_word_at-requires : goal.next_word_at-requires
next_word_at-requires g c = in_grid_light (g.E.Feasible.state c.args.engine.now).grid c.args.light c.requires.light
