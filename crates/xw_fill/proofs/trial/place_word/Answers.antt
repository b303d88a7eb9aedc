use Rattle.xw_search.proofs.StateLemmas.{in_grid_light}
use Rattle.xw_fill.proofs.StateLemmas.{known_within, placing_known}
use Rattle.xw_fill.proofs.trial.place_word.Goals as goal

pub place_word_at-requires-clause-light : goal.place_word_at-requires-clause-light
place_word_at-requires-clause-light g c = in_grid_light (g.E.Feasible.state c.args.engine.now).grid c.args.light c.requires.light

pub place_word_at-requires-clause-index : goal.place_word_at-requires-clause-index
place_word_at-requires-clause-index g c = known_within (g.E.Feasible.state c.args.engine.now) c.args.light c.args.index c.requires.light c.requires.index

pub returns-clause-placed : goal.returns-clause-placed
returns-clause-placed g c = (placing_known (g.E.Feasible.state c.args.engine.now) (g.E.Feasible.state c.place_word_at.new.self) c.args.light c.args.index (g.met.E.Feasible.well_formed c.args.engine.now) c.requires.light c.requires.index c.place_word_at.ensures.made).0

pub returns-clause-entries : goal.returns-clause-entries
returns-clause-entries g c = (placing_known (g.E.Feasible.state c.args.engine.now) (g.E.Feasible.state c.place_word_at.new.self) c.args.light c.args.index (g.met.E.Feasible.well_formed c.args.engine.now) c.requires.light c.requires.index c.place_word_at.ensures.made).1
