use Rattle.std.proofs.Common.{rules, sym, ◌∙◌, ap}
use Rattle.xw_search.specs.Position.{position_of}
use Rattle.xw_search.specs.Lights.{light_count, lacks_words}
use Rattle.xw_search.proofs.BelowLemmas.{first_below-some}
use Rattle.xw_fill.proofs.SearchLemmas.{chosen-Some}
use Rattle.xw_search.proofs.FeasibleWordsLemmas.{AreAnswers-along}
use Rattle.xw_fill.proofs.suggesting.suggest.Goals as goal

pub find_index-requires-clause-light : goal.find_index-requires-clause-light
find_index-requires-clause-light g c = (chosen-Some (position_of (g.E.Feasible.state c.args.engine.now)) c.in-Some-chosen.light (sym c.chosen.ensures ∙ c.in-Some-chosen.is)).0

pub find_index-requires-clause-not_entered : goal.find_index-requires-clause-not_entered
find_index-requires-clause-not_entered g c = (chosen-Some (position_of (g.E.Feasible.state c.args.engine.now)) c.in-Some-chosen.light (sym c.chosen.ensures ∙ c.in-Some-chosen.is)).1

pub returns-in-None-find_index-clause-answers : goal.returns-in-None-find_index-clause-answers
returns-in-None-find_index-clause-answers g c = AreAnswers-along (position_of (g.E.Feasible.state c.find_index.new.engine)) (position_of (g.E.Feasible.state c.args.engine.now)) (g.E.Feasible.answers c.find_index.new.engine) (g.E.Feasible.answers c.args.engine.now) (g.met.E.Feasible.exact c.find_index.new.engine) (g.met.E.Feasible.exact c.args.engine.now) (ap position_of c.find_index.ensures.unchanged)

pub returns-in-Some-find_index-clause-answers : goal.returns-in-Some-find_index-clause-answers
returns-in-Some-find_index-clause-answers g c = AreAnswers-along (position_of (g.E.Feasible.state c.find_index.new.engine)) (position_of (g.E.Feasible.state c.args.engine.now)) (g.E.Feasible.answers c.find_index.new.engine) (g.E.Feasible.answers c.args.engine.now) (g.met.E.Feasible.exact c.find_index.new.engine) (g.met.E.Feasible.exact c.args.engine.now) (ap position_of c.find_index.ensures.unchanged)

pub name_at-requires : goal.name_at-requires
name_at-requires g c = (first_below-some (lacks_words (position_of (g.E.Feasible.state c.args.engine.now))) (light_count (position_of (g.E.Feasible.state c.args.engine.now))) c.in-Some.light (sym c.first_without_words.ensures ∙ c.in-Some.is)).0

pub name_at-name-requires : goal.name_at-name-requires
name_at-name-requires g c = (chosen-Some (position_of (g.E.Feasible.state c.args.engine.now)) c.in-Some-chosen.light (sym c.chosen.ensures ∙ c.in-Some-chosen.is)).0

pub returns-in-Some-clause-suggestion : goal.returns-in-Some-clause-suggestion
returns-in-Some-clause-suggestion g c = search rules
