use Rattle.std.proofs.Common.{◌∙◌, sym, ap, arith}
use Rattle.xw_feas.specs.State.{State}
use Rattle.xw_grid.specs.Light.{index_named}
use Rattle.xw_feas.proofs.WordsLemmas.{named_within}
use Rattle.xw_search.specs.Position.{position_of}
use Rattle.xw_search.proofs.FeasibleWordsLemmas.{AreAnswers-along}
use Rattle.xw_fill.proofs.ReasonLemmas.{alive_count}
use Rattle.xw_fill.proofs.why.reason.Goals as goal

pub word_count-count-requires : goal.word_count-count-requires
word_count-count-requires g c = named_within (g.E.Feasible.state c.args.engine.now).grid c.args.name c.in-Some.light (ap (λ lights. index_named lights c.args.name) (sym c.lights.ensures) ∙ sym c.index.ensures ∙ c.in-Some.is)

pub returns-then-count-gt0-clause-refused : goal.returns-then-count-gt0-clause-refused
returns-then-count-gt0-clause-refused g c = (
  c.in-Some.light,
  ap (λ lights. index_named lights c.args.name) (sym c.lights.ensures) ∙ sym c.index.ensures ∙ c.in-Some.is,
  alive_count (position_of (g.E.Feasible.state c.args.engine.now)) c.in-Some.light c.word_count-count.result c.word_count-count.ensures (λ none. omega (arith, none, c.if-count-gt0.true)),
)

pub new-requires : goal.new-requires
new-requires g c = named_within (g.E.Feasible.state c.args.engine.now).grid c.args.name c.in-Some.light (ap (λ lights. index_named lights c.args.name) (sym c.lights.ensures) ∙ sym c.index.ensures ∙ c.in-Some.is)

pub find-requires-clause-light : goal.find-requires-clause-light
find-requires-clause-light g c = named_within (g.E.Feasible.state c.args.engine.now).grid c.args.name c.in-Some.light (ap (λ lights. index_named lights c.args.name) (sym c.lights.ensures) ∙ sym c.index.ensures ∙ c.in-Some.is)

pub returns-clause-answers : goal.returns-clause-answers
returns-clause-answers g c =
    let before = g.E.Feasible.state c.args.engine.now in
    let now = g.E.Feasible.state c.find.new.engine in
    AreAnswers-along (position_of now) (position_of before) (g.E.Feasible.answers c.find.new.engine) (g.E.Feasible.answers c.args.engine.now) (g.met.E.Feasible.exact c.find.new.engine) (g.met.E.Feasible.exact c.args.engine.now) (ap (λ (s : State). position_of s) c.find.ensures.unchanged)
