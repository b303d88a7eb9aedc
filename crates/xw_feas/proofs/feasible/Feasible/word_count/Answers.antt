use Rattle.std.proofs.Common.{sym, ap, ◌∙◌, arith}
use Rattle.std.specs.Prelude.{Ok, length}
use Rattle.xw_grid.specs.Light.{index_named}
use Rattle.xw_feas.specs.Queries.{on_light, words_of}
use Rattle.xw_feas.proofs.BoardLemmas.{length-lights}
use Rattle.xw_feas.proofs.WordsLemmas.{named_within}
use Rattle.xw_feas.proofs.feasible.Feasible.word_count.Goals as goal

pub word_count_at-requires : goal.word_count_at-requires
word_count_at-requires g c =
    let grid = (g.Self.Feasible.state c.args.self.now).grid in
    omega (arith, named_within grid c.args.name c.in-Some.light (ap (λ lights. index_named lights c.args.name) (sym c.lights.ensures) ∙ sym c.index.ensures ∙ c.in-Some.is), length-lights grid)

pub returns-in-None : goal.returns-in-None
returns-in-None g c =
    ap (on_light (λ light. length (words_of (g.Self.Feasible.answers c.args.self.now) light))) (sym c.in-None.is ∙ c.index.ensures ∙ ap (λ lights. index_named lights c.args.name) c.lights.ensures)

pub returns-in-Some : goal.returns-in-Some
returns-in-Some g c =
    ap Ok c.word_count_at.ensures
    ∙ ap (on_light (λ light. length (words_of (g.Self.Feasible.answers c.args.self.now) light))) (sym c.in-Some.is ∙ c.index.ensures ∙ ap (λ lights. index_named lights c.args.name) c.lights.ensures)
