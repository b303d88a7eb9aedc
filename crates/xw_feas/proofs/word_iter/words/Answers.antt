use Rattle.std.proofs.Common.{sym, ◌∙◌, ap}
use Rattle.xw_grid.specs.Light.{index_named}
use Rattle.xw_feas.proofs.WordsLemmas.{words_named}
use Rattle.xw_feas.proofs.word_iter.words.Goals as goal

pub returns-in-Some : goal.returns-in-Some
returns-in-Some g c =
    let engine = c.args.engine.now in
    words_named (g.E.Feasible.state engine) (g.E.Feasible.answers engine) (g.met.E.Feasible.exact engine) c.args.name c.in-Some.light
    (ap (λ lights. index_named lights c.args.name) (sym c.lights.ensures) ∙ sym c.index.ensures ∙ c.in-Some.is)
