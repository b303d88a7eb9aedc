use Rattle.std.proofs.Common.{arith}
use Rattle.xw_search.proofs.Entering.{open_within}
use Rattle.xw_search.proofs.LetterLemmas.{letters_are}
use Rattle.xw_search.proofs.choice.letters_at.Goals as goal

pub letters_at-requires : goal.letters_at-requires
letters_at-requires g c =
    let engine = c.args.engine.now in
    let is_grid = (g.met.E.Feasible.well_formed engine).grid in
    omega (arith, open_within (g.E.Feasible.state engine).grid c.args.cell is_grid c.requires, is_grid.squares)

pub returns : goal.returns
returns g c =
    let engine = c.args.engine.now in
    letters_are (g.E.Feasible.state engine) (g.E.Feasible.answers engine) c.args.cell c.letters_at.result (g.met.E.Feasible.exact engine) c.letters_at.ensures
