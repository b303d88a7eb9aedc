use Rattle.std.proofs.Common.{sym, ap, ◌∙◌, arith}
use Rattle.std.specs.Prelude.{Ok}
use Rattle.xw_grid.specs.Light.{index_named}
use Rattle.xw_feas.specs.Board.{board_of}
use Rattle.xw_feas.specs.Queries.{on_light, next_found}
use Rattle.xw_feas.proofs.BoardLemmas.{length-lights}
use Rattle.xw_feas.proofs.WordsLemmas.{named_within}
use Rattle.xw_feas.proofs.feasible.Feasible.next_word.Goals as goal

pub next_word_at-requires : goal.next_word_at-requires
next_word_at-requires g c =
    let grid = (g.Self.Feasible.state c.args.self.now).grid in
    omega (arith, named_within grid c.args.name c.in-Some.light (ap (λ lights. index_named lights c.args.name) (sym c.lights.ensures) ∙ sym c.index.ensures ∙ c.in-Some.is), length-lights grid)

pub returns-in-None : goal.returns-in-None
returns-in-None g c =
    ap (on_light (λ light. next_found (board_of (g.Self.Feasible.state c.args.self.now).grid) (g.Self.Feasible.state c.args.self.now).words (g.Self.Feasible.answers c.args.self.now) light c.args.from)) (sym c.in-None.is ∙ c.index.ensures ∙ ap (λ lights. index_named lights c.args.name) c.lights.ensures)

pub returns-in-Some : goal.returns-in-Some
returns-in-Some g c =
    ap Ok c.next_word_at.ensures
    ∙ ap (on_light (λ light. next_found (board_of (g.Self.Feasible.state c.args.self.now).grid) (g.Self.Feasible.state c.args.self.now).words (g.Self.Feasible.answers c.args.self.now) light c.args.from)) (sym c.in-Some.is ∙ c.index.ensures ∙ ap (λ lights. index_named lights c.args.name) c.lights.ensures)
