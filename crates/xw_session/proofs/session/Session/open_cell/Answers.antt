use Rattle.std.proofs.Common.{ℕ, List, Ok, ◌≡◌, subst}
use Rattle.xw_letters.specs.LetterSet.{letters_in}
use Rattle.xw_grid.specs.declared.cell.Cell.{Cell}
use Rattle.xw_grid.specs.Grid.{index_of}
use Rattle.xw_search.specs.Position.{position_of}
use Rattle.xw_search.specs.FeasibleLetters.{feasible_letters}
use Rattle.xw_session.specs.State.{SessionState}
use Rattle.xw_session.specs.Reply.{on_open}
use Rattle.xw_session.proofs.Engine.{open_letters}
use Rattle.xw_session.proofs.session.Session.open_cell.Goals as goal

pub returns-clause-ok : goal.returns-clause-ok
returns-clause-ok g c =
    let left = c.self.inside in
    let set = c.in_ok-letters.letters in
    let found = open_letters (g.E.Feasible.state left.engine) (g.E.Feasible.answers left.engine) c.in_ok-cell.cell set (g.met.E.Feasible.exact left.engine) c.in_ok-letters.ensures in
    let there = subst (λ (s : SessionState). ((lines : List ℕ) → on_open s.engine.grid c.in_ok-cell.cell lines ≡ Ok lines) × (letters_in set ≡ feasible_letters (position_of s.engine) (index_of s.engine.grid c.in_ok-cell.cell))) c.self.view_is found in
    let same = c.in_ok-cell.ensures.ok.0 in
    let here = subst (λ (cell : Cell). ((lines : List ℕ) → on_open c.args.self.now.engine.grid cell lines ≡ Ok lines) × (letters_in set ≡ feasible_letters (position_of c.args.self.now.engine) (index_of c.args.self.now.engine.grid cell))) same there in
    (same, here.0, here.1)
