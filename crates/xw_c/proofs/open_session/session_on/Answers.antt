use Rattle.std.proofs.Common.{◌≡◌, ◌∙◌, refl, sym, false, length, eqb, eqb-true}
use Rattle.xw_grid.specs.Puzzle.{puzzle_view}
use Rattle.xw_session.specs.Opening.{empty_puzzle}
use Rattle.xw_c.proofs.Opened.{has_empty, has_read}
use Rattle.xw_c.proofs.open_session.session_on.Goals as goal

pub returns-then-is_empty-clause-ok : goal.returns-then-is_empty-clause-ok
returns-then-is_empty-clause-ok c =
    let none : length c.args.bytes.now ≡ 0 = eqb-true (length c.args.bytes.now) 0 (sym c.is_empty.ensures ∙ c.if-is_empty.true) in
    (empty_puzzle, has_empty c.args.bytes.now empty_puzzle none refl, c.in_ok-open_empty.ensures.ok)

pub returns-clause-ok : goal.returns-clause-ok
returns-clause-ok c =
    let some : eqb (length c.args.bytes.now) 0 ≡ false = sym c.is_empty.ensures ∙ c.if-is_empty.false in
    let puzzle = puzzle_view c.in_ok-puzzle.puzzle in
    (puzzle, has_read c.args.bytes.now puzzle some c.in_ok-puzzle.ensures.ok, c.in_ok-open_puzzle.ensures.ok)
