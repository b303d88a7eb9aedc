use Rattle.std.proofs.Common.{◌∙◌}
use Rattle.xw_files.proofs.PuzLemmas.BoardLemmas.{squares_at-length, squares_at-letters}
use Rattle.xw_files.proofs.puz.board.grid_of.Goals as goal

pub of_squares-requires-clause-squares : goal.of_squares-requires-clause-squares
of_squares-requires-clause-squares c = rw (c.from-width.ensures, c.from-height.ensures) (squares_at-length _ 0 _ _ c.in_ok-squares.ensures ∙ c.requires.solution)

pub of_squares-requires-clause-letters : goal.of_squares-requires-clause-letters
of_squares-requires-clause-letters c = squares_at-letters c.args.header.now.width 0 c.args.solution.now c.in_ok-squares.squares.items c.in_ok-squares.ensures
