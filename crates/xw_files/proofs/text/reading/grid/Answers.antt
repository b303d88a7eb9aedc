use Rattle.xw_files.proofs.TextLemmas.Shapes.{rows_length}
use Rattle.xw_files.proofs.TextLemmas.Takes.{rows_letters}
use Rattle.xw_files.proofs.text.reading.grid.Goals as goal

pub of_squares-requires-clause-squares : goal.of_squares-requires-clause-squares
of_squares-requires-clause-squares c = rows_length _ _ _ _ _ _ c.in_ok-squares.ensures

pub of_squares-requires-clause-letters : goal.of_squares-requires-clause-letters
of_squares-requires-clause-letters c = rows_letters _ _ _ _ _ _ c.in_ok-squares.ensures
