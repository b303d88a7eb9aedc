use Rattle.xw_files.proofs.TextLemmas.Squares.{SquaresTo}
use Rattle.xw_files.proofs.text.reading.push_squares.Given as goal

abbrev pub invariant-loop-index : goal.invariant-loop-index
invariant-loop-index l = SquaresTo l.line l.index l.fn.squares.items l.squares.items
