use Rattle.std.proofs.Common.{◌≡◌, drop}
use Rattle.xw_files.specs.Puz.Board.{squares_at}
use Rattle.xw_files.proofs.PuzLemmas.Fronts.{after}
use Rattle.xw_files.proofs.puz.board.squares_of.Given as goal

abbrev pub invariant-loop-index : goal.invariant-loop-index
invariant-loop-index l = after l.squares.items (squares_at l.width l.index (drop l.index l.bytes)) ≡ squares_at l.width 0 l.bytes
