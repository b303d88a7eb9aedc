use Rattle.std.proofs.Common.{◌≡◌, ◌++◌, map, take}
use Rattle.xw_files.specs.Finished.{square_byte}
use Rattle.xw_files.proofs.text.writing.put_squares.Given as goal

abbrev pub invariant-loop-square : goal.invariant-loop-square
invariant-loop-square l = l.out.items ≡ l.fn.out.items ++ map square_byte (take l.square-index l.row)
