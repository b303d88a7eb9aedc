use Rattle.std.proofs.Common.{◌≡◌, drop}
use Rattle.xw_feas.specs.Board.{is_wholly_entered}
use Rattle.xw_feas.proofs.board.has_all_entries.Given as goal

abbrev pub invariant-loop-position : goal.invariant-loop-position
invariant-loop-position l = is_wholly_entered l.board l.cells ≡ is_wholly_entered l.board (drop l.position l.cells)
