use Rattle.std.proofs.Common.{◌≡◌, drop}
use Rattle.xw_feas.specs.Board.{agrees}
use Rattle.xw_plain.proofs.standing.agrees_with.Given as goal

abbrev pub invariant-loop-position : goal.invariant-loop-position
invariant-loop-position l = agrees l.board l.cells l.word ≡ agrees l.board (drop l.position l.cells) (drop l.position l.word)
