use Rattle.std.proofs.Common.{◌≡◌, length, take}
use Rattle.xw_feas.specs.Board.{spelled}
use Rattle.xw_search.proofs.listing.spell.Given as goal

abbrev pub invariant-loop-pos : goal.invariant-loop-pos
invariant-loop-pos l = record {
  long : length l.letters ≡ 255;
  front : take l.pos l.letters ≡ take l.pos (spelled l.board l.cells);
}
