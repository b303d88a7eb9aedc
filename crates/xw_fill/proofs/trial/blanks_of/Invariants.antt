use Rattle.std.proofs.Common.{◌≡◌, ℕ, ◌<◌, get_or, false, length}
use Rattle.std.specs.Prelude.{is_none}
use Rattle.xw_feas.specs.Board.{entry}
use Rattle.xw_fill.proofs.trial.blanks_of.Given as goal

abbrev pub invariant-loop-pos : goal.invariant-loop-pos
invariant-loop-pos l = record {
  long : length l.blanks ≡ 255;
  each : (k : ℕ) → k < l.pos → get_or l.blanks k false ≡ is_none (entry l.board (get_or l.cells k 0));
}
