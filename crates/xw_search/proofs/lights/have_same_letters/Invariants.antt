use Rattle.std.proofs.Common.{◌≡◌, ℕ, ◌<◌, get_or, unwrap_or}
use Rattle.xw_feas.specs.Board.{entry}
use Rattle.xw_search.proofs.lights.have_same_letters.Given as goal

abbrev pub invariant-loop-pos : goal.invariant-loop-pos
invariant-loop-pos l = (k : ℕ) → k < l.pos → unwrap_or (entry l.board (get_or l.cells k 0)) 65 ≡ unwrap_or (entry l.board (get_or l.others k 0)) 65
