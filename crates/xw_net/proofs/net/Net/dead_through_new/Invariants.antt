use Rattle.std.proofs.Common.{◌≡◌, ℕ, true, false}
use Rattle.std.specs.Prelude.{slice_index_or}
use Rattle.xw_feas.specs.Passes.{Passes}
use Rattle.xw_net.specs.Steps.{IsEmptied}
use Rattle.xw_net.proofs.Levels.NewCells.{IsNewBelow}
use Rattle.xw_net.proofs.net.Net.dead_through_new.Given as goal

abbrev pub invariant-loop-at : goal.invariant-loop-at
invariant-loop-at l = (cell light : ℕ) → IsNewBelow l.search.grid.now l.search.written.now l.at cell → Passes l.board cell light → slice_index_or l.search.watched.now light false ≡ true → ¬ IsEmptied l.self light
