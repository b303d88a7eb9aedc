use Rattle.std.proofs.Common.{◌≡◌, ◌<◌, ℕ, Option, length, get_or}
use Rattle.xw_grid.specs.declared.cell.Cell.{Cell}
use Rattle.xw_grid.specs.Grid.{index_of}
use Rattle.xw_feas.specs.Flags.{set_has}
use Rattle.xw_net.specs.Spread.{KeepsSpread}
use Rattle.xw_net.specs.Worklist.{is_marked, Grows, MarksOnly}
use Rattle.xw_net.specs.Begin.{IsEdited, IsThroughListed}
use Rattle.xw_net.proofs.begin.edit_cells.Given as goal

abbrev pub invariant-loop-at : goal.invariant-loop-at
invariant-loop-at l = record {
  len : length l.letters ≡ length l.fn.letters;
  queue : Grows l.fn.queue l.queue;
  queued_within : MarksOnly (IsThroughListed l.grid l.board l.cells) l.fn.queue l.queue;
  chain : Grows l.fn.chain l.chain;
  within : MarksOnly (IsThroughListed l.grid l.board l.cells) l.fn.chain l.chain;
  edited : (listed : Cell × Option ℕ) (k : ℕ) → k < l.at → k < length l.cells → get_or l.cells k listed ≡ listed → IsEdited l.board (set_has l.letters) (is_marked l.queue.marks) (is_marked l.chain.marks) (index_of l.grid listed.0) listed.1;
  spread : KeepsSpread l.board l.fn.letters l.fn.chain l.letters l.chain;
}
