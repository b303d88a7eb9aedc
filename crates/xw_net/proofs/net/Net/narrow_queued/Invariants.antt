use Rattle.std.proofs.Common.{◌≡◌, ◌<◌, ◌≤◌, ◌⊎◌, ℕ, true, false}
use Rattle.xw_net.specs.Entered.{IsUnchanged, IsNarrowedIn}
use Rattle.xw_net.specs.Level.{IsWay}
use Rattle.xw_net.specs.Update.{IsSized, KeepsRoom}
use Rattle.xw_net.specs.Worklist.{is_marked}
use Rattle.xw_net.specs.declared.net.Net.{Net}
use Rattle.xw_net.proofs.net.Net.narrow_queued.Given as goal

abbrev pub invariant-loop-light : goal.invariant-loop-light
invariant-loop-light g l = record {
  same : g.R.Rows.entries l.rows ≡ g.R.Rows.entries l.fn.rows;
  back : (before : Net) → IsWay l.fn.level l.fn.self before → IsWay l.level l.self before;
  sized : IsSized l.board (g.R.Rows.entries l.fn.rows) l.self;
  room : KeepsRoom l.fn.self l.self;
  rest : l.self ≡ record l.fn.self { rows = l.self.rows; base = l.self.base; entered = l.self.entered };
  on : (light : ℕ) → light < l.light → is_marked l.fn.self.queue.marks light ≡ true → IsNarrowedIn l.search.grid.now l.board (g.R.Rows.entries l.fn.rows) l.search.written.now light l.fn.self l.self;
  off : (light : ℕ) → (is_marked l.fn.self.queue.marks light ≡ false) ⊎ (l.light ≤ light) → IsUnchanged light l.fn.self l.self;
}
