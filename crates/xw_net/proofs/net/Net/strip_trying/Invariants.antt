use Rattle.std.proofs.Common.{◌≡◌, ◌⊎◌, ℕ, true, false, get_or}
use Rattle.xw_words.specs.Dictionary.{Dictionary}
use Rattle.xw_net.specs.Level.{IsWay}
use Rattle.xw_net.specs.Marks.{IsHolding, IsSlot, IsSetting, IsReady}
use Rattle.xw_net.specs.Nets.{IsShaped, IsLeft, HasBits, IsQueue, left_of, marks_of, pending_in}
use Rattle.xw_net.specs.Seen.{AreSeen}
use Rattle.xw_net.specs.Steps.{IsEmptied}
use Rattle.xw_net.specs.declared.net.Net.{Net}
use Rattle.xw_net.proofs.net.Net.strip_trying.Given as goal

abbrev pub invariant-loop-light : goal.invariant-loop-light
invariant-loop-light g l = record {
  same : g.R.Rows.entries l.rows ≡ g.R.Rows.entries l.fn.rows;
  seen : AreSeen l.board (g.R.Rows.entries l.fn.rows) l.trail.seen.items;
  back : (before : Net) → IsWay l.fn.level l.fn.self before → IsWay l.level l.self before;
  rest : IsLeft l.fn.self l.self;
  shaped : IsShaped l.board l.self;
  bits : HasBits l.board (g.R.Rows.entries l.fn.rows) l.self;
  queue : IsQueue l.self;
  holding : (dictionary : Dictionary) → IsSetting l.board (g.R.Rows.entries l.fn.rows) dictionary → IsHolding l.board dictionary (marks_of l.fn.self) → IsHolding l.board dictionary (marks_of l.self);
  pending : (slot letter : ℕ) → pending_in l.self slot letter ≡ true → (pending_in l.fn.self slot letter ≡ true) ⊎ IsSlot l.board slot;
  ready : (dictionary : Dictionary) → IsSetting l.board (g.R.Rows.entries l.fn.rows) dictionary → IsReady l.board dictionary (marks_of l.fn.self) → IsReady l.board dictionary (marks_of l.self);
  alive : (light : ℕ) → get_or l.search.watched.now light false ≡ true → IsEmptied l.self light → IsEmptied l.fn.self light;
}

abbrev pub decreases-loop-light : goal.decreases-loop-light
decreases-loop-light g l = left_of l.self
