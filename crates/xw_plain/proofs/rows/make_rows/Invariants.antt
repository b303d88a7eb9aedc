use Rattle.std.proofs.Common.{◌≡◌, ℕ, ◌<◌, length, get_or, []}
use Rattle.xw_feas.specs.Board.{light_at}
use Rattle.xw_feas.specs.Rows.{row_len}
use Rattle.xw_plain.proofs.rows.make_rows.Given as goal

abbrev pub invariant-loop-light : goal.invariant-loop-light
invariant-loop-light l = record {
  lights : length l.rows.items ≡ l.light;
  choices : (light : ℕ) → light < l.light → length (get_or l.rows.items light []) ≡ row_len l.bank.words l.grown (length (light_at l.board light));
}
