use Rattle.std.proofs.Common.{◌≡◌, ℕ, ◌<◌, length, Some}
use Rattle.xw_feas.specs.Flags.{set_has}
use Rattle.xw_feas.specs.Board.{entry}
use Rattle.xw_letters.specs.Letter.{IsLetter}
use Rattle.xw_feas.specs.Feasible.{may_stand}
use Rattle.xw_net.proofs.fill.fill_letters.Given as goal

abbrev pub invariant-loop-cell : goal.invariant-loop-cell
invariant-loop-cell l = record {
  len : length l.letters ≡ length l.fn.letters;
  done : (cell letter : ℕ) → cell < l.cell → set_has l.letters cell letter ≡ may_stand l.board cell letter;
  entries : (cell letter : ℕ) → cell < l.cell → entry l.board cell ≡ Some letter → IsLetter letter;
}
