use Rattle.std.proofs.Common.{◌≡◌, ℕ, ◌<◌, get_or, [], Some}
use Rattle.xw_feas.specs.Flags.{set_has}
use Rattle.xw_feas.specs.Board.{light_at, entry}
use Rattle.xw_letters.specs.Letter.{IsLetter}
use Rattle.xw_feas.specs.Feasible.{may_stand}
use Rattle.xw_feas.specs.Choices.{base_flags}
use Rattle.xw_feas.specs.Standing.{HasRows}
use Rattle.xw_plain.proofs.standing.reset.Given as goal

abbrev pub invariant-loop-light : goal.invariant-loop-light
invariant-loop-light l = record {
  rows : HasRows l.board l.bank.words l.words l.letters;
  done : (light : ℕ) → light < l.light → get_or l.words light [] ≡ base_flags l.board l.bank.words (light_at l.board light);
}

abbrev pub invariant-loop-cell : goal.invariant-loop-cell
invariant-loop-cell l = record {
  rows : HasRows l.board l.bank.words l.words l.letters;
  done : (cell letter : ℕ) → cell < l.cell → set_has l.letters cell letter ≡ may_stand l.board cell letter;
  entries : (cell letter : ℕ) → cell < l.cell → entry l.board cell ≡ Some letter → IsLetter letter;
}
