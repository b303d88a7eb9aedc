use Rattle.std.proofs.Common.{◌≡◌, take, length}
use Rattle.xw_feas.specs.Choices.{base_flags}
use Rattle.xw_plain.proofs.standing.reset_words.Given as goal

abbrev pub invariant-loop-choice : goal.invariant-loop-choice
invariant-loop-choice l = record {
  done : take l.choice l.words ≡ take l.choice (base_flags l.board l.bank.words l.cells);
  long : length l.words ≡ length l.initial.words;
}
