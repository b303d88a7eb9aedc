use Rattle.std.proofs.Common.{◌≡◌, ◌+◌, ◌++◌, length, take}
use Rattle.xw_answers.specs.Text.{letters_at}
use Rattle.xw_answers.proofs.lights.push_letters.Given as goal

-- the letters of the first cells are appended
abbrev pub invariant-loop-k : goal.invariant-loop-k
invariant-loop-k l = record {
  long : length l.line ≡ length l.initial.line + l.k;
  is : l.line ≡ l.initial.line ++ letters_at l.board (take l.k l.cells);
}
