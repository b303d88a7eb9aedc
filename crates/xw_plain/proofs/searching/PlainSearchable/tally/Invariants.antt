use Rattle.std.proofs.Common.{◌≡◌, ◌≤◌, [], eqb, get_or, take, count_by}
use Rattle.xw_feas.specs.AnswersOf.{items_where}
use Rattle.xw_feas.specs.Board.{board_of, light_at}
use Rattle.xw_feas.specs.Choices.{choices}
use Rattle.xw_plain.proofs.searching.PlainSearchable.tally.Given as goal

-- the words so far are counted
abbrev pub invariant-loop-choice : goal.invariant-loop-choice
invariant-loop-choice l = record {
  tally : l.total ≡ count_by (λ word. eqb (get_or word l.position 0) l.letter) (items_where (take l.choice (get_or l.self.words.items l.light [])) (choices (board_of l.self.position.grid) l.self.position.bank.words (light_at (board_of l.self.position.grid) l.light)));
  small : l.total ≤ l.choice;
}
