use Rattle.std.proofs.Common.{get_or, []}
use Rattle.xw_feas.specs.Flags.{set_has, KeepsBelow}
use Rattle.xw_feas.specs.Choices.{choices, HasLetters}
use Rattle.xw_plain.proofs.standing.strip_words.Given as goal

abbrev pub invariant-loop-choice : goal.invariant-loop-choice
invariant-loop-choice l =
    KeepsBelow (λ k. HasLetters (set_has l.letters) l.cells (get_or (choices l.board l.bank.words l.cells) k [])) l.initial.words l.words l.removed l.choice
