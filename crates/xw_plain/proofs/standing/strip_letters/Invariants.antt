use Rattle.xw_feas.specs.Choices.{choices}
use Rattle.xw_feas.specs.Standing.{KeepsLettersBelow}
use Rattle.xw_plain.proofs.standing.strip_letters.Given as goal

abbrev pub invariant-loop-position : goal.invariant-loop-position
invariant-loop-position l =
    KeepsLettersBelow l.words (choices l.board l.bank.words l.cells) l.cells l.initial.letters l.letters l.removed l.position
