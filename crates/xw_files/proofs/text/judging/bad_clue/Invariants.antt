use Rattle.xw_files.proofs.TextLemmas.ClueIndex.{IndexLeft}
use Rattle.xw_files.proofs.text.judging.bad_clue.Given as goal

abbrev pub invariant-loop-index : goal.invariant-loop-index
invariant-loop-index l = IndexLeft l.grid l.clues l.direction l.index l.before
