use Rattle.std.proofs.Common.{◌≡◌, ◌++◌, [], map, drop}
use Rattle.xw_files.specs.Puz.Spelling.{with_nuls}
use Rattle.xw_files.proofs.puz.spell.push_clues.Given as goal

abbrev pub invariant-loop-clue : goal.invariant-loop-clue
invariant-loop-clue l = l.out.items ++ with_nuls (map (λ clue. clue.now) (drop l.clue-index l.clues)) [] ≡ l.initial.out.items ++ with_nuls (map (λ clue. clue.now) l.clues) []
