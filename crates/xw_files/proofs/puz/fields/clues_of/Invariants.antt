use Rattle.std.proofs.Common.{◌≡◌, ◌+◌, ◌-◌, map}
use Rattle.xw_files.specs.Puz.Reading.{clues_at}
use Rattle.xw_files.proofs.PuzLemmas.Clues.{with_front}
use Rattle.xw_files.proofs.puz.fields.clues_of.Given as goal

abbrev pub invariant-loop-index : goal.invariant-loop-index
invariant-loop-index l = with_front (map (λ clue. clue.now) l.clues.items) (clues_at (l.index + 1) (l.count - l.index) l.rest) ≡ clues_at 1 l.count l.bytes
