use Rattle.std.proofs.Common.{◌≡◌, take, length, map}
use Rattle.std.specs.List.{range_with_len}
use Rattle.xw_words.specs.Dictionary.{known_words}
use Rattle.xw_answers.proofs.record.known_words.Given as goal

abbrev pub invariant-loop-count : goal.invariant-loop-count
invariant-loop-count l = record {
  first : take l.count l.counts ≡ map (λ count. length (known_words l.bank.words count)) (range_with_len 0 l.count);
  long : length l.counts ≡ 256;
}
