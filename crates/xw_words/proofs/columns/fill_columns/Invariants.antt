use Rattle.std.proofs.Common.{◌*◌, min}
use Rattle.xw_words.specs.Columns.{AreFilled}
use Rattle.xw_words.proofs.columns.fill_columns.Given as goal

-- the columns have the words of the chunks so far
abbrev pub invariant-loop-chunk : goal.invariant-loop-chunk
invariant-loop-chunk l = AreFilled l.word_len (min (64 * l.chunk) l.words) l.words l.letters l.columns
