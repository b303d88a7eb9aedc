use Rattle.std.proofs.Common.{◌≡◌, ◌++◌, ℕ, List}
use Rattle.std.specs.Prelude.{flat_map}
use Rattle.xw_answers.specs.Text.{word_line}
use Rattle.xw_answers.proofs.lists.write_words.Given as goal

-- the first words are written or buffered, and the iterator has the others
abbrev pub invariant-loop-word : goal.invariant-loop-word
invariant-loop-word g l = (sent : List ℕ) × record {
  transcript : g.W.Sink.transcript l.sink ≡ g.W.Sink.transcript l.initial.sink ++ sent;
  left : flat_map word_line l.fn.words ≡ (sent ++ l.lines) ++ flat_map word_line l.word-iterator;
  quiet : g.W.Sink.failures l.sink ≡ g.W.Sink.failures l.initial.sink;
}
