use Rattle.std.proofs.Common.{arith}
use Rattle.xw_words.proofs.ColumnLemmas.{no_position}
use Rattle.xw_words.proofs.row.Row.column_of.Goals as goal

pub returns-then-position-word_len-clause-none : goal.returns-then-position-word_len-clause-none
returns-then-position-word_len-clause-none c = λ index.
    rw (← c.self.view_is) (no_position c.self.inside.table.word_len c.self.inside.table.entries c.args.position c.args.letter index c.word_len.ensures.words (omega (arith, c.word_len.ensures.value, c.if-position-word_len.true)))
