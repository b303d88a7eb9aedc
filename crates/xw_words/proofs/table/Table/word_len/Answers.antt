use Rattle.xw_words.proofs.TableLemmas.{entries_long}
use Rattle.xw_words.proofs.table.Table.word_len.Goals as goal

pub returns-clause-words : goal.returns-clause-words
returns-clause-words c =
    let r = c.self.inside in
    rw (← c.self.view_is) (entries_long r.word_len r.letters.items r.active.bits r.regraded.bits r.marks.items c.self.invariant.letters)
