use Rattle.std.proofs.Common.{length, refl, sym, arith}
use Rattle.std.specs.Prelude.{None}
use Rattle.xw_words.proofs.DictionaryLemmas.{judged-Ok}
use Rattle.xw_words.proofs.LoaderLemmas.{AreKept-added, words_in-added, words_in-err, answer_in, table_len}
use Rattle.xw_words.proofs.loader.Loader.add_word.Goals as goal

pub invariant_of-self : goal.invariant_of-self
invariant_of-self c =
    let word = c.args.word.now in
    let judged = judged-Ok None (length word) tt _ (sym c.in_ok-judge_length.ensures) in
    AreKept-added c.self.inside.tables.items (length word) c.index_mut-table.result.now c.add_word.new.self c.index_mut-table.ensures.value word c.args.grade c.add_word.result c.self.invariant judged.1 judged.2 c.add_word.ensures.word_len refl c.requires c.add_word.ensures.answer c.add_word.ensures.ok c.add_word.ensures.err

pub returns-clause-ok : goal.returns-clause-ok
returns-clause-ok c =
    let word = c.args.word.now in
    let judged = judged-Ok None (length word) tt _ (sym c.in_ok-judge_length.ensures) in
    rw (← c.self.view_is) (words_in-added c.self.inside.tables.items (length word) c.index_mut-table.result.now c.add_word.new.self c.index_mut-table.ensures.value word c.args.grade c.add_word.result c.self.invariant judged.2 refl c.add_word.ensures.ok)

pub returns-clause-err : goal.returns-clause-err
returns-clause-err c =
    rw (← c.self.view_is) (words_in-err c.self.inside.tables.items (length c.args.word.now) c.index_mut-table.result.now c.add_word.new.self c.index_mut-table.ensures.value _ c.add_word.result c.add_word.ensures.err)

pub add_word-requires-clause-length : goal.add_word-requires-clause-length
add_word-requires-clause-length c =
    let judged = judged-Ok None (length c.args.word.now) tt _ (sym c.in_ok-judge_length.ensures) in
    sym (table_len c.self.inside.tables.items (length c.args.word.now) c.index_mut-table.result.now c.index_mut-table.result.now c.index_mut-table.ensures.value c.self.invariant judged.2)

pub add_word-requires-clause-long : goal.add_word-requires-clause-long
add_word-requires-clause-long c =
    let judged = judged-Ok None (length c.args.word.now) tt _ (sym c.in_ok-judge_length.ensures) in
    omega (arith, judged.1, table_len c.self.inside.tables.items (length c.args.word.now) c.index_mut-table.result.now c.index_mut-table.result.now c.index_mut-table.ensures.value c.self.invariant judged.2)

pub returns-clause-answer : goal.returns-clause-answer
returns-clause-answer c =
    let word = c.args.word.now in
    let judged = judged-Ok None (length word) tt _ (sym c.in_ok-judge_length.ensures) in
    rw (← c.self.view_is) (answer_in c.self.inside.tables.items (length word) c.index_mut-table.result.now c.add_word.new.self c.index_mut-table.ensures.value word c.add_word.result c.self.invariant judged.1 judged.2 refl c.add_word.ensures.answer)
