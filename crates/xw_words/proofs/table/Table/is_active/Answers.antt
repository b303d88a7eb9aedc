use Rattle.std.proofs.Common.{◌≤◌, length, sym, ◌∙◌, arith}
use Rattle.std.proofs.lemmas.Bool.{le-ltb}
use Rattle.xw_words.proofs.TableLemmas.{inactive_past}
use Rattle.xw_words.proofs.table.Table.is_active.Goals as goal

pub returns-else-index-len : goal.returns-else-index-len
returns-else-index-len c =
    let r = c.self.inside in
    let past : length r.active.bits ≤ c.args.index = omega (arith, c.len.ensures.value, c.if-index-len.false) in
    rw (← c.self.view_is) (le-ltb c.args.index c.len.result c.if-index-len.false ∙ sym (inactive_past r.word_len r.letters.items r.active.bits r.regraded.bits r.marks.items c.args.index past))
