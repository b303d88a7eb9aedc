use Rattle.std.proofs.Common.{◌+◌, ◌*◌, ◌≤◌, length, sym, ◌∙◌, arith}
use Rattle.xw_words.specs.Row.{entries_of}
use Rattle.xw_words.proofs.RowLemmas.{length-entries_of}
use Rattle.xw_bits.proofs.BitLemmas.{has_bit-none}
use Rattle.xw_words.proofs.ColumnLemmas.{inactive}
use Rattle.xw_words.proofs.table.Table.active_chunk.Goals as goal

pub returns-then-chunk-div_ceil : goal.returns-then-chunk-div_ceil
returns-then-chunk-div_ceil c = λ k lt.
    let r = c.self.inside in
    let entries = entries_of r.word_len r.letters.items r.active.bits r.regraded.bits r.marks.items in
    let past : length entries ≤ 64 * c.args.chunk + k = omega (arith, length-entries_of r.word_len r.letters.items r.active.bits r.regraded.bits r.marks.items, c.len.ensures.value, c.div_ceil.ensures, c.if-chunk-div_ceil.true) in
    rw (← c.self.view_is) (has_bit-none k ∙ sym (inactive entries (64 * c.args.chunk + k) past))
