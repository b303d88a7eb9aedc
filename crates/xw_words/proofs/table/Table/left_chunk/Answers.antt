use Rattle.std.proofs.Common.{◌≡◌, ◌+◌, ◌*◌, length, sym, ap, ◌∙◌, arith}
use Rattle.xw_words.specs.Dictionary.{entry_at, is_left}
use Rattle.xw_words.specs.Table.{Table}
use Rattle.xw_words.proofs.RowLemmas.{length-entries_of, marks-entries_of}
use Rattle.xw_words.proofs.table.Table.left_chunk.Goals as goal

pub returns : goal.returns
returns c k lt within =
    let r = c.self.inside in
    let index = 64 * c.args.chunk + k in
    let known = length-entries_of r.word_len r.letters.items r.active.bits r.regraded.bits r.marks.items in
    let long : length c.args.self.now.entries ≡ length r.active.bits = sym (ap (λ (table : Table). length table.entries) c.self.view_is) ∙ known in
    c.left_chunk.ensures k lt (omega (arith, within, long, c.self.invariant.marks))
    ∙ sym (ap (is_left c.args.least) (marks-entries_of r.word_len r.letters.items r.active.bits r.regraded.bits r.marks.items index c.self.invariant.marks))
    ∙ ap (λ (table : Table). is_left c.args.least (entry_at table.entries index)) c.self.view_is
