use Rattle.std.proofs.Common.{not, ◌&&◌, length, ap, subst, sym, ◌∙◌}
use Rattle.xw_bits.specs.Bits.{RowOfBits}
use Rattle.xw_words.specs.Dictionary.{entry_at}
use Rattle.xw_feas.specs.Board.{agrees, is_wholly_entered, light_at}
use Rattle.xw_net.specs.Base.{KeepsEntry}
use Rattle.xw_net.proofs.BaseRows.BaseBits.{all_read}
use Rattle.xw_net.proofs.BaseRows.FilledRows.{filled_bit}
use Rattle.xw_net.proofs.base.read_filled.Goals as goal

pub returns-then-has_all_entries-clause-bits : goal.returns-then-has_all_entries-clause-bits
returns-then-has_all_entries-clause-bits g c was =
    let board = c.args.board.now in
    let cells = light_at c.args.board.now c.args.light in
    let entries = g.R.Rows.entries c.args.rows.now (length cells) in
    let entered = ap (is_wholly_entered board) (sym c.light-cells.ensures.cells) ∙ sym c.has_all_entries.ensures ∙ c.if-has_all_entries.true in
    ap (λ (r : RowOfBits). r.bits) c.keep_count.ensures
    ∙ all_read board cells entries c.clear.new.self.bits (c.clear.ensures.len ∙ c.requires.bits)
    (λ k. c.clear.ensures.bits k ∙ sym (ap (λ b. let word = entry_at entries k in not b && (word.active && agrees board cells word.word)) entered))

pub returns-else-has_all_entries-clause-bits : goal.returns-else-has_all_entries-clause-bits
returns-else-has_all_entries-clause-bits g c was =
    let board = c.args.board.now in
    let cells = light_at c.args.board.now c.args.light in
    let entries = g.R.Rows.entries c.args.rows.now in
    let open_ = ap (is_wholly_entered board) (sym c.light-cells.ensures.cells) ∙ sym c.has_all_entries.ensures ∙ c.if-has_all_entries.false in
    let keeps = subst (λ cs. KeepsEntry board cs entries c.args.cell (length cs) c.args.row.now.bits c.keep_entry.new.row.bits) c.light-cells.ensures.cells c.keep_entry.ensures.bits in
    ap (λ (r : RowOfBits). r.bits) c.keep_count-else-has_all_entries.ensures
    ∙ all_read board cells (entries (length cells)) c.keep_entry.new.row.bits (c.keep_entry.ensures.len ∙ c.requires.bits)
    (filled_bit was.before board cells entries c.requires.long c.args.cell was.more c.args.row.now.bits c.keep_entry.new.row.bits was.row keeps open_)
