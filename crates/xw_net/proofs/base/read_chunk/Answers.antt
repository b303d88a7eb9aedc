use Rattle.std.proofs.Common.{◌+◌, ◌*◌, ◌/◌, length, ap, ◌∙◌, arith}
use Rattle.xw_words.specs.Dictionary.{entry_at}
use Rattle.xw_feas.specs.Board.{light_at}
use Rattle.xw_net.specs.Base.{is_base_word}
use Rattle.xw_net.proofs.BaseRows.BaseBits.{chunk_read, none_to_read}
use Rattle.xw_net.proofs.base.read_chunk.Goals as goal

pub returns-then-index-len-clause-bits : goal.returns-then-index-len-clause-bits
returns-then-index-len-clause-bits g c right =
    none_to_read c.args.board.now (light_at c.args.board.now c.args.light) (g.R.Rows.entries c.args.rows.now (length (light_at c.args.board.now c.args.light))) c.args.row.now.bits c.args.index c.requires.bits
    (omega (arith, c.if-index-len.true, c.len.ensures.value)) right

pub returns-clause-bits : goal.returns-clause-bits
returns-clause-bits g c right =
    chunk_read c.args.board.now (light_at c.args.board.now c.args.light) (g.R.Rows.entries c.args.rows.now (length (light_at c.args.board.now c.args.light))) c.args.row.now.bits c.set_chunk.new.self.bits c.args.index c.base_chunk-words.result c.requires.bits
    c.set_chunk.ensures.len c.set_chunk.ensures.inside c.set_chunk.ensures.others
    (λ k lt. c.base_chunk-words.ensures.words k lt ∙ ap (λ cells. is_base_word c.args.board.now cells (entry_at (g.R.Rows.entries c.args.rows.now (length cells)) (64 * (c.args.index / 64) + k))) c.light-cells.ensures.cells)
    right
