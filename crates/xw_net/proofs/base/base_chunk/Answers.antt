use Rattle.std.proofs.Common.{◌+◌, ◌*◌, ◌&&◌, not, length, sym, ap, ◌∙◌}
use Rattle.xw_words.specs.Dictionary.{entry_at}
use Rattle.xw_feas.specs.Board.{agrees}
use Rattle.xw_bits.proofs.BitLemmas.{has_bit-none}
use Rattle.xw_net.proofs.base.base_chunk.Goals as goal

pub returns-then-entered-clause-words : goal.returns-then-entered-clause-words
returns-then-entered-clause-words g c k lt =
    has_bit-none k
    ∙ ap (λ b. not b && ((entry_at (g.R.Rows.entries c.args.rows.now (length c.args.cells.now)) (64 * c.args.chunk + k)).active && agrees c.args.board.now c.args.cells.now (entry_at (g.R.Rows.entries c.args.rows.now (length c.args.cells.now)) (64 * c.args.chunk + k)).word))
    (sym c.if-entered.true ∙ c.requires.entered)

pub returns-else-entered-clause-words : goal.returns-else-entered-clause-words
returns-else-entered-clause-words g c k lt =
    c.base_in.ensures.words k lt
    ∙ ap (λ b. not b && ((entry_at (g.R.Rows.entries c.args.rows.now (length c.args.cells.now)) (64 * c.args.chunk + k)).active && agrees c.args.board.now c.args.cells.now (entry_at (g.R.Rows.entries c.args.rows.now (length c.args.cells.now)) (64 * c.args.chunk + k)).word))
    (sym c.if-entered.false ∙ c.requires.entered)
