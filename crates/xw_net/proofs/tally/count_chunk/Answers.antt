use Rattle.std.proofs.Common.{sym, ap, ◌∙◌, arith}
use Rattle.std.proofs.lemmas.Nat.{and_le_l}
use Rattle.xw_bits.specs.Bits.{has_bit}
use Rattle.xw_bits.proofs.BitLemmas.{has_bit-and}
use Rattle.xw_net.proofs.Nets.TalliedLetters.{tally_none, tally_both}
use Rattle.xw_net.proofs.tally.count_chunk.Goals as goal

pub returns-then-words-eq0-clause-tally : goal.returns-then-words-eq0-clause-tally
returns-then-words-eq0-clause-tally g c =
    tally_none c.args.row.now.bits (g.R.Rows.entries c.args.rows.now c.args.len) c.args.position c.args.letter c.args.chunk
    (λ k lt. ap (λ w. has_bit w k) (sym c.if-words-eq0.true) ∙ c.chunk-words.ensures k lt)

pub returns-clause-tally : goal.returns-clause-tally
returns-clause-tally g c =
    tally_both c.args.row.now.bits (g.R.Rows.entries c.args.rows.now c.args.len) c.args.position c.args.letter c.args.chunk c.chunk-words.result c.column.result _ (omega (arith, and_le_l c.chunk-words.result c.column.result, c.chunk-words.type_inv))
    (λ k lt. has_bit-and c.chunk-words.result c.column.result k) c.chunk-words.ensures c.column.ensures.bits
