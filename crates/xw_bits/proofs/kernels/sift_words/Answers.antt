use Rattle.std.proofs.Common.{◌&&◌, not, cond}
use Rattle.xw_bits.proofs.BitLemmas.{words_have-combined}
use Rattle.xw_bits.proofs.Combined.{sifted, sifted_whole, has_bit-sifted}
use Rattle.xw_bits.proofs.Summaries.{marked_long}
use Rattle.xw_bits.proofs.kernels.sift_words.Goals as goal
use Rattle.xw_bits.proofs.kernels.sift_words.Goals.{then-keep, else-keep}

pub sift_word-requires-clause-long : goal.sift_word-requires-clause-long
sift_word-requires-clause-long c = marked_long c.loop-chunk.summary c.in-Some.chunk c.in-Some.ensures.found.1

pub returns-clause-bits : goal.returns-clause-bits
returns-clause-bits c =
    let keep = c.args.keep in
    words_have-combined (sifted keep) (λ x y. x && cond keep y (not y)) (has_bit-sifted keep) c.loop-chunk.words c.args.words.now c.args.other.now c.type_inv.other
    (sifted_whole keep c.args.words.now c.args.other.now c.loop-chunk.from c.loop-chunk.words c.loop-chunk.summary c.args.summary.now c.loop-chunk.invariant c.in_default.ensures.none)
