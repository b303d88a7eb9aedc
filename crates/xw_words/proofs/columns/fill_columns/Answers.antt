use Rattle.std.proofs.Common.{◌*◌, ◌<◌, arith}
use Rattle.xw_words.proofs.FillLemmas.{filled_chunk}
use Rattle.xw_words.proofs.columns.fill_columns.Goals as goal

pub loop-chunk-preserved : goal.loop-chunk-preserved
loop-chunk-preserved c =
    let chunk = c.loop-chunk.chunk in
    let some : 64 * chunk < c.args.words = omega (arith, c.loop-chunk-test.true, c.div_ceil-chunk-end.ensures) in
    filled_chunk c.args.word_len c.args.words chunk c.args.letters.now c.loop-chunk.columns c.lengthen.new.columns c.put_words.new.columns c.requires.letters some c.loop-chunk.invariant
    (omega (arith, c.requires.many, c.loop-chunk.auto.columns)) (omega (arith, c.lengthen.auto.columns)) (omega (arith, c.put_words.auto.columns))
    c.lengthen.ensures.long c.lengthen.ensures.bits c.lengthen.ensures.more c.put_words.ensures.len c.put_words.ensures.inside c.put_words.ensures.others c.put_words.ensures.room
