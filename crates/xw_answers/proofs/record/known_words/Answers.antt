use Rattle.std.proofs.Common.{length-set, arith}
use Rattle.xw_answers.proofs.Recording.{one_more_count, all_counts}
use Rattle.xw_answers.proofs.record.known_words.Goals as goal

pub loop-count-preserved : goal.loop-count-preserved
loop-count-preserved c =
    record {
      first = one_more_count c.args.bank.now.words c.loop-count.counts c.loop-count.count c.known.result (omega (arith, c.loop-count.invariant.long)) c.loop-count.invariant.first c.known.ensures;
      long = rw length-set c.loop-count.invariant.long;
    }

pub returns : goal.returns
returns c = all_counts c.args.bank.now.words c.loop-count.counts c.loop-count.count (omega arith) (omega arith) c.loop-count.invariant.first c.loop-count.invariant.long
