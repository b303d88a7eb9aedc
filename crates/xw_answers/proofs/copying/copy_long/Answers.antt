use Rattle.std.proofs.Common.{◌-◌, length, arith}
use Rattle.xw_answers.proofs.CopyLemmas.{more_copied, last_copied}
use Rattle.xw_answers.proofs.copying.copy_long.Goals as goal

pub loop-at-preserved : goal.loop-at-preserved
loop-at-preserved c = more_copied c.loop-at.to c.copy_part.new.to c.args.letters.now c.loop-at.at 8 c.loop-at.invariant c.copy_part.ensures.front

pub returns : goal.returns
returns c =
    last_copied c.loop-at.to c.copy_part-2.new.to c.args.letters.now (length c.args.letters.now - 8) c.loop-at.at 8 (omega arith) (omega arith) (omega arith) c.loop-at.invariant c.copy_part-2.ensures.front
