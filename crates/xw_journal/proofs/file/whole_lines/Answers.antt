use Rattle.std.proofs.Common.{rules, arith, ◌-◌, inl, inr}
use Rattle.xw_journal.proofs.WholeLines.{rest_of, whole_lines}
use Rattle.xw_journal.proofs.file.whole_lines.Goals as goal
use Rattle.xw_journal.proofs.file.whole_lines.Goals.{then-loop-end-test+else-bytes-end-ne10, else-loop-end-test}

pub returns-clause-lines : goal.returns-clause-lines
returns-clause-lines c =
    whole_lines c.args.bytes.now c.loop-end.end c.loop-end.invariant.1 (elim c.loop-end-test.branch [
      | then-loop-end-test+else-bytes-end-ne10 w ↦ inr (c.loop-end.end - 1, omega (arith, w.loop-end-test.true), omega (arith, w.loop-end-test.true, c.loop-end.invariant.0), search (rules, w.if-bytes-end-ne10.false))
      | else-loop-end-test w ↦ inl (omega (arith, w.loop-end-test.false))
    ])

pub returns-clause-rest : goal.returns-clause-rest
returns-clause-rest c =
    rest_of c.args.bytes.now c.loop-end.end c.loop-end.invariant.1 (elim c.loop-end-test.branch [
      | then-loop-end-test+else-bytes-end-ne10 w ↦ inr (c.loop-end.end - 1, omega (arith, w.loop-end-test.true), omega (arith, w.loop-end-test.true, c.loop-end.invariant.0), search (rules, w.if-bytes-end-ne10.false))
      | else-loop-end-test w ↦ inl (omega (arith, w.loop-end-test.false))
    ])
