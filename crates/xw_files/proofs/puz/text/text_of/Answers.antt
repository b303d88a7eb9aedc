use Rattle.std.proofs.Common.{arith, ◌+◌}
use Rattle.xw_files.proofs.PuzLemmas.Texts.{text_at-found, text_at-none, range_from-drop}
use Rattle.xw_files.proofs.puz.text.text_of.Goals as goal

pub returns-then-byte-eq0 : goal.returns-then-byte-eq0
returns-then-byte-eq0 c =
    rw (range_from-drop c.args.bytes.now (c.loop-end.end + 1)) (text_at-found c.args.which c.args.bytes.now c.loop-end.end (omega arith) c.if-byte-eq0.true c.loop-end.invariant)

pub returns : goal.returns
returns c = text_at-none c.args.which c.args.bytes.now (λ k h. c.loop-end.invariant k (omega arith))
