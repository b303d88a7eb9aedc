use Rattle.std.proofs.Common.{◌∙◌, sym, ap, take, drop}
use Rattle.std.proofs.lemmas.List.{take-append-drop}
use Rattle.xw_lines.specs.Cut.{lines_of}
use Rattle.xw_journal.proofs.Groups.{scanned-more, scanned-bytes, scanned-kept}
use Rattle.xw_journal.proofs.group.complete.Goals as goal

pub loop-end-preserved : goal.loop-end-preserved
loop-end-preserved c =
    scanned-more c.args.bytes.now c.loop-end.from c.in-Some.end c.in-Some.ensures.within.0 c.in-Some.ensures.within.1 c.in-Some.ensures.ends c.loop-end.open c.open_after-open.result c.loop-end.invariant c.open_after-open.ensures

pub returns-clause-lines : goal.returns-clause-lines
returns-clause-lines c =
    ap (λ n. lines_of (take n c.args.bytes.now)) c.unwrap_or.ensures
    ∙ scanned-kept c.args.bytes.now c.loop-end.from c.in_default.ensures.none c.loop-end.open c.loop-end.invariant

pub returns-clause-bytes : goal.returns-clause-bytes
returns-clause-bytes c =
    ap (λ n. take n c.args.bytes.now) c.unwrap_or.ensures
    ∙ scanned-bytes c.args.bytes.now c.loop-end.from c.in_default.ensures.none c.loop-end.open c.loop-end.invariant

pub returns-clause-front : goal.returns-clause-front
returns-clause-front c = (drop c.unwrap_or.result c.args.bytes.now, sym (take-append-drop c.unwrap_or.result c.args.bytes.now))
