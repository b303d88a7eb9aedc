use Rattle.std.proofs.Common.{refl, ◌∙◌}
use Rattle.xw_files.proofs.TextLemmas.Writes.{rows_left, rows_end}
use Rattle.xw_files.proofs.text.writing.put_rows.Goals as goal

pub loop-preserved : goal.loop-preserved
loop-preserved c =
    rw c.split_at.ensures.back (rows_left c.args.width c.args.height c.loop.counter c.args.out.now.items c.args.squares.now c.loop.out.items c.put_row.new.out.items c.loop.rest.now c.loop-test.true c.loop.invariant
    (c.in_ok-put_row.ensures ∙ rw c.split_at.ensures.front refl))

pub returns : goal.returns
returns c = rows_end _ _ _ _ _ _ _ c.loop-test.false c.loop.invariant
