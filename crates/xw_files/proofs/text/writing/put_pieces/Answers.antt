use Rattle.std.proofs.Common.{sym, ◌∙◌}
use Rattle.xw_files.proofs.TextLemmas.Writes.{pieces_step, pieces_end, on_ok_from}
use Rattle.xw_files.proofs.text.writing.put_pieces.Goals as goal

pub loop-end-preserved : goal.loop-end-preserved
loop-end-preserved c = pieces_step c.loop-end.out.items c.put_line.new.out.items c.loop-end.rest.now _ c.in-Some.end (sym c.line_feed.ensures.index ∙ c.in-Some.is) c.loop-end.invariant c.in_ok-put_line.ensures

pub returns : goal.returns
returns c = on_ok_from c.put_line-2.result (pieces_end c.loop-end.out.items c.put_line-2.new.out.items c.loop-end.rest.now _ (sym c.line_feed.ensures.index ∙ c.in_default.is) c.loop-end.invariant) c.put_line-2.ensures
