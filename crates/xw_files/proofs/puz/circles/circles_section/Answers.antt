use Rattle.std.proofs.Common.{sym, ◌∙◌}
use Rattle.xw_files.proofs.PuzLemmas.CircleLemmas.{section-written, section-left}
use Rattle.xw_files.proofs.puz.circles.circles_section.Goals as goal

pub returns-then-has_mark : goal.returns-then-has_mark
returns-then-has_mark c =
    section-written c.args.grid.now c.args.circles.now c.in_ok-marks.marks.items c.in_ok-gext_of.field-0.items c.in_ok-marks.ensures.marks (rw c.deref.ensures.value at (sym c.has_mark.ensures ∙ c.if-has_mark.true)) (rw c.deref-then-has_mark.ensures.value at c.in_ok-gext_of.ensures)

pub returns : goal.returns
returns c =
    section-left c.args.grid.now c.args.circles.now c.in_ok-marks.marks.items c.new.result.items c.in_ok-marks.ensures.marks (rw c.deref.ensures.value at (sym c.has_mark.ensures ∙ c.if-has_mark.false)) c.new.ensures.items
