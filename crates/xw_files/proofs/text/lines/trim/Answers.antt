use Rattle.std.proofs.Common.{sym, ◌∙◌, arith}
use Rattle.xw_files.proofs.TextLemmas.Lines.{trim_back-blank, trim_back-none}
use Rattle.xw_files.proofs.text.lines.trim.Goals as goal

pub loop-rest-2-preserved : goal.loop-rest-2-preserved
loop-rest-2-preserved c = sym (trim_back-blank c.loop-rest-2.rest.now (omega arith) (sym c.if-is_blank-2.ensures)) ∙ c.loop-rest-2.invariant

pub returns-else-is_blank-2 : goal.returns-else-is_blank-2
returns-else-is_blank-2 c = sym (trim_back-none c.loop-rest-2.rest.now (omega arith) (sym c.if-is_blank-2.ensures)) ∙ c.loop-rest-2.invariant
