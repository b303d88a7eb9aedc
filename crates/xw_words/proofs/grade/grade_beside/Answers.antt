use Rattle.std.proofs.Common.{sym, ◌∙◌}
use Rattle.xw_words.proofs.GradeLemmas.{usual_of_letters}
use Rattle.xw_words.proofs.grade.grade_beside.Goals as goal

pub returns-then-letters-line : goal.returns-then-letters-line
returns-then-letters-line c = sym (usual_of_letters c.args.line.now (sym c.requires ∙ c.if-letters-line.true))
