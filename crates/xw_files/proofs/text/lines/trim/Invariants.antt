use Rattle.std.proofs.Common.{◌≡◌, length}
use Rattle.xw_files.specs.Text.Lines.{trimmed, trim_front, trim_back}
use Rattle.xw_files.proofs.text.lines.trim.Given as goal

abbrev pub invariant-loop-rest : goal.invariant-loop-rest
invariant-loop-rest l = trim_front l.rest ≡ trim_front l.line

abbrev pub decreases-loop-rest : goal.decreases-loop-rest
decreases-loop-rest l = length l.rest

abbrev pub invariant-loop-rest-2 : goal.invariant-loop-rest-2
invariant-loop-rest-2 l = trim_back l.rest ≡ trimmed l.line

abbrev pub decreases-loop-rest-2 : goal.decreases-loop-rest-2
decreases-loop-rest-2 l = length l.rest
