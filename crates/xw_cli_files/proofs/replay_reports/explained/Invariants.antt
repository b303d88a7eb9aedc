use Rattle.std.proofs.Common.{◌≡◌, ◌++◌, length, true}
use Rattle.xw_cli_files.specs.ReplayReports.{explained_reports}
use Rattle.xw_cli_files.proofs.replay_reports.explained.Given as goal

-- the text has the reports before the rest
abbrev pub invariant-loop-rest : goal.invariant-loop-rest
invariant-loop-rest l = l.text.items ++ explained_reports true l.rest ≡ explained_reports true l.reports

abbrev pub decreases-loop-rest : goal.decreases-loop-rest
decreases-loop-rest l = length l.rest
