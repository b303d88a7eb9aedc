use Rattle.std.proofs.Common.{◌≡◌, ◌∙◌, true, sym, subst, append_assoc, rules}
use Rattle.xw_desk.proofs.Writing.{reports_as}
use Rattle.xw_desk.specs.Desk.{ReportsIf}
use Rattle.xw_cli_files.specs.ReplayReports.{cut_line}
use Rattle.xw_cli_files.proofs.replay_reports.tell_cut_if.Goals as goal

pub returns-clause-told : goal.returns-clause-told
returns-clause-told g c =
    let due : c.args.is_due ≡ true = search rules in
    let line : c.as_bytes.result.now ≡ cut_line c.args.file.now = c.as_bytes.ensures.value ∙ (c.in_ok-text.ensures.ok ∙ simp append_assoc) in
    subst (λ due. ReportsIf due (cut_line c.args.file.now) c.args.desk.now c.report.new.self) (sym due) (reports_as _ _ _ _ line c.report.ensures)
