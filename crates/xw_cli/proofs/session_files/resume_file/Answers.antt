use Rattle.std.proofs.Common.{◌∙◌, ap, inl, sym, subst}
use Rattle.std.specs.Prelude.{Ok}
use Rattle.xw_journal.specs.File.{is_cut, kept_lines}
use Rattle.xw_disk.specs.Disk.{read}
use Rattle.xw_desk.specs.Desk.{Asks, ReportsIf}
use Rattle.xw_cli.specs.SessionFiles.{Replays}
use Rattle.xw_cli_files.specs.ReplayReports.{cut_line}
use Rattle.xw_cli.proofs.session_files.resume_file.Goals as goal

pub returns : goal.returns
returns g c =
    inl (record {
      bytes = c.as_slice.result.now;
      read_at = c.read_file.new.self;
      asks = subst (λ bytes. Asks (read c.args.file.now (Ok bytes)) c.args.desk.now c.read_file.new.self) (sym c.as_slice.ensures.value) c.in_ok-text.ensures.ok;
      mid = c.tell_cut_if.new.desk;
      cut = subst (λ is_due. ReportsIf is_due (cut_line c.args.file.now) c.read_file.new.self c.tell_cut_if.new.desk) (c.is_cut.ensures ∙ ap is_cut c.unmarked-bytes.ensures) c.in_ok-tell_cut_if.ensures.told;
      replays = subst (λ lines. Replays c.args.file.now lines c.args.session.now c.resume_text.new.session c.resume_text.result c.tell_cut_if.new.desk c.resume_text.new.desk) (c.kept.ensures.lines ∙ ap kept_lines c.unmarked-bytes.ensures) c.resume_text.ensures;
    })
