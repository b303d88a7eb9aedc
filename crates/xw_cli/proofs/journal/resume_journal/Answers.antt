use Rattle.std.proofs.Common.{◌∙◌, ap, inl, inr, sym, subst}
use Rattle.std.proofs.lemmas.Result.{err_from_is_err_and}
use Rattle.std.specs.Prelude.{Ok, Err}
use Rattle.xw_disk.specs.Disk.{open_, started}
use Rattle.xw_journal.specs.File.{form_of, kept_lines}
use Rattle.xw_desk.specs.Desk.{Asks, ReportsIf}
use Rattle.xw_cli.specs.Journals.{Begins, IsNoJournal, drops}
use Rattle.xw_cli.specs.SessionFiles.{Replays}
use Rattle.xw_cli_files.specs.ReplayReports.{cut_line}
use Rattle.xw_cli.proofs.journal.resume_journal.Goals as goal

pub returns-in_err-refused-clause-err : goal.returns-in_err-refused-clause-err
returns-in_err-refused-clause-err g c =
    let e = err_from_is_err_and c.from_residual-in_err-refused.result c.from_residual-in_err-refused.ensures.1 in
    rw (e.1, e.2)
    (inr (inl (record {
      bytes = c.as_slice.result.now;
      state = c.resume_text.new.session;
      why = inl (record {
        mid = c.open_journal.new.desk;
        opens = subst (λ bytes. Asks (open_ c.args.file.now (Ok bytes)) c.args.desk.now c.open_journal.new.desk) (sym c.as_slice.ensures.value) c.in_ok-opened.ensures.ok;
        replays = subst (λ lines. Replays c.args.file.now lines c.args.session.now c.resume_text.new.session (Err c.in_err-refused.field-0.0) c.open_journal.new.desk c.resume_text.new.desk) (c.kept.ensures.lines ∙ ap kept_lines c.unmarked-text.ensures) c.in_err-refused.ensures;
      });
    })))

pub returns-in_err-start-clause-err : goal.returns-in_err-start-clause-err
returns-in_err-start-clause-err g c =
    let e = err_from_is_err_and c.from_residual-in_err-start.result c.from_residual-in_err-start.ensures.1 in
    rw (e.1, e.2)
    (inr (inl (record {
      bytes = c.as_slice.result.now;
      state = c.resume_text.new.session;
      why = inr (
        c.in_ok-refused.refused,
        record {
          mid = c.open_journal.new.desk;
          opens = subst (λ bytes. Asks (open_ c.args.file.now (Ok bytes)) c.args.desk.now c.open_journal.new.desk) (sym c.as_slice.ensures.value) c.in_ok-opened.ensures.ok;
          replays = subst (λ lines. Replays c.args.file.now lines c.args.session.now c.resume_text.new.session (Ok c.in_ok-refused.refused) c.open_journal.new.desk c.resume_text.new.desk) (c.kept.ensures.lines ∙ ap kept_lines c.unmarked-text.ensures) c.in_ok-refused.ensures;
        },
        subst (λ text. IsNoJournal c.args.file.now text c.in_err-start.field-0.0) c.unmarked-text.ensures c.in_err-start.ensures.err,
      );
    })))

pub returns-in_err-journal-clause-err : goal.returns-in_err-journal-clause-err
returns-in_err-journal-clause-err g c =
    let e = err_from_is_err_and c.from_residual-in_err-journal.result c.from_residual-in_err-journal.ensures.1 in
    let why = c.in_err-journal.ensures.err in
    rw (e.1, e.2)
    (inr (inr (inl (record {
      bytes = c.as_slice.result.now;
      state = c.resume_text.new.session;
      refused = c.in_ok-refused.refused;
      mid = c.resume_text.new.desk;
      replays = record {
        mid = c.open_journal.new.desk;
        opens = subst (λ bytes. Asks (open_ c.args.file.now (Ok bytes)) c.args.desk.now c.open_journal.new.desk) (sym c.as_slice.ensures.value) c.in_ok-opened.ensures.ok;
        replays = subst (λ lines. Replays c.args.file.now lines c.args.session.now c.resume_text.new.session (Ok c.in_ok-refused.refused) c.open_journal.new.desk c.resume_text.new.desk) (c.kept.ensures.lines ∙ ap kept_lines c.unmarked-text.ensures) c.in_ok-refused.ensures;
      };
      begun = started c.in_ok-start.start;
      begins = subst (λ text. Begins (form_of text) text (started c.in_ok-start.start)) c.unmarked-text.ensures c.in_ok-start.ensures.ok;
      fault = why.0;
      told = why.1;
      asks = why.2;
    }))))

pub returns-in_err-tell_cut_if-clause-err : goal.returns-in_err-tell_cut_if-clause-err
returns-in_err-tell_cut_if-clause-err g c =
    let e = err_from_is_err_and c.from_residual-in_err-tell_cut_if.result c.from_residual-in_err-tell_cut_if.ensures.1 in
    rw (e.1, e.2)
    (inr (inr (inr (record {
      bytes = c.as_slice.result.now;
      state = c.resume_text.new.session;
      refused = c.in_ok-refused.refused;
      mid = c.begin_journal.new.desk;
      is_begun = record {
        mid = c.resume_text.new.desk;
        replays = record {
          mid = c.open_journal.new.desk;
          opens = subst (λ bytes. Asks (open_ c.args.file.now (Ok bytes)) c.args.desk.now c.open_journal.new.desk) (sym c.as_slice.ensures.value) c.in_ok-opened.ensures.ok;
          replays = subst (λ lines. Replays c.args.file.now lines c.args.session.now c.resume_text.new.session (Ok c.in_ok-refused.refused) c.open_journal.new.desk c.resume_text.new.desk) (c.kept.ensures.lines ∙ ap kept_lines c.unmarked-text.ensures) c.in_ok-refused.ensures;
        };
        begun = started c.in_ok-start.start;
        begins = subst (λ text. Begins (form_of text) text (started c.in_ok-start.start)) c.unmarked-text.ensures c.in_ok-start.ensures.ok;
        asks = c.in_ok-journal.ensures.ok;
      };
      cut = inl c.in_err-tell_cut_if.ensures.untold;
      memory = c.in_err-tell_cut_if.ensures.memory;
    }))))

pub returns-clause-ok : goal.returns-clause-ok
returns-clause-ok g c =
    record {
      bytes = c.as_slice.result.now;
      mid = c.begin_journal.new.desk;
      is_begun = record {
        mid = c.resume_text.new.desk;
        replays = record {
          mid = c.open_journal.new.desk;
          opens = subst (λ bytes. Asks (open_ c.args.file.now (Ok bytes)) c.args.desk.now c.open_journal.new.desk) (sym c.as_slice.ensures.value) c.in_ok-opened.ensures.ok;
          replays = subst (λ lines. Replays c.args.file.now lines c.args.session.now c.resume_text.new.session (Ok c.in_ok-refused.refused) c.open_journal.new.desk c.resume_text.new.desk) (c.kept.ensures.lines ∙ ap kept_lines c.unmarked-text.ensures) c.in_ok-refused.ensures;
        };
        begun = started c.in_ok-start.start;
        begins = subst (λ text. Begins (form_of text) text (started c.in_ok-start.start)) c.unmarked-text.ensures c.in_ok-start.ensures.ok;
        asks = c.in_ok-journal.ensures.ok;
      };
      cut = subst (λ is_due. ReportsIf is_due (cut_line c.args.file.now) c.begin_journal.new.desk c.tell_cut_if.new.desk) (c.drops.ensures ∙ ap drops c.unmarked-text.ensures) c.in_ok-tell_cut_if.ensures.told;
    }
