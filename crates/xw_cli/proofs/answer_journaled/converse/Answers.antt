use Rattle.std.proofs.Common.{subst}
use Rattle.std.specs.Prelude.{option_map}
use Rattle.xw_disk.specs.Disk.{take_lines}
use Rattle.xw_desk.specs.Desk.{Asks}
use Rattle.xw_cli.specs.Performed.{EndsAfter, IsJournalEnd}
use Rattle.xw_cli.proofs.answer_journaled.converse.Goals as goal

pub returns : goal.returns
returns g c =
    let input = c.answer_input-input in
    let file_before = option_map (λ bytes. bytes.items) input.result.before in
    record {
      greeted = c.greet.new.desk;
      greets = c.greet.ensures;
      left = input.new.handler;
      end = input.result.end;
      mid = input.new.desk;
      answers = input.ensures.input;
      file_before = file_before;
      has_before = input.ensures.before;
      taken = c.close_journal.new.desk;
      takes = subst (λ lines. Asks (take_lines c.args.file.now lines) input.new.desk c.close_journal.new.desk) c.into_parts-session.ensures.transcript c.close_journal.ensures;
      answered = c.journal_status-answered.result;
      answered_is = subst (λ cause. IsJournalEnd c.args.file.now c.args.before.count input.result.end cause c.journal_status-answered.result) c.cause-cause.ensures c.journal_status-answered.ensures;
      ends = subst (λ state. EndsAfter c.args.named c.args.before file_before state c.journal_status-answered.result c.end_answered.result c.close_journal.new.desk c.end_answered.new.desk) c.into_parts-session.ensures.session c.end_answered.ensures;
    }
