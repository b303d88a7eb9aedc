use Rattle.std.proofs.Common.{subst}
use Rattle.std.specs.Prelude.{option_map}
use Rattle.xw_desk.specs.Desk.{ReportsIf}
use Rattle.xw_cli.specs.Performed.{EndsAfter, greeting}
use Rattle.xw_cli.proofs.answer.converse.Goals as goal

pub returns : goal.returns
returns g c =
    let input = c.answer_input-input in
    let file_before = option_map (λ bytes. bytes.items) input.result.before in
    record {
      greeted = c.greet.new.desk;
      greets = subst (λ is_kept. ReportsIf c.args.desk.now.is_dialogue (greeting is_kept) c.args.desk.now c.greet.new.desk) c.is_some.ensures c.greet.ensures;
      left = input.new.handler;
      end = input.result.end;
      mid = input.new.desk;
      answers = input.ensures.input;
      file_before = file_before;
      has_before = input.ensures.before;
      ends = subst (λ answered. EndsAfter c.args.named c.args.before file_before input.new.handler answered c.end_answered.result input.new.desk c.end_answered.new.desk) c.run_status-answered.ensures c.end_answered.ensures;
    }
