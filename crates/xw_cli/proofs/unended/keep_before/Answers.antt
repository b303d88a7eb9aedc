use Rattle.std.proofs.Common.{◌∙◌, ap, sym}
use Rattle.xw_cli.specs.Unended.{unended_lines}
use Rattle.xw_cli.proofs.Steps.{kept_other, kept_same}
use Rattle.xw_cli.proofs.unended.keep_before.Goals as goal

pub returns-then-eq : goal.returns-then-eq
returns-then-eq g c =
    kept_same (λ bytes. bytes.items) c.args.named c.args.before c.in-Some.before c.as_slice.result.now c.as_slice-2.result.now c.args.session.now c.args.desk.now c.in-Some.is c.as_slice.ensures.value (c.as_slice-2.ensures.value ∙ c.in_ok-after.ensures)
    (sym c.eq.ensures ∙ c.if-eq.true)

pub returns : goal.returns
returns g c =
    kept_other (λ bytes. bytes.items) c.args.named c.args.before c.in-Some.before c.as_slice.result.now c.as_slice-3.result.now c.as_slice-2.result.now c.unended.result.now c.record_file.result c.args.session.now c.keep_beside.result c.args.desk.now
    c.report-2.new.self c.keep_beside.new.desk c.in-Some.is c.as_slice.ensures.value c.as_slice-3.ensures.value (c.as_slice-2.ensures.value ∙ c.in_ok-after.ensures) c.record_file.ensures (sym c.eq.ensures ∙ c.if-eq.false)
    (c.unended.ensures ∙ ap unended_lines (ap (λ moment. moment.explains) c.report.view_is)) c.report-2.ensures c.keep_beside.ensures
