use Rattle.std.proofs.lemmas.Result.{err_from_is_err_and}
use Rattle.xw_answers.specs.Text.{word_line}
use Rattle.xw_lines.proofs.SendsLemmas.{each_stops}
use Rattle.xw_session.proofs.session.helping.write_forms.Goals as goal

pub returns-in_err-write_form : goal.returns-in_err-write_form
returns-in_err-write_form g c =
    let e = err_from_is_err_and c.from_residual.result c.from_residual.ensures.1 in
    rw e.1 (each_stops g.W.Sink.transcript g.W.Sink.failures (λ name. word_line (g.N.CommandName.form name)) c.args.names.now _ _ _ c.loop-name.name-index _ c.loop-name-test.true (c.loop-name.invariant.transcript, c.loop-name.invariant.quiet) (rw (c.form.ensures, c.name-item.is) at c.in_err-write_form.ensures))
