use Rattle.std.proofs.lemmas.Result.{err_from_is_err_and}
use Rattle.xw_commands.specs.declared.change.TheConstants.{CHANGES}
use Rattle.xw_commands.specs.declared.search.TheConstants.{SEARCHES}
use Rattle.xw_commands.specs.Change.{change_form}
use Rattle.xw_commands.specs.Search.{search_form}
use Rattle.xw_session.specs.Help.{form_lines}
use Rattle.xw_lines.proofs.SendsLemmas.{sends-then, stops-within}
use Rattle.xw_session.proofs.session.helping.write_changing_forms.Goals as goal

pub returns-in_err-write_forms : goal.returns-in_err-write_forms
returns-in_err-write_forms g c =
    let e = err_from_is_err_and c.from_residual.result c.from_residual.ensures.1 in
    rw e.1 (stops-within g.W.Sink.transcript g.W.Sink.failures _ _ (form_lines change_form CHANGES) (form_lines search_form SEARCHES) c.in_err-write_forms.ensures)

pub returns : goal.returns
returns g c = sends-then g.W.Sink.transcript g.W.Sink.failures _ _ _ (form_lines change_form CHANGES) (form_lines search_form SEARCHES) _ c.in_ok-write_forms.ensures c.write_forms-2.ensures
