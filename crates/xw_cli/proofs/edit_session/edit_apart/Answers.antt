use Rattle.std.proofs.Common.{inl, inr}
use Rattle.std.proofs.lemmas.Result.{err_from_is_err_and}
use Rattle.xw_cli.proofs.Steps.{edits}
use Rattle.xw_cli.proofs.edit_session.edit_apart.Goals as goal

pub returns-in_err-session : goal.returns-in_err-session
returns-in_err-session g c =
    let e = err_from_is_err_and c.from_residual.result c.from_residual.ensures.1 in
    rw (e.1, e.2) (inr (inl c.in_err-session.ensures.err))

pub returns-in-Some : goal.returns-in-Some
returns-in-Some g c = edits c.args.named _ c.in_ok-session.session c.answer_journaled.result c.args.desk.now c.open_observed.new.desk c.answer_journaled.new.desk c.in_ok-session.ensures.ok c.in-Some.is c.answer_journaled.ensures

pub returns-in-None : goal.returns-in-None
returns-in-None g c = edits c.args.named _ c.in_ok-session.session c.answer.result c.args.desk.now c.open_observed.new.desk c.answer.new.desk c.in_ok-session.ensures.ok c.in-None.is c.answer.ensures
