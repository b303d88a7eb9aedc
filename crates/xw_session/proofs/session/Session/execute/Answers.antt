use Rattle.std.proofs.Common.{[], refl, sym}
use Rattle.std.proofs.lemmas.List.{append-nil}
use Rattle.std.proofs.lemmas.Result.{err_from_is_err_and}
use Rattle.std.specs.Prelude.{List, ℕ, None, Ok, Err}
use Rattle.xw_lines.specs.declared.outcome.Step.TheVariants.{Silent}
use Rattle.xw_answers.specs.declared.refusal.CommandRefusal.TheVariants as refusals
use Rattle.xw_session.specs.Answer.{AnswersParsedBy}
use Rattle.xw_session.specs.State.{SessionState}
use Rattle.xw_session.proofs.Answering.{line_answers, line_stops, line_refused, not_silent}
use Rattle.xw_session.proofs.session.Session.execute.Goals as goal

-- a line without an answer
line_silent : {S E : Type 0} (transcript : S → List ℕ) (failures : S → ℕ) (state : SessionState) (sink : S) → AnswersParsedBy {E = E} transcript failures state (Ok None) (Ok Silent) state sink sink
line_silent transcript failures state sink = record {
  outcome = Silent;
  answer = [];
  fits = (refl, refl, refl);
  sends = (sym (append-nil (transcript sink)), refl);
  is = refl;
}

pub returns-in-Ok-None-clause-answer : goal.returns-in-Ok-None-clause-answer
returns-in-Ok-None-clause-answer g c =
    rw (c.in-Ok-None.is, c.in-Ok-None.field-0-is) (line_silent g.W.Sink.transcript g.W.Sink.failures c.args.self.now c.args.sink.now)

pub returns-in_err-ended-in-Ok-Some-clause-answer : goal.returns-in_err-ended-in-Ok-Some-clause-answer
returns-in_err-ended-in-Ok-Some-clause-answer g c =
    let e = err_from_is_err_and c.from_residual.result c.from_residual.ensures.1 in
    rw (c.in-Ok-Some.is, c.in-Ok-Some.field-0-is, e.1) (line_stops g.W.Sink.transcript g.W.Sink.failures _ _ _ _ e.0 _ _ c.in_err-ended-in-Ok-Some.ensures)

pub returns-in_ok-ended-in-Ok-Some-clause-answer : goal.returns-in_ok-ended-in-Ok-Some-clause-answer
returns-in_ok-ended-in-Ok-Some-clause-answer g c =
    rw (c.in-Ok-Some.is, c.in-Ok-Some.field-0-is) (line_answers g.W.Sink.transcript g.W.Sink.failures _ _ _ _ _ _ _ _ c.in_ok-ended-in-Ok-Some.ensures c.end_answer.ensures.sends c.end_answer.ensures.step)

pub returns-in_ok-ended-in-Ok-Some-clause-silent : goal.returns-in_ok-ended-in-Ok-Some-clause-silent
returns-in_ok-ended-in-Ok-Some-clause-silent g c = not_silent _ c.in_ok-ended-in-Ok-Some.ended c.end_answer.result c.end_answer.ensures.step

pub returns-in-Err-clause-answer : goal.returns-in-Err-clause-answer
returns-in-Err-clause-answer g c =
    rw c.in-Err.is (line_refused g.W.Sink.transcript g.W.Sink.failures _ _ _ _ _ c.end_answer-in-Err.ensures.sends c.end_answer-in-Err.ensures.step)

pub returns-in-Err-clause-silent : goal.returns-in-Err-clause-silent
returns-in-Err-clause-silent g c = not_silent _ (Err (refusals.Syntax c.in-Err.fault)) c.end_answer-in-Err.result c.end_answer-in-Err.ensures.step
