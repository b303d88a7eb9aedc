use Rattle.std.proofs.Common.{ap, sym, ◌∙◌}
use Rattle.std.specs.Prelude.{decimal}
use Rattle.xw_words.specs.Dictionary.{grade_answer}
use Rattle.xw_commands.specs.declared.query.Query.TheVariants as queries
use Rattle.xw_answers.specs.declared.refusal.CommandRefusal.TheVariants as refusals
use Rattle.xw_feas.specs.declared.edit.Refusal.TheVariants as edits
use Rattle.xw_answers.specs.Text.{word_line}
use Rattle.xw_session.specs.State.{SessionState}
use Rattle.xw_session.specs.Reply.{grade_told}
use Rattle.xw_session.proofs.Answering.{query_answers, query_refused}
use Rattle.xw_session.proofs.session.Session.answer_grade.Goals as goal

pub returns-in-Ok : goal.returns-in-Ok
returns-in-Ok g c =
    let found = ap grade_told (ap (λ (state : SessionState). grade_answer state.engine.words c.args.word.now) (sym c.self.view_is) ∙ ap (λ words. grade_answer words c.args.word.now) (sym c.bank.ensures) ∙ sym c.grade_of.ensures ∙ c.in-Ok.is) in
    rw c.accepted.ensures (query_answers g.W.Sink.transcript g.W.Sink.failures c.args.self.now (queries.Grade c.args.word.now) (word_line (decimal c.in-Ok.grade)) _ _ _ found c.write_line.ensures)

pub returns-in-Err : goal.returns-in-Err
returns-in-Err g c =
    let refused = ap grade_told (ap (λ (state : SessionState). grade_answer state.engine.words c.args.word.now) (sym c.self.view_is) ∙ ap (λ words. grade_answer words c.args.word.now) (sym c.bank.ensures) ∙ sym c.grade_of.ensures ∙ c.in-Err.is) in
    query_refused g.W.Sink.transcript g.W.Sink.failures c.args.self.now (queries.Grade c.args.word.now) (refusals.Engine (edits.Word c.in-Err.fault)) _ refused
