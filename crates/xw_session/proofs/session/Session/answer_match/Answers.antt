use Rattle.std.proofs.Common.{ap, sym, ◌∙◌}
use Rattle.std.specs.Prelude.{flat_map}
use Rattle.xw_words.specs.Dictionary.{matching_answer}
use Rattle.xw_commands.specs.declared.query.Query.TheVariants as queries
use Rattle.xw_answers.specs.declared.refusal.CommandRefusal.TheVariants as refusals
use Rattle.xw_feas.specs.declared.edit.Refusal.TheVariants as edits
use Rattle.xw_answers.specs.Text.{word_line}
use Rattle.xw_session.specs.State.{SessionState}
use Rattle.xw_session.specs.Reply.{matched}
use Rattle.xw_session.proofs.Answering.{query_answers, query_refused}
use Rattle.xw_session.proofs.session.Session.answer_match.Goals as goal

pub returns-in-Ok : goal.returns-in-Ok
returns-in-Ok g c =
    let found = ap (matched c.args.self.now) (ap (λ (state : SessionState). matching_answer state.engine.words c.args.pattern.now) (sym c.self.view_is) ∙ ap (λ words. matching_answer words c.args.pattern.now) (sym c.bank.ensures) ∙ c.in-Ok.ensures.words) in
    rw c.accepted.ensures (query_answers g.W.Sink.transcript g.W.Sink.failures c.args.self.now (queries.Match c.args.pattern.now) (flat_map word_line c.in-Ok.words) _ _ _ found c.write_words.ensures)

pub returns-in-Err : goal.returns-in-Err
returns-in-Err g c =
    let refused = ap (matched c.args.self.now) (ap (λ (state : SessionState). matching_answer state.engine.words c.args.pattern.now) (sym c.self.view_is) ∙ ap (λ words. matching_answer words c.args.pattern.now) (sym c.bank.ensures) ∙ c.in-Err.ensures.refused) in
    query_refused g.W.Sink.transcript g.W.Sink.failures c.args.self.now (queries.Match c.args.pattern.now) (refusals.Engine (edits.Word c.in-Err.fault)) _ refused
