use Rattle.std.proofs.Common.{rules, ◌≡◌, ◌++◌, ◌∙◌, ap, subst}
use Rattle.std.specs.Option.{option_map}
use Rattle.std.proofs.lemmas.Result.{err_from_is_err_and}
use Rattle.xw_lines.specs.Device.{Begins}
use Rattle.xw_lines.specs.Spoken.{Answered, BreaksPiece}
use Rattle.xw_lines.specs.declared.outcome.AnswerFault.TheVariants.{WriteFailed}
use Rattle.xw_lines.specs.declared.outcome.Step.TheVariants.{Silent}
use Rattle.xw_journal.specs.Journal.{JournaledState, AnswersJournaled, StopsAtJournal, journaled_state}
use Rattle.xw_journal.proofs.Answering.{answered, answered_silently, broke_off}
use Rattle.xw_journal.proofs.session.JournaledSessionLineHandler.handle.Goals as goal

pub returns-then-eq-clause-ok : goal.returns-then-eq-clause-ok
returns-then-eq-clause-ok g c =
    let new = journaled_state c.execute-done.new.session (g.J.Sink.transcript c.execute-done.new.journal) (g.J.Sink.failures c.execute-done.new.journal) c.self.inside.cause in
    let told = g.W.Sink.transcript c.args.sink.now in
    let silent : c.in-Ok.step ≡ Silent = search rules in
    subst (λ (old : JournaledState). Answered AnswersJournaled old (option_map (λ bytes. bytes.now) c.args.line) c.in-Ok.step new told told)
    c.self.view_is (answered_silently _ new _ c.in-Ok.step _ (c.in-Ok.ensures.ok c.self.inside.cause) told silent)

pub returns-in_err-write_all-clause-err : goal.returns-in_err-write_all-clause-err
returns-in_err-write_all-clause-err g c =
    let e = err_from_is_err_and c.from_residual.result c.from_residual.ensures.1 in
    let new = journaled_state c.execute-done.new.session (g.J.Sink.transcript c.execute-done.new.journal) (g.J.Sink.failures c.execute-done.new.journal) c.self.inside.cause in
    let told = g.W.Sink.transcript c.args.sink.now in
    let told' = g.W.Sink.transcript c.write_all.new.sink in
    let begins : Begins told told' c.execute-done.new.answer.bytes.items = subst (λ answer. Begins told told' answer) c.bytes.ensures c.in_err-write_all.ensures.0 in
    rw (e.1, e.2) (subst (λ (old : JournaledState). BreaksPiece AnswersJournaled StopsAtJournal WriteFailed old (option_map (λ bytes. bytes.now) c.args.line) new told told')
    c.self.view_is (broke_off _ new _ c.in-Ok.step _ (c.in-Ok.ensures.ok c.self.inside.cause) told told' begins))

pub returns-clause-ok : goal.returns-clause-ok
returns-clause-ok g c =
    let new = journaled_state c.execute-done.new.session (g.J.Sink.transcript c.execute-done.new.journal) (g.J.Sink.failures c.execute-done.new.journal) c.self.inside.cause in
    let told = g.W.Sink.transcript c.args.sink.now in
    let told' = g.W.Sink.transcript c.write_all.new.sink in
    subst (λ (old : JournaledState). Answered AnswersJournaled old (option_map (λ bytes. bytes.now) c.args.line) c.in-Ok.step new told told')
    c.self.view_is (answered _ new _ c.in-Ok.step _ (c.in-Ok.ensures.ok c.self.inside.cause) told told' (c.in_ok-write_all.ensures.0 ∙ ap (λ xs. told ++ xs) c.bytes.ensures))
