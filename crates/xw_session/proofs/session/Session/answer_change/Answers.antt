use Rattle.std.proofs.Common.{◌≡◌, None, subst}
use Rattle.std.specs.Prelude.{Result, Ok, Err}
use Rattle.xw_answers.specs.declared.refusal.CommandRefusal.{CommandRefusal}
use Rattle.xw_commands.specs.declared.change.Change.{Change}
use Rattle.xw_commands.specs.declared.change.Change.TheVariants as changes
use Rattle.xw_session.specs.Answer.{AnswersChange, AnswersEdit, Edits, IsBegun}
use Rattle.xw_session.specs.State.{SessionState, seen}
use Rattle.xw_session.specs.declared.session.asking.Asked.{Asked}
use Rattle.xw_session.specs.declared.session.asking.Asked.TheVariants as asked_for
use Rattle.xw_session.proofs.Answering.{asked_answers, edit_answers}
use Rattle.xw_session.proofs.session.Session.answer_change.Goals as goal

begun : (state after : SessionState) (change : Change) (result asked : Result Asked CommandRefusal) → result ≡ asked → IsBegun (seen state None) change result (seen after None) → IsBegun state change asked after
begun state after change result asked is was = subst (λ (r : Result Asked CommandRefusal). IsBegun state change r after) is was

pub returns-in-Ok-Nothing : goal.returns-in-Ok-Nothing
returns-in-Ok-Nothing g c =
    edit_answers g.W.Sink.transcript g.W.Sink.failures c.args.self.now c.begin.new.self c.args.change (Ok tt) _ (begun c.args.self.now c.begin.new.self c.args.change c.begin.result (Ok asked_for.Nothing) (cc) c.begin.ensures.begun)

pub returns-in-Ok-Edit : goal.returns-in-Ok-Edit
returns-in-Ok-Edit g c =
    let asks = begun c.args.self.now c.begin.new.self c.args.change c.begin.result (Ok (asked_for.Edit c.in-Ok-Edit.edit)) (cc) c.begin.ensures.begun in
    asked_answers g.W.Sink.transcript g.W.Sink.failures c.args.self.now c.answer_edit.new.self c.args.change c.in-Ok-Edit.edit c.answer_edit.result _ _ asks.0
    (subst (λ (s : SessionState). AnswersEdit g.W.Sink.transcript g.W.Sink.failures s c.in-Ok-Edit.edit c.answer_edit.result c.answer_edit.new.self c.args.sink.now c.answer_edit.new.sink) asks.1 c.answer_edit.ensures)

pub returns-in-Ok-Clue : goal.returns-in-Ok-Clue
returns-in-Ok-Clue g c =
    let clue : Change = changes.Clue c.in-Ok-Clue.named c.in-Ok-Clue.text.now in
    let asks = begun c.args.self.now c.begin.new.self c.args.change c.begin.result (Ok (asked_for.Clue c.in-Ok-Clue.named c.in-Ok-Clue.text)) (cc) c.begin.ensures.begun in
    rw asks.0 (edit_answers g.W.Sink.transcript g.W.Sink.failures c.args.self.now c.set_clue.new.self clue c.set_clue.result _ (subst (λ (s : SessionState). Edits s clue c.set_clue.result c.set_clue.new.self) asks.1 c.set_clue.ensures))

pub returns-in-Ok-Erase : goal.returns-in-Ok-Erase
returns-in-Ok-Erase g c =
    let asks = begun c.args.self.now c.begin.new.self c.args.change c.begin.result (Ok (asked_for.Erase c.in-Ok-Erase.named)) (cc) c.begin.ensures.begun in
    rw asks.0 (subst (λ (s : SessionState). AnswersChange g.W.Sink.transcript g.W.Sink.failures s (changes.Erase c.in-Ok-Erase.named) c.answer_erase.result c.answer_erase.new.self c.args.sink.now c.answer_erase.new.sink) asks.1 c.answer_erase.ensures)

pub returns-in-Ok-Size : goal.returns-in-Ok-Size
returns-in-Ok-Size g c =
    let size : Change = changes.Size c.in-Ok-Size.width c.in-Ok-Size.height in
    let asks = begun c.args.self.now c.begin.new.self c.args.change c.begin.result (Ok (asked_for.Size c.in-Ok-Size.width c.in-Ok-Size.height)) (cc) c.begin.ensures.begun in
    rw asks.0 (edit_answers g.W.Sink.transcript g.W.Sink.failures c.args.self.now c.resize.new.self size c.resize.result _ (subst (λ (s : SessionState). Edits s size c.resize.result c.resize.new.self) asks.1 c.resize.ensures))

pub returns-in-Err : goal.returns-in-Err
returns-in-Err g c =
    edit_answers g.W.Sink.transcript g.W.Sink.failures c.args.self.now c.begin.new.self c.args.change (Err c.in-Err.refusal) _ (begun c.args.self.now c.begin.new.self c.args.change c.begin.result (Err c.in-Err.refusal) (cc) c.begin.ensures.begun)
