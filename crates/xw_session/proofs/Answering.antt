-- Answering commands.
use Rattle.std.proofs.Common.{◌≡◌, ℕ, List, ◌++◌, refl, ap, subst, sym, ◌∙◌, inl, inr, append-nil}
use Rattle.std.specs.Prelude.{Option, Some, Result, Ok, Err, IfOk}
use Rattle.xw_lines.specs.Sends.{Sends}
use Rattle.xw_lines.specs.Device.{Begins, HasFailed}
use Rattle.xw_lines.proofs.SendsLemmas.{sends-then, stops-within}
use Rattle.xw_lines.specs.declared.outcome.Step.{Step}
use Rattle.xw_lines.specs.declared.outcome.Step.TheVariants.{Silent, Refused}
use Rattle.xw_lines.specs.Cut.{held}
use Rattle.xw_lines.specs.Spoken.{Answered, BreaksPiece, NeverStops}
use Rattle.xw_lines.specs.declared.outcome.AnswerFault.TheVariants.{WriteFailed}
use Rattle.xw_commands.specs.Command.{command_of}
use Rattle.xw_answers.specs.Text.{refused}
use Rattle.xw_commands.specs.declared.command.SyntaxFault.{SyntaxFault}
use Rattle.xw_session.specs.State.{SessionState}
use Rattle.xw_commands.specs.declared.command.Command.{Command}
use Rattle.xw_commands.specs.declared.command.Command.TheVariants as commands
use Rattle.xw_commands.specs.declared.query.Query.{Query}
use Rattle.xw_commands.specs.declared.change.Change.{Change}
use Rattle.xw_answers.specs.declared.refusal.CommandRefusal.{CommandRefusal}
use Rattle.xw_answers.specs.declared.refusal.CommandRefusal.TheVariants as refusals
use Rattle.xw_feas.specs.declared.edit.Edit.{Edit}
use Rattle.xw_feas.specs.State.{action_of, after as state_after}
use Rattle.xw_session.specs.Reply.{Reply, shown, changed, moved, want_of}
use Rattle.xw_session.specs.Answer.{AnswersEdit, Asks, Answers, IsAnswer, AnswersBy, AnswersTo, AnswersQuery, AnswersChange, AnswersParsed, AnswersParsedBy, Edits, accepted_by, reply_of, lines_in, end_of, text_of, ended_by, step_by, step_of, IsExecuted}

-- how a command without answer lines ended
pub ended_itself : (ended : Result (Unit {0}) CommandRefusal) (after : SessionState) → ended ≡ ended_by (reply_of ended after)
ended_itself (Ok done) after = refl
ended_itself (Err refusal) after = refl

-- the lines of an answer, and then its end
answer_parts : (reply : Result Reply CommandRefusal) → lines_in reply ++ end_of (ended_by reply) ≡ text_of reply
answer_parts (Ok reply) = refl
answer_parts (Err refusal) = refl

no_lines : {S : Type 0} (transcript : S → List ℕ) (ended : Result (Unit {0}) CommandRefusal) (after : SessionState) (sink : S) → transcript sink ≡ transcript sink ++ lines_in (reply_of ended after)
no_lines transcript (Ok done) after sink = sym (append-nil (transcript sink))
no_lines transcript (Err refusal) after sink = sym (append-nil (transcript sink))

-- the outcome of a line, by the reply to its command
step_by_reply : (reply : Result Reply CommandRefusal) → step_by (ended_by reply) ≡ step_of reply
step_by_reply (Ok reply) = refl
step_by_reply (Err refusal) = refl

-- a command was accepted if its lines were written
pub wrote_lines : {S E : Type 0} (transcript : S → List ℕ) (failures : S → ℕ) (lines : List ℕ) (wrote : Result (Unit {0}) E) (old new : S) → Sends transcript failures old new wrote lines → Sends transcript failures old new (accepted_by wrote) lines
wrote_lines transcript failures lines (Ok done) old new sent = sent
wrote_lines transcript failures lines (Err error) old new sent = sent

pub wrote_accepted : {E : Type 0} (wrote : Result (Unit {0}) E) → IfOk (accepted_by wrote) (λ ended. ended ≡ Ok tt)
wrote_accepted (Ok done) = refl
wrote_accepted (Err error) = tt

module _ {S E : Type 0} (transcript : S → List ℕ) (failures : S → ℕ) (state : SessionState) where
  -- ---- changes

  module _ (after : SessionState) (change : Change) where
    -- a change without answer lines was made or refused
    pub edit_answers : (ended : Result (Unit {0}) CommandRefusal) (sink : S) → Edits state change ended after → AnswersChange {E = E} transcript failures state change (Ok ended) after sink sink
    edit_answers ended sink edits =
        (changed state change, refl, record { reply = reply_of ended after; fits = edits.0; effect = edits.1; sends = (no_lines transcript ended after sink, refl); ends = ended_itself ended after })

    -- the edit that a change asks for was made or refused
    pub asked_answers : (edit : Edit) (result : Result (Result (Unit {0}) CommandRefusal) E) (old new : S) → Asks state change (Ok edit)
        → AnswersEdit transcript failures state edit result after old new → AnswersChange transcript failures state change result after old new
    asked_answers edit result old new asks answers =
        let due = moved state (state_after state.engine (action_of edit)) in
        (due, asks.0, subst (λ (want : Option CommandRefusal). AnswersBy transcript failures state due want result after old new) (sym asks.1) answers)

  -- ---- queries

  module _ (query : Query) where
    -- the lines of an answer were written, or the writer failed within them
    pub query_answers : (lines : List ℕ) (wrote : Result (Unit {0}) E) (old new : S) → IsAnswer state query (Ok lines) → Sends transcript failures old new wrote lines
        → AnswersQuery transcript failures state query (accepted_by wrote) old new
    query_answers lines wrote old new is sent =
        (shown state lines, (Ok lines, is, refl), record { reply = shown state lines; fits = refl; effect = refl; sends = wrote_lines transcript failures lines wrote old new sent; ends = wrote_accepted wrote })

    -- a query was refused
    pub query_refused : (refusal : CommandRefusal) (sink : S) → IsAnswer state query (Err refusal) → AnswersQuery {E = E} transcript failures state query (Ok (Err refusal)) sink sink
    query_refused refusal sink is =
        (Err refusal, (Err refusal, is, refl), record { reply = Err refusal; fits = inl refl; effect = refl; sends = (sym (append-nil (transcript sink)), refl); ends = refl })

    -- a query was refused for a failed allocation
    pub query_unanswered : (lines : List ℕ) (refusal : CommandRefusal) (sink : S) → IsAnswer state query (Ok lines) → want_of state (commands.Ask query) ≡ Some refusal
        → AnswersQuery {E = E} transcript failures state query (Ok (Err refusal)) sink sink
    query_unanswered lines refusal sink is wants =
        (shown state lines, (Ok lines, is, refl), record { reply = Err refusal; fits = inr (refl, wants); effect = refl; sends = (sym (append-nil (transcript sink)), refl); ends = refl })

  -- ---- lines

  -- a command was executed, and then the end of its answer was written
  pub line_answers : {F : Type 0} (after : SessionState) (command : Command) (ended : Result (Unit {0}) CommandRefusal) (result : Result Step F) (old mid new : S) → AnswersTo {E = E} transcript failures state command (Ok ended) after old mid
      → Sends transcript failures mid new result (end_of ended) → IfOk result (λ step. step ≡ step_by ended) → AnswersParsedBy transcript failures state (Ok (Some command)) result after old new
  line_answers after command ended result old mid new (due, owed, a) sent step = record {
    outcome = step_of a.reply;
    answer = text_of a.reply;
    fits = (a.reply, (due, owed, a.fits), refl, refl, a.effect);
    sends =
        subst (λ (text : List ℕ). Sends transcript failures old new result text) (ap (λ (e : Result (Unit {0}) CommandRefusal). lines_in a.reply ++ end_of e) a.ends ∙ answer_parts a.reply)
        (sends-then transcript failures old mid new (lines_in a.reply) (end_of ended) result a.sends sent);
    is = subst (λ (s : Step). IfOk result (λ step. step ≡ s)) (ap step_by a.ends ∙ step_by_reply a.reply) step;
  }

  -- the writer failed within the lines of an answer
  pub line_stops : {F : Type 0} (after : SessionState) (command : Command) (error : E) (failed : F) (old new : S) → AnswersTo transcript failures state command (Err error) after old new
      → AnswersParsedBy transcript failures state (Ok (Some command)) (Err failed) after old new
  line_stops after command error failed old new (due, owed, a) = record {
    outcome = step_of a.reply;
    answer = text_of a.reply;
    fits = (a.reply, (due, owed, a.fits), refl, refl, a.effect);
    sends =
        subst (λ (text : List ℕ). Begins (transcript old) (transcript new) text × HasFailed (failures old) (failures new)) (answer_parts a.reply)
        (stops-within transcript failures old new (lines_in a.reply) (end_of (ended_by a.reply)) a.sends);
    is = tt;
  }

  -- a line that is not a valid command
  pub line_refused : (fault : SyntaxFault) (result : Result Step E) (old new : S) → Sends transcript failures old new result (refused (refusals.Syntax fault)) → IfOk result (λ step. step ≡ Refused)
      → AnswersParsedBy transcript failures state (Err fault) result state old new
  line_refused fault result old new sent step = record { outcome = Refused; answer = refused (refusals.Syntax fault); fits = (refl, refl, refl); sends = sent; is = step }

  -- the command of an answer was executed
  pub was_executed : (after : SessionState) (command : Command) (ended : Result (Unit {0}) CommandRefusal) (old new : S) → AnswersTo {E = E} transcript failures state command (Ok ended) after old new → IsExecuted state command ended after
  was_executed after command ended old new (due, owed, a) = record { reply = a.reply; fits = (due, owed, a.fits); is = a.ends; effect = a.effect }

  -- a command whose answer broke off was executed, and ended somehow
  pub broken_executed : (after : SessionState) (command : Command) (error : E) (old new : S) → AnswersTo transcript failures state command (Err error) after old new → (ended : Result (Unit {0}) CommandRefusal) × IsExecuted state command ended after
  broken_executed after command error old new (due, owed, a) = (ended_by a.reply, record { reply = a.reply; fits = (due, owed, a.fits); is = refl; effect = a.effect })

-- only a line without a command is silent
pub not_silent : {E : Type 0} (P : Type 0) (ended : Result (Unit {0}) CommandRefusal) (result : Result Step E) → IfOk result (λ step. step ≡ step_by ended) → IfOk result (λ step. step ≡ Silent → P)
not_silent P (Ok done) (Ok step) is = λ e. cc
not_silent P (Err refusal) (Ok step) is = λ e. cc
not_silent P ended (Err error) is = tt

-- ---- the pieces that a run passes on

module _ (parsed : Result (Option Command) SyntaxFault) (piece : Option (List ℕ)) (read : (whole : List ℕ) → held whole ≡ piece → parsed ≡ command_of whole) where
  pub piece_answered : {S E : Type 0} (transcript : S → List ℕ) (failures : S → ℕ) (state after : SessionState) (step : Step) (old new : S)
      → AnswersParsedBy {E = E} transcript failures state parsed (Ok step) after old new → Answered Answers state piece step after (transcript old) (transcript new)
  piece_answered transcript failures state after step old new a = record {
    answer = a.answer;
    fits = λ whole h. subst (λ s. Answers state whole s a.answer after) (sym a.is) (subst (λ p. AnswersParsed state p a.outcome a.answer after) (read whole h) a.fits);
    transcript = a.sends.0;
  }

  pub piece_broke_off : {S E : Type 0} (transcript : S → List ℕ) (failures : S → ℕ) (state after : SessionState) (error : E) (old new : S)
      → AnswersParsedBy transcript failures state parsed (Err error) after old new → BreaksPiece Answers NeverStops WriteFailed state piece after (transcript old) (transcript new)
  piece_broke_off transcript failures state after error old new a = λ whole h. record {
    outcome = a.outcome;
    answer = a.answer;
    answers = subst (λ p. AnswersParsed state p a.outcome a.answer after) (read whole h) a.fits;
    begins = a.sends.0;
  }
