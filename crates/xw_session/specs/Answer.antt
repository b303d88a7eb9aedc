-- The answers that a command or line may get, and the state that they leave.
use Rattle.std.specs.declared.alloc.Global.{Global}
use Rattle.std.specs.Prelude.{Vec, ◌≡◌, ◌⊎◌, ℕ, Bool, List, [], ◌++◌, flat_map, Option, Some, None, Result, Ok, Err, IsOk, IfOk, if◌then◌else◌}
use Rattle.xw_grid.specs.Grid.{Grid}
use Rattle.xw_feas.specs.declared.edit.Edit.{Edit}
use Rattle.xw_feas.specs.declared.edit.Refusal.{Refusal}
use Rattle.xw_feas.specs.declared.changed.Changed.{Changed}
use Rattle.xw_session.specs.declared.session.asking.Asked.{Asked}
use Rattle.xw_session.specs.declared.session.asking.Asked.TheVariants as asked_for
use Rattle.xw_feas.specs.State.{action_of, after}
use Rattle.xw_feas.specs.Changed.{changes_left}
use Rattle.xw_feas.specs.Changes.{spelled_out}
use Rattle.xw_lines.specs.declared.outcome.Step.{Step}
use Rattle.xw_lines.specs.declared.outcome.Step.TheVariants.{Silent, Accepted, Refused}
use Rattle.xw_commands.specs.declared.command.Command.{Command}
use Rattle.xw_commands.specs.declared.command.Command.TheVariants as commands
use Rattle.xw_commands.specs.declared.query.Query.{Query}
use Rattle.xw_commands.specs.declared.query.Query.TheVariants as queries
use Rattle.xw_commands.specs.declared.change.Change.{Change}
use Rattle.xw_commands.specs.declared.change.Change.TheVariants as changes
use Rattle.xw_commands.specs.declared.search.Search.{Search}
use Rattle.xw_commands.specs.declared.search.Search.TheVariants as searches
use Rattle.xw_commands.specs.declared.command.SyntaxFault.{SyntaxFault}
use Rattle.xw_answers.specs.declared.refusal.CommandRefusal.{CommandRefusal}
use Rattle.xw_answers.specs.declared.refusal.CommandRefusal.TheVariants as refusals
use Rattle.xw_commands.specs.Command.{command_of}
use Rattle.xw_best.specs.Best.{IsBest}
use Rattle.xw_search.specs.NamedFill.{IsAutofilled}
use Rattle.xw_fill.specs.declared.why.NoReason.{NoReason}
use Rattle.xw_session.specs.Why.{refusal_without_reason, IsWhyAnswer, entry_lines}
use Rattle.xw_session.specs.Reply.{Reply, answer_of, asked, changed, searched, want_of, want_of_change, want_of_action, name_of_light, moved, filling_line}
use Rattle.xw_session.specs.NamedSearch.{names_of, IsSearchDue}
use Rattle.xw_session.specs.Best.{best_lines}
use Rattle.xw_lines.specs.Sends.{Sends}
use Rattle.xw_session.specs.State.{SessionState}
use Rattle.xw_answers.specs.Text.{accepted, refused, change_line}

-- an allowed reply: the specified one, or `want` (Memory) if the specified one is not a refusal
abbrev pub IsReply : Result Reply CommandRefusal → Option CommandRefusal → Result Reply CommandRefusal → Type 0
IsReply due want (Ok reply) = due ≡ Ok reply
IsReply due want (Err refusal) = (due ≡ Err refusal) ⊎ (IsOk due × (want ≡ Some refusal))

-- the only answer or reply, or one of several if there is no only one
abbrev pub IsOnlyOr : {T : Type 0} → Option T → Type 0 → T → Type 0
IsOnlyOr None several due = several
IsOnlyOr (Some only) several due = only ≡ due

-- one of several answers to a query
abbrev pub IsOneOf : SessionState → Query → Result (List ℕ) CommandRefusal → Type 0
IsOneOf state (queries.Why named) answer = IsWhyAnswer state (name_of_light named) answer
IsOneOf state other answer = ⊥

-- an answer that the query may get if no allocation fails
abbrev pub IsAnswer : SessionState → Query → Result (List ℕ) CommandRefusal → Type 0
IsAnswer state query answer = IsOnlyOr (answer_of state query) (IsOneOf state query answer) answer

-- one of several replies to a search
abbrev pub IsFound : SessionState → Search → Result Reply CommandRefusal → Type 0
IsFound state (searches.Autofill limit seed lights) due = IsSearchDue filling_line IsAutofilled state (names_of lights) due
IsFound state (searches.Best limit seed lights) due = IsSearchDue best_lines IsBest state (names_of lights) due
IsFound state other due = ⊥

-- A reply that the command may get if no allocation fails. That to a query has its answer and the state as it was.
abbrev pub IsDue : SessionState → Command → Result Reply CommandRefusal → Type 0
IsDue state (commands.Ask query) due = (answer : Result (List ℕ) CommandRefusal) × IsAnswer state query answer × (due ≡ asked state answer)
IsDue state (commands.Change change) due = changed state change ≡ due
IsDue state (commands.Search search) due = IsOnlyOr (searched state search) (IsFound state search due) due

-- a reply that the command may get
abbrev pub Replies : SessionState → Command → Result Reply CommandRefusal → Type 0
Replies state command reply = (due : Result Reply CommandRefusal) × IsDue state command due × IsReply due (want_of state command) reply

-- the lines of an answer, which its end follows
abbrev pub lines_in : Result Reply CommandRefusal → List ℕ
lines_in (Ok reply) = reply.lines
lines_in (Err refusal) = []

-- the end of an answer
abbrev pub end_of : Result (Unit {0}) CommandRefusal → List ℕ
end_of (Ok done) = accepted
end_of (Err refusal) = refused refusal

abbrev pub text_of : Result Reply CommandRefusal → List ℕ
text_of (Ok reply) = reply.lines ++ accepted
text_of (Err refusal) = refused refusal

-- a refused command changes nothing
abbrev pub state_after : SessionState → Result Reply CommandRefusal → SessionState
state_after state (Ok reply) = reply.state
state_after state (Err refusal) = state

-- how a command with this reply ended
abbrev pub ended_by : Result Reply CommandRefusal → Result (Unit {0}) CommandRefusal
ended_by (Ok reply) = Ok tt
ended_by (Err refusal) = Err refusal

abbrev pub step_of : Result Reply CommandRefusal → Step
step_of (Ok reply) = Accepted
step_of (Err refusal) = Refused

-- The lines of an allowed reply were written to a writer, or a prefix of them if the writer failed. Its effect remains in
-- both cases.
pub record AnswersBy {S E : Type 0} (transcript : S → List ℕ) (failures : S → ℕ) (state : SessionState) (due : Result Reply CommandRefusal) (want : Option CommandRefusal) (result : Result (Result (Unit {0}) CommandRefusal) E) (after : SessionState) (old new : S) : Type 0 where
  pub reply : Result Reply CommandRefusal
  pub fits : IsReply due want reply
  pub effect : after ≡ state_after state reply
  pub sends : Sends transcript failures old new result (lines_in reply)
  pub ends : IfOk result (λ ended. ended ≡ ended_by reply)

-- an edit of the grid or the dictionary was made or refused, and the lines of its answer were written
abbrev pub AnswersEdit : {S E : Type 0} → (S → List ℕ) → (S → ℕ) → SessionState → Edit → Result (Result (Unit {0}) CommandRefusal) E → SessionState → S → S → Type 0
AnswersEdit transcript failures state edit result left old new =
    AnswersBy transcript failures state (moved state (after state.engine (action_of edit))) (want_of_action state (action_of edit)) result left old new

-- the command was executed, and the lines of its answer were written
abbrev pub AnswersTo : {S E : Type 0} → (S → List ℕ) → (S → ℕ) → SessionState → Command → Result (Result (Unit {0}) CommandRefusal) E → SessionState → S → S → Type 0
AnswersTo transcript failures state command result after old new =
    (due : Result Reply CommandRefusal) × IsDue state command due × AnswersBy transcript failures state due (want_of state command) result after old new

-- the lines of the answer to a query were written, and the state stays as it was
abbrev pub AnswersQuery : {S E : Type 0} → (S → List ℕ) → (S → ℕ) → SessionState → Query → Result (Result (Unit {0}) CommandRefusal) E → S → S → Type 0
AnswersQuery transcript failures state query result old new = AnswersTo transcript failures state (commands.Ask query) result state old new

abbrev pub AnswersChange : {S E : Type 0} → (S → List ℕ) → (S → ℕ) → SessionState → Change → Result (Result (Unit {0}) CommandRefusal) E → SessionState → S → S → Type 0
AnswersChange transcript failures state change result after old new = AnswersTo transcript failures state (commands.Change change) result after old new

abbrev pub AnswersSearch : {S E : Type 0} → (S → List ℕ) → (S → ℕ) → SessionState → Search → Result (Result (Unit {0}) CommandRefusal) E → SessionState → S → S → Type 0
AnswersSearch transcript failures state search result after old new = AnswersTo transcript failures state (commands.Search search) result after old new

-- ---- what single functions of a session do

-- a command was accepted if its lines were written
abbrev pub accepted_by : {E : Type 0} → Result (Unit {0}) E → Result (Result (Unit {0}) CommandRefusal) E
accepted_by (Ok done) = Ok (Ok done)
accepted_by (Err error) = Err error

-- the change stands for this edit of the engine, or is refused before any edit
abbrev pub Asks : SessionState → Change → Result Edit Refusal → Type 0
Asks state change (Ok edit) = (changed state change ≡ moved state (after state.engine (action_of edit))) × (want_of_change state change ≡ want_of_action state (action_of edit))
Asks state change (Err refusal) = changed state change ≡ Err (refusals.Engine refusal)

-- the result of a command without answer lines, as a reply
abbrev pub reply_of : {T : Type 0} → Result T CommandRefusal → SessionState → Result Reply CommandRefusal
reply_of (Ok u) state = Ok (record { lines = []; state = state })
reply_of (Err refusal) state = Err refusal

-- what the engine gave, as a reply with its lines, or its refusal
abbrev pub lines_reply : {T : Type 0} → (T → List ℕ) → Result T Refusal → SessionState → Result Reply CommandRefusal
lines_reply lines (Ok given) state = Ok (record { lines = lines given; state = state })
lines_reply lines (Err refusal) state = Err (refusals.Engine refusal)

-- the changed cells of an edit if the watch is on
abbrev pub watched_lines : Bool → Changed → List ℕ
watched_lines is_watched changed = if is_watched then flat_map change_line (spelled_out (changes_left changed)) else []

-- the result of a search for a reason, as a reply with its entries
abbrev pub why_reply : Grid → Result (Vec (Option ℕ) Global) NoReason → SessionState → Result Reply CommandRefusal
why_reply grid (Ok entries) state = Ok (record { lines = entry_lines grid entries.items; state = state })
why_reply grid (Err refusal) state = Err (refusal_without_reason refusal)

-- A change was made or refused, and left the state that its reply has.
abbrev pub Edits : {T : Type 0} → SessionState → Change → Result T CommandRefusal → SessionState → Type 0
Edits state change result after = IsReply (changed state change) (want_of_change state change) (reply_of result after) × (after ≡ state_after state (reply_of result after))

-- A change was begun: it was made or refused, or it asks for this and nothing has changed.
abbrev pub IsBegun : SessionState → Change → Result Asked CommandRefusal → SessionState → Type 0
IsBegun state change (Ok asked_for.Nothing) after = Edits {T = Unit {0}} state change (Ok tt) after
IsBegun state change (Ok (asked_for.Edit edit)) after = Asks state change (Ok edit) × (after ≡ state)
IsBegun state change (Ok (asked_for.Clue named text)) after = (change ≡ changes.Clue named text.now) × (after ≡ state)
IsBegun state change (Ok (asked_for.Erase named)) after = (change ≡ changes.Erase named) × (after ≡ state)
IsBegun state change (Ok (asked_for.Size width height)) after = (change ≡ changes.Size width height) × (after ≡ state)
IsBegun state change (Err refusal) after = Edits {T = Unit {0}} state change (Err refusal) after

-- The command was executed or refused, whatever was written: it got an allowed reply, ended in this way, and left this
-- state.
pub record IsExecuted (state : SessionState) (command : Command) (ended : Result (Unit {0}) CommandRefusal) (after : SessionState) : Type 0 where
  pub reply : Result Reply CommandRefusal
  pub fits : Replies state command reply
  pub is : ended ≡ ended_by reply
  pub effect : after ≡ state_after state reply

-- ---- lines

-- the outcome of a line whose command ended in this way
abbrev pub step_by : Result (Unit {0}) CommandRefusal → Step
step_by (Ok done) = Accepted
step_by (Err refusal) = Refused

-- The outcome of a parsed line, its answer, and the state after it.
abbrev pub AnswersParsed : SessionState → Result (Option Command) SyntaxFault → Step → List ℕ → SessionState → Type 0
AnswersParsed state (Ok None) step answer after = (step ≡ Silent) × (answer ≡ []) × (after ≡ state)
AnswersParsed state (Ok (Some command)) step answer after =
    (reply : Result Reply CommandRefusal) × Replies state command reply × (step ≡ step_of reply) × (answer ≡ text_of reply) × (after ≡ state_after state reply)
AnswersParsed state (Err fault) step answer after = (step ≡ Refused) × (answer ≡ refused (refusals.Syntax fault)) × (after ≡ state)

abbrev pub Answers : SessionState → List ℕ → Step → List ℕ → SessionState → Type 0
Answers state line = AnswersParsed state (command_of line)

-- The parsed line was answered on a writer, or a prefix of an answer was written if the writer failed. Its effect
-- remains in both cases.
pub record AnswersParsedBy {S E : Type 0} (transcript : S → List ℕ) (failures : S → ℕ) (state : SessionState) (parsed : Result (Option Command) SyntaxFault) (result : Result Step E) (after : SessionState) (old new : S) : Type 0 where
  pub outcome : Step
  pub answer : List ℕ
  pub fits : AnswersParsed state parsed outcome answer after
  pub sends : Sends transcript failures old new result answer
  pub is : IfOk result (λ s. s ≡ outcome)

-- the line was answered on a writer, as `AnswersParsedBy` says of a parsed line
abbrev pub AnswersLine : {S E : Type 0} → (S → List ℕ) → (S → ℕ) → SessionState → List ℕ → Result Step E → SessionState → S → S → Type 0
AnswersLine transcript failures state line result after old new = AnswersParsedBy transcript failures state (command_of line) result after old new
