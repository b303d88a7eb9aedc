-- Lines that can all be executed, as `resume` executes them.
use Rattle.std.proofs.Common.{◌≡◌, ℕ, ◌+◌, true, false, Bool, List, [], ◌∷◌, ◌++◌, Some, None, refl, sym, ◌∙◌, ap, arith, true≢false}
use Rattle.std.specs.Prelude.{Option, Result, Ok, Err, bytes_eq, option_map, is_some, if◌then◌else◌}
use Rattle.std.specs.Option.{option_and_then}
use Rattle.xw_words.specs.declared.fault.WordFault.{WordFault}
use Rattle.xw_words.specs.declared.fault.WordFault.TheVariants as words
use Rattle.xw_grid.specs.declared.fault.GridFault.TheVariants as grids
use Rattle.xw_feas.specs.declared.edit.Refusal.{Refusal}
use Rattle.xw_feas.specs.declared.edit.Refusal.TheVariants as edits
use Rattle.xw_commands.specs.declared.command.Command.{Command}
use Rattle.xw_commands.specs.declared.command.Command.TheVariants as commands
use Rattle.xw_commands.specs.declared.change.Change.{Change}
use Rattle.xw_commands.specs.declared.change.Change.TheVariants as changes
use Rattle.xw_commands.specs.declared.command.SyntaxFault.{SyntaxFault}
use Rattle.xw_commands.specs.declared.command.SyntaxFault.TheVariants as syntax
use Rattle.xw_commands.specs.declared.command.TextMode.{TextMode}
use Rattle.xw_commands.specs.declared.command.Field.{Field}
use Rattle.xw_commands.specs.Command.{command_of}
use Rattle.xw_lines.specs.declared.outcome.Step.{Step}
use Rattle.xw_lines.specs.declared.outcome.Step.TheVariants.{Silent, Accepted, Refused}
use Rattle.xw_lines.specs.Spoken.{refusals as spoken_refusals}
use Rattle.xw_answers.specs.declared.refusal.CommandRefusal.{CommandRefusal}
use Rattle.xw_answers.specs.declared.refusal.CommandRefusal.TheVariants as refusals
use Rattle.xw_session.specs.declared.resuming.Stop.TheVariants.{NoCommand, Memory}
use Rattle.xw_answers.specs.Escape.{text_spelled}
use Rattle.xw_session.specs.Reply.{reply_to, allocates, want_of, want_of_change, want_of_text, put, grid_memory}
use Rattle.xw_grid.specs.Clue.{is_circled}
use Rattle.xw_words.specs.Dictionary.{add_answer}
use Rattle.xw_words.specs.declared.bank.Added.{Added}
use Rattle.xw_words.specs.declared.bank.Added.TheVariants.{New, Returned}
use Rattle.xw_session.specs.Resuming.{AreDone, IsDone, command_fault, count, is_memory, line_fault, parsed_fault, told_of}
use Rattle.xw_session.specs.State.{SessionState, cell_of}
use Rattle.xw_answers.specs.Text.{refused}
use Rattle.xw_session_laws.specs.Replay.{left_by_line, replayed_lines, state_left, left_by, WantsMemory}
use Rattle.xw_session_laws.specs.Resumed.{LinesAreResumed}
use Rattle.xw_session_laws.proofs.AnsweredAgain.{some_left, both_replayed, line_left, line_wants}

-- ---- refusals for a failed allocation

-- the answer of a failed allocation
abbrev tells_memory : List ℕ → Bool
tells_memory answer = bytes_eq answer (refused grid_memory)

-- the answer of a refusal shows whether it is one for a failed allocation
tells : (refusal : CommandRefusal) → tells_memory (refused refusal) ≡ is_memory refusal
tells (refusals.Syntax syntax.LineTooLong) = refl
tells (refusals.Syntax syntax.Command) = refl
tells (refusals.Syntax syntax.Arguments) = refl
tells (refusals.Engine (edits.Word (words.BadLetter engine))) = refl
tells (refusals.Engine (edits.Word words.Length)) = refl
tells (refusals.Engine (edits.Word words.Known)) = refl
tells (refusals.Engine (edits.Word words.Full)) = refl
tells (refusals.Engine (edits.Word words.Unknown)) = refl
tells (refusals.Engine (edits.Word words.Memory)) = refl
tells (refusals.Engine (edits.Grid grids.Size)) = refl
tells (refusals.Engine (edits.Grid grids.OutOfGrid)) = refl
tells (refusals.Engine (edits.Grid grids.OnBlock)) = refl
tells (refusals.Engine (edits.Grid grids.Occupied)) = refl
tells (refusals.Engine (edits.Grid grids.NotSquare)) = refl
tells (refusals.Engine (edits.Grid grids.Border)) = refl
tells (refusals.Engine (edits.Grid grids.Memory)) = refl
tells (refusals.Engine edits.NoLight) = refl
tells (refusals.Engine edits.PlaceLength) = refl
tells refusals.NulByte = refl
tells refusals.Escape = refl
tells refusals.Alive = refl

same_name : (one other : CommandRefusal) → refused one ≡ refused other → is_memory one ≡ is_memory other
same_name one other e = sym (tells one) ∙ ap tells_memory e ∙ tells other

some_is : {X : Type 0} (one other : X) → Some one ≡ Some other → one ≡ other
some_is one other e = cc

grid_wanted : (refusal : CommandRefusal) → Some grid_memory ≡ Some refusal → is_memory refusal ≡ true
grid_wanted refusal e = sym (ap is_memory (some_is grid_memory refusal e))

text_wanted : (text : List ℕ) (refusal : CommandRefusal) → want_of_text text ≡ Some refusal → is_memory refusal ≡ true
text_wanted [] refusal e = cc
text_wanted (byte ∷ text) refusal e = grid_wanted refusal e

tested : (test : Bool) (refusal : CommandRefusal) → (if test then None else Some grid_memory) ≡ Some refusal → is_memory refusal ≡ true
tested true refusal e = cc
tested false refusal e = grid_wanted refusal e

allocated : (test : Bool) (refusal : CommandRefusal) → (if test then Some grid_memory else None) ≡ Some refusal → is_memory refusal ≡ true
allocated true refusal e = grid_wanted refusal e
allocated false refusal e = cc

-- what a new word wants
abbrev wanted_of : Result Added WordFault → Option Refusal
wanted_of (Ok (New index)) = Some (edits.Word words.Memory)
wanted_of (Ok (Returned index)) = None
wanted_of (Err fault) = None

word_wanted : (added : Result Added WordFault) (refusal : CommandRefusal) → option_map refusals.Engine (wanted_of added) ≡ Some refusal → is_memory refusal ≡ true
word_wanted (Ok (New index)) refusal e = sym (ap is_memory (some_is (refusals.Engine (edits.Word words.Memory)) refusal e))
word_wanted (Ok (Returned index)) refusal e = cc
word_wanted (Err fault) refusal e = cc

change_wanted : (state : SessionState) (change : Change) (refusal : CommandRefusal) → want_of_change state change ≡ Some refusal → is_memory refusal ≡ true
change_wanted state (changes.Size width height) refusal e = grid_wanted refusal e
change_wanted state (changes.Symmetry kind) refusal e = cc
change_wanted state (changes.Add word grade) refusal e = word_wanted (add_answer state.engine.words word) refusal e
change_wanted state (changes.Strike word) refusal e = cc
change_wanted state (changes.Least grade) refusal e = cc
change_wanted state (changes.Set spot letter) refusal e = cc
change_wanted state (changes.Clear spot) refusal e = cc
change_wanted state (changes.Place named word) refusal e = cc
change_wanted state (changes.Erase named) refusal e = cc
change_wanted state (changes.Block spot) refusal e = grid_wanted refusal e
change_wanted state (changes.Bar spot side) refusal e = grid_wanted refusal e
change_wanted state (changes.Clue named text) refusal e = text_wanted text refusal e
change_wanted state (changes.Write field text) refusal e = text_wanted text refusal e
change_wanted state (changes.Circle spot) refusal e = tested (is_circled state.circles (cell_of spot)) refusal e
change_wanted state (changes.Watch is_on) refusal e = cc
change_wanted state (changes.Put putting field spelling) refusal e = text_wanted spelling refusal e

wanted : (state : SessionState) (command : Command) (refusal : CommandRefusal) → want_of state command ≡ Some refusal → is_memory refusal ≡ true
wanted state (commands.Ask query) refusal e = allocated (allocates query) refusal e
wanted state (commands.Change change) refusal e = change_wanted state change refusal e
wanted state (commands.Search search) refusal e = grid_wanted refusal e

wants_memory : (state : SessionState) (found : Result (Option Command) SyntaxFault) (answer : List ℕ) (refusal : CommandRefusal) → WantsMemory state found answer → answer ≡ refused refusal → is_memory refusal ≡ true
wants_memory state (Ok None) answer refusal wants is = absurd wants
wants_memory state (Ok (Some command)) answer refusal wants is = same_name refusal wants.0 (sym is ∙ wants.2) ∙ wanted state command wants.0 wants.1
wants_memory state (Err fault) answer refusal wants is = absurd wants

-- ---- a line that leaves a state is a command

spelled_fault : (state next : SessionState) (putting : TextMode) (field : Field) (text : Option (List ℕ)) → state_left (put state putting field text) ≡ Some next → (if is_some text then None else Some refusals.Escape) ≡ None
spelled_fault state next putting field None e = cc
spelled_fault state next putting field (Some text) e = refl

no_command_fault : (state next : SessionState) (command : Command) → left_by (reply_to state command) ≡ Some next → command_fault (Some command) ≡ None
no_command_fault state next (commands.Change (changes.Put putting field spelling)) e = spelled_fault state next putting field (text_spelled spelling) e
no_command_fault state next command e = refl

no_fault : (state next : SessionState) (found : Result (Option Command) SyntaxFault) → left_by_line state found ≡ Some next → parsed_fault found ≡ None
no_fault state next (Ok None) e = refl
no_fault state next (Ok (Some command)) e = no_command_fault state next command e
no_fault state next (Err fault) e = cc

-- ---- one line

not_counted : (step : Step) → (step ≡ Refused → ⊥) → spoken_refusals step ≡ 0
not_counted Silent other = refl
not_counted Accepted other = refl
not_counted Refused other = absurd (other refl)

-- a line that leaves a state is not refused when it is resumed, and leaves this state
line_resumed : (state mid next : SessionState) (line : List ℕ) (refusal : Option CommandRefusal) → left_by_line state (command_of line) ≡ Some next → IsDone state line refusal mid → (refusal ≡ None) × (mid ≡ next)
line_resumed state mid next line None e (command, step, answer, said, other) =
    (refl, sym (line_left state mid (command_of line) step answer next e said (not_counted step other)))
line_resumed state mid next line (Some refusal) e (command, said, other) =
    let memory = wants_memory state (command_of line) (refused refusal) refusal (line_wants state mid (refused refusal) (command_of line) next e said) refl in
    absurd (true≢false (sym memory ∙ other))

-- ---- all lines

abbrev AllDone : SessionState → List ℕ → ℕ → SessionState → Type 0
AllDone whole told refused end = (refused ≡ 0) × (told ≡ []) × (end ≡ whole)

done_left : (lines : List (List ℕ)) (file : List ℕ) (number : ℕ) (state whole end : SessionState) (told : List ℕ) (refused : ℕ) → replayed_lines state lines ≡ Some whole → AreDone file number state lines told refused end → AllDone whole told refused end
done_left [] file number state whole end told refused e (none, zero, same) = (zero, none, same ∙ some_is state whole e)
done_left (line ∷ lines) file number state whole end told refused e (refusal, mid, others, more, did, rest, told-is, count-is) =
    let left = some_left (left_by_line state (command_of line)) (λ next. replayed_lines next lines) whole e in
    let onward : replayed_lines left.0 lines ≡ Some whole = sym (ap (option_and_then (λ next. replayed_lines next lines)) left.1) ∙ e in
    let one = line_resumed state mid left.0 line refusal left.1 did in
    let onward_from_mid : replayed_lines mid lines ≡ Some whole = ap (λ (next : SessionState). replayed_lines next lines) one.1 ∙ onward in
    let all = done_left lines file (number + 1) mid whole end others more onward_from_mid rest in
    let none : count refusal ≡ 0 = ap count one.0 in
    (omega (arith, count-is, none, all.0), told-is ∙ ap (λ (why : Option CommandRefusal). told_of file number why ++ others) one.0 ∙ all.1, all.2)

-- the state in which a line is reached, and that nothing was told before it
before_left : (before after : List (List ℕ)) (file line told : List ℕ) (start state whole : SessionState) (refused : ℕ) → replayed_lines start (before ++ line ∷ after) ≡ Some whole → AreDone file 1 start before told refused state
    → (told ≡ []) × (replayed_lines state (line ∷ after) ≡ Some whole)
before_left before after file line told start state whole refused e done =
    let both : option_and_then (λ mid. replayed_lines mid (line ∷ after)) (replayed_lines start before) ≡ Some whole = sym (both_replayed start before (line ∷ after)) ∙ e in
    let first = some_left (replayed_lines start before) (λ mid. replayed_lines mid (line ∷ after)) whole both in
    let all = done_left before file 1 start first.0 state told refused first.1 done in
    let onward : replayed_lines first.0 (line ∷ after) ≡ Some whole = sym (ap (option_and_then (λ mid. replayed_lines mid (line ∷ after))) first.1) ∙ both in
    (all.1, ap (λ (next : SessionState). replayed_lines next (line ∷ after)) all.2 ∙ onward)

pub lines_resumed : LinesAreResumed
lines_resumed name told start whole left lines (Ok refused) e done = done_left lines name 1 start whole left told refused e done
lines_resumed name told start whole left lines (Err (NoCommand number refusal)) e (line, fault, reached) =
    let at = before_left reached.before reached.after name line told start left whole reached.refused (ap (replayed_lines start) (sym reached.parts) ∙ e) reached.done in
    let next = some_left (left_by_line left (command_of line)) (λ next. replayed_lines next reached.after) whole at.1 in
    let none : line_fault line ≡ None = no_fault left next.0 (command_of line) next.1 in
    let both : Some refusal ≡ None = sym fault ∙ none in
    cc
lines_resumed name told start whole left lines (Err Memory) e (number, line, state, command, reached, may) =
    (before_left reached.before reached.after name line told start state whole reached.refused (ap (replayed_lines start) (sym reached.parts) ∙ e) reached.done).0
