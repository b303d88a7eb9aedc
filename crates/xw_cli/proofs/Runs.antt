-- How a session is opened, and how a run over lines answers the input of a call.
use Rattle.std.proofs.Common.{◌≡◌, ◌≢◌, ◌∙◌, ◌⊎◌, inl, inr, refl, sym, ap, subst, ℕ, Bool, List, [], Result, Ok, Err, IfOk, IfErr}
use Rattle.std.specs.Prelude.{IsOkUnless, MatchOption, Option, Some, None, option_map}
use Rattle.std.specs.Borrow.{Bor}
use Rattle.xw_words.specs.Dictionary.{Dictionary}
use Rattle.xw_grid.specs.Puzzle.{PuzzleShown}
use Rattle.xw_lines.specs.Cut.{held, last_piece}
use Rattle.xw_lines.specs.Run.{IsRead, IsRun}
use Rattle.xw_lines.proofs.Cuts.{held-empty}
use Rattle.xw_lines.specs.declared.outcome.RunEnd.{RunEnd}
use Rattle.xw_lines.specs.declared.outcome.RunEnd.TheVariants.{Done, ReadFailed, WriteFailed, Stopped, Endless, Memory}
use Rattle.xw_lines.specs.declared.outcome.Step.{Step}
use Rattle.xw_session.specs.Opening.{empty_puzzle, opened_on}
use Rattle.xw_session.specs.State.{SessionState}
use Rattle.xw_arguments.specs.declared.arguments.SessionFiles.{SessionFiles}
use Rattle.xw_desk.specs.declared.failure.Failure.{Failure}
use Rattle.xw_desk.specs.declared.failure.Failure.TheVariants as failures
use Rattle.xw_desk.specs.Desk.{Moment}
use Rattle.xw_desk.specs.Files.{IfNamed, IsUnread}
use Rattle.xw_cli.specs.Answered.{AnswersInput, EndsWithLf, HasBefore, LeavesLast}
use Rattle.xw_cli.specs.SessionFiles.{file_of}
use Rattle.xw_cli.specs.Performed.{HasBoth, HasPuzzle, IsOpened, IsUnopened}
use Rattle.xw_cli_files.specs.WordLists.{HasWords}

-- the moment with this input and this output
abbrev pub with_streams : {I O : Type 0} → (I → List ℕ) → (I → Bool) → (I → ℕ) → (O → List ℕ) → (O → ℕ) → (O → Bool) → Moment → I → O → Moment
with_streams read is_at_end read_failures told write_failures is_closed moment input output =
    record moment { read = read input; is_at_end = is_at_end input; read_failures = read_failures input; told = told output; write_failures = write_failures output; is_closed = is_closed output }

pub answers_input : {S I O : Type 0} (Answers : S → List ℕ → Step → List ℕ → S → Type 0) (Stops : S → List ℕ → S → List ℕ → List ℕ → Type 0)
    (read : I → List ℕ) (is_at_end : I → Bool) (read_failures : I → ℕ) (told : O → List ℕ) (write_failures : O → ℕ) (closed : O → Bool)
    (end : RunEnd) (start left : S) (moment : Moment) (input input' : I) (output output' : O)
    → IsRun Answers Stops read is_at_end read_failures told write_failures end start left input input' output output'
    → AnswersInput Answers Stops end start left (with_streams read is_at_end read_failures told write_failures closed moment input output) (with_streams read is_at_end read_failures told write_failures closed moment input' output')
answers_input Answers Stops read is_at_end read_failures told write_failures closed (Done refused) start left moment input input' output output' run =
    (record { text = run.0; read = run.1; at_end = run.2; count = run.3; refused_is = run.4; speaks = run.5 }, refl)
answers_input Answers Stops read is_at_end read_failures told write_failures closed ReadFailed start left moment input input' output output' run =
    (record { text = run.0; first = record { read = run.1; count = run.3; speaks = run.4 }; failed = run.2 }, refl)
answers_input Answers Stops read is_at_end read_failures told write_failures closed WriteFailed start left moment input input' output output' run =
    (record { text = run.0; read = run.1; failed = run.2; stops = run.3 }, refl)
answers_input Answers Stops read is_at_end read_failures told write_failures closed Stopped start left moment input input' output output' run =
    (record { text = run.0; read = run.1; stops = run.2 }, refl)
answers_input Answers Stops read is_at_end read_failures told write_failures closed Endless start left moment input input' output output' run =
    (record { text = run.0; first = record { read = run.1; count = run.3; speaks = run.4 }; long = run.2 }, refl)
answers_input Answers Stops read is_at_end read_failures told write_failures closed Memory start left moment input input' output output' run =
    (inl (record { read = ap read run.0; told = ap told run.1; state = run.2 }), refl)

-- ---- the last line

-- the rest of an input without an LF at its end
pub leaves_last : {S I O : Type 0} (Answers : S → List ℕ → Step → List ℕ → S → Type 0) (read : I → List ℕ) (is_at_end : I → Bool) (read_failures : I → ℕ) (told : O → List ℕ) (write_failures : O → ℕ) (closed : O → Bool)
    (piece : Option (List ℕ)) (refused : ℕ) (start left : S) (moment : Moment) (input input' : I) (output output' output'' : O)
    → IsRead Answers read is_at_end read_failures told write_failures piece refused start left input input' output output' → piece ≢ Some []
    → LeavesLast Answers start left (told output') (with_streams read is_at_end read_failures told write_failures closed moment input output) (with_streams read is_at_end read_failures told write_failures closed moment input' output'')
leaves_last Answers read is_at_end read_failures told write_failures closed piece refused start left moment input input' output output' output'' r some = record {
  text = r.text;
  read = r.passed;
  at_end = r.at_end;
  no_lf = λ none. some (r.goes_on.piece-is ∙ ap held none);
  count = r.goes_on.count;
  speaks = r.goes_on.speaks;
}

-- an input that ends with an LF
pub ends_with_lf : {S I O : Type 0} (Answers : S → List ℕ → Step → List ℕ → S → Type 0) (read : I → List ℕ) (is_at_end : I → Bool) (read_failures : I → ℕ) (told : O → List ℕ) (write_failures : O → ℕ) (closed : O → Bool)
    (end : RunEnd) (piece : Option (List ℕ)) (refused : ℕ) (start left : S) (moment : Moment) (input input' : I) (output output' output'' : O)
    → IsRead Answers read is_at_end read_failures told write_failures piece refused start left input input' output output' → piece ≡ Some []
    → EndsWithLf end (with_streams read is_at_end read_failures told write_failures closed moment input output) (with_streams read is_at_end read_failures told write_failures closed moment input' output'')
ends_with_lf Answers read is_at_end read_failures told write_failures closed (Done count) piece refused start left moment input input' output output' output'' r none =
    (r.text, r.passed, held-empty (last_piece r.text) (sym r.goes_on.piece-is ∙ none))
ends_with_lf Answers read is_at_end read_failures told write_failures closed ReadFailed piece refused start left moment input input' output output' output'' r none = tt
ends_with_lf Answers read is_at_end read_failures told write_failures closed WriteFailed piece refused start left moment input input' output output' output'' r none = tt
ends_with_lf Answers read is_at_end read_failures told write_failures closed Stopped piece refused start left moment input input' output output' output'' r none = tt
ends_with_lf Answers read is_at_end read_failures told write_failures closed Endless piece refused start left moment input input' output output' output'' r none = tt
ends_with_lf Answers read is_at_end read_failures told write_failures closed Memory piece refused start left moment input input' output output' output'' r none = tt

-- the file of the session before the last line
pub has_before : {S T I O : Type 0} (Answers : S → List ℕ → Step → List ℕ → S → Type 0) (state : S → SessionState) (read : I → List ℕ) (is_at_end : I → Bool) (read_failures : I → ℕ) (told : O → List ℕ) (write_failures : O → ℕ) (closed : O → Bool)
    (bytes : T → List ℕ) (before : Option T) (end : RunEnd) (piece : Option (List ℕ)) (refused : ℕ) (start left : S) (moment : Moment) (input input' : I) (output output' output'' : O)
    → IsRead Answers read is_at_end read_failures told write_failures piece refused start left input input' output output'
    → MatchOption before (piece ≡ Some []) (λ file. (piece ≢ Some []) × (bytes file ≡ file_of (state left)))
    → HasBefore Answers state (option_map bytes before) end start (with_streams read is_at_end read_failures told write_failures closed moment input output) (with_streams read is_at_end read_failures told write_failures closed moment input' output'')
has_before Answers state read is_at_end read_failures told write_failures closed bytes (Some file) end piece refused start left moment input input' output output' output'' r has =
    (left, told output', leaves_last Answers read is_at_end read_failures told write_failures closed piece refused start left moment input input' output output' output'' r has.0, has.1)
has_before Answers state read is_at_end read_failures told write_failures closed bytes None end piece refused start left moment input input' output output' output'' r none =
    ends_with_lf Answers read is_at_end read_failures told write_failures closed end piece refused start left moment input input' output output' output'' r none

-- ---- how a session is opened

has_file : (files : SessionFiles) (words : Dictionary) (puzzle : PuzzleShown) (file : Bor (List ℕ)) (old mid new : Moment) → HasWords files.dict words old mid → files.from_file ≡ Some file
    → HasPuzzle (Some file) puzzle mid new → HasBoth files words puzzle old new
has_file files words puzzle file old mid new has from is_found =
    record { mid = mid; has_words = has; has_puzzle = subst (λ (o : Option (Bor (List ℕ))). HasPuzzle o puzzle mid new) (sym from) is_found }

has_none : (files : SessionFiles) (words : Dictionary) (old new : Moment) → HasWords files.dict words old new → files.from_file ≡ None → HasBoth files words empty_puzzle old new
has_none files words old new has from =
    record { mid = new; has_words = has; has_puzzle = subst (λ (o : Option (Bor (List ℕ))). HasPuzzle o empty_puzzle new new) (sym from) (refl, refl) }

pub opened_with : (result : Result SessionState Failure) (files : SessionFiles) (words : Dictionary) (file : Bor (List ℕ)) (old mid new : Moment) → HasWords files.dict words old mid → files.from_file ≡ Some file
    → IfOk result (λ state. (puzzle : PuzzleShown) × HasPuzzle (Some file) puzzle mid new × (state ≡ opened_on words puzzle)) → IfOk result (λ state. IsOpened files state old new)
opened_with (Ok state) files words file old mid new has from (puzzle, is_found, is) =
    record { words = words; puzzle = puzzle; has_both = has_file files words puzzle file old mid new has from is_found; opened = is }
opened_with (Err failure) files words file old mid new has from is = tt

pub unopened_with : {T : Type 0} (result : Result T Failure) (files : SessionFiles) (words : Dictionary) (file : Bor (List ℕ)) (old mid new : Moment) → HasWords files.dict words old mid → files.from_file ≡ Some file
    → IfErr result (λ failure. IsUnread file.now failure mid new ⊎ ((failure ≡ failures.Memory) × (puzzle : PuzzleShown) × HasPuzzle (Some file) puzzle mid new))
    → IfErr result (λ failure. IsUnopened files failure old new)
unopened_with (Ok session) files words file old mid new has from why = tt
unopened_with (Err failure) files words file old mid new has from (inl unread) =
    inr (inl (record { words = words; mid = mid; has_words = has; why = subst (λ (o : Option (Bor (List ℕ))). IfNamed o (λ name. IsUnread name failure mid new)) (sym from) unread }))
unopened_with (Err failure) files words file old mid new has from (inr (memory, puzzle, is_found)) =
    inr (inr (record { words = words; puzzle = puzzle; has_both = has_file files words puzzle file old mid new has from is_found; memory = memory }))

pub opened_empty : (result : Result SessionState Failure) (files : SessionFiles) (words : Dictionary) (old new : Moment) → HasWords files.dict words old new → files.from_file ≡ None
    → IfOk result (λ state. state ≡ opened_on words empty_puzzle) → IfOk result (λ state. IsOpened files state old new)
opened_empty (Ok state) files words old new has from is = record { words = words; puzzle = empty_puzzle; has_both = has_none files words old new has from; opened = is }
opened_empty (Err failure) files words old new has from is = tt

pub unopened_empty : {T : Type 0} (result : Result T Failure) (files : SessionFiles) (words : Dictionary) (old new : Moment) → HasWords files.dict words old new → files.from_file ≡ None
    → IsOkUnless result failures.Memory → IfErr result (λ failure. IsUnopened files failure old new)
unopened_empty (Ok session) files words old new has from why = tt
unopened_empty (Err failure) files words old new has from why = inr (inr (record { words = words; puzzle = empty_puzzle; has_both = has_none files words old new has from; memory = why }))
