-- What a call does, and which failures may end it.
use Rattle.std.specs.Prelude.{◌≡◌, ◌⊎◌, ◌||◌, ℕ, nat_lt, Bool, true, false, List, [], Option, Some, None, Result, Ok, Err, IfErr, IsErr, MatchResult, codes, is_some, map}
use Rattle.std.specs.Borrow.{Bor}
use Rattle.xw_words.specs.Dictionary.{Dictionary}
use Rattle.xw_grid.specs.Puzzle.{PuzzleShown}
use Rattle.xw_files.specs.declared.kind.Kind.{Kind}
use Rattle.xw_journal.specs.Journal.{AnswersJournaled, JournaledState, StopsAtJournal}
use Rattle.xw_journal.specs.declared.cause.Cause.{Cause}
use Rattle.xw_journal.specs.declared.cause.Cause.TheVariants as causes
use Rattle.xw_lines.specs.Spoken.{NeverStops}
use Rattle.xw_lines.specs.declared.outcome.RunEnd.{RunEnd}
use Rattle.xw_lines.specs.declared.outcome.RunEnd.TheVariants.{Stopped}
use Rattle.xw_session.specs.Answer.{Answers}
use Rattle.xw_session.specs.Opening.{empty_puzzle, opened_on, puzzle_of}
use Rattle.xw_session.specs.State.{SessionState}
use Rattle.xw_disk.specs.Disk.{take_lines}
use Rattle.xw_arguments.specs.declared.arguments.Call.{Call}
use Rattle.xw_arguments.specs.declared.arguments.Call.TheVariants.{Edit, Convert, Check}
use Rattle.xw_arguments.specs.declared.arguments.SessionFiles.{SessionFiles}
use Rattle.xw_arguments.specs.Calls.{is_explained}
use Rattle.xw_desk.specs.declared.failure.Failure.{Failure}
use Rattle.xw_desk.specs.declared.failure.Failure.TheVariants as failures
use Rattle.xw_desk.specs.declared.failure.ExitStatus.{ExitStatus}
use Rattle.xw_desk.specs.declared.failure.ExitStatus.TheVariants.{Accepted}
use Rattle.xw_desk.specs.Apart.{AreInUse, AreUnwritable, AreWritable, IsNotApart}
use Rattle.xw_desk.specs.Checked.{IsCheckOf}
use Rattle.xw_desk.specs.Desk.{Asks, Moment, ReportsIf}
use Rattle.xw_desk.specs.Explained.{IsReported, IsTold}
use Rattle.xw_desk.specs.Files.{IfNamed, IsFound, IsUnread}
use Rattle.xw_desk.specs.ExitStatus.{run_ended}
use Rattle.xw_desk.specs.Failures.{IsCannotWrite, IsReplaced}
use Rattle.xw_cli.specs.Answered.{AnswersInput, HasBefore}
use Rattle.xw_cli.specs.Journals.{HasReplayed, IsEnded, IsUnended, IsUnreplayed}
use Rattle.xw_cli.specs.declared.session_files.Refusals.{Refusals}
use Rattle.xw_cli.specs.Unended.{KeepsBefore}
use Rattle.xw_cli_files.specs.Put.{is_kept, of_session, IsNotPutOver, IsPutOver}
use Rattle.xw_cli_files.specs.Saved.{IsNotOver, IsOver, Leaves}
use Rattle.xw_cli.specs.SessionFiles.{IsResumed, file_of}
use Rattle.xw_cli_files.specs.WordLists.{HasWords, HasNoWords}
use Rattle.xw_cli_files.specs.Converted.{IsConverted, IsUnconverted}

-- ---- the start of a session

-- the puzzle that a session begins with: an empty one, or the one that the bytes of the named file mean
abbrev pub HasPuzzle : Option (Bor (List ℕ)) → PuzzleShown → Moment → Moment → Type 0
HasPuzzle None puzzle old new = (puzzle ≡ empty_puzzle) × (new ≡ old)
HasPuzzle (Some file) puzzle old new = (kind : Kind) × IsFound file.now kind puzzle old new

-- The word list and then the puzzle were read, for the files that are named.
pub record HasBoth (files : SessionFiles) (words : Dictionary) (puzzle : PuzzleShown) (old new : Moment) : Type 0 where
  pub mid : Moment
  pub has_words : HasWords files.dict words old mid
  pub has_puzzle : HasPuzzle files.from_file puzzle mid new

-- A session begins in this state with the files that are named.
pub record IsOpened (files : SessionFiles) (state : SessionState) (old new : Moment) : Type 0 where
  pub words : Dictionary
  pub puzzle : PuzzleShown
  pub has_both : HasBoth files words puzzle old new
  pub opened : state ≡ opened_on words puzzle

-- The word list was read, and then the puzzle was not.
pub record IsNoPuzzle (files : SessionFiles) (failure : Failure) (old new : Moment) : Type 0 where
  pub words : Dictionary
  pub mid : Moment
  pub has_words : HasWords files.dict words old mid
  pub why : IfNamed files.from_file (λ name. IsUnread name failure mid new)

-- The word list and the puzzle were read, and then an allocation failed.
pub record IsUnbuilt (files : SessionFiles) (failure : Failure) (old new : Moment) : Type 0 where
  pub words : Dictionary
  pub puzzle : PuzzleShown
  pub has_both : HasBoth files words puzzle old new
  pub memory : failure ≡ failures.Memory

-- why a session is not opened
abbrev pub IsUnopened : SessionFiles → Failure → Moment → Moment → Type 0
IsUnopened files failure old new = HasNoWords files.dict failure old new ⊎ (IsNoPuzzle files failure old new ⊎ IsUnbuilt files failure old new)

-- the commands of the named file are replayed, and those that are refused are reported, after a report of lines that
-- were cut
abbrev pub HasResumed : Option (Bor (List ℕ)) → SessionState → Refusals → SessionState → Moment → Moment → Type 0
HasResumed None start refused state old new = (refused.count ≡ 0) × (state ≡ start) × (new ≡ old)
HasResumed (Some file) start refused state old new = IsResumed file.now start state (Ok refused) old new

-- why no commands are resumed
abbrev pub IsUnresumed : List ℕ → SessionState → Failure → Moment → Moment → Type 0
IsUnresumed name start failure old new = (state : SessionState) × IsResumed name start state (Err failure) old new

-- ---- the end of a session

-- the session is saved if a file for it is named
abbrev pub IsSaved : Option (Bor (List ℕ)) → Bool → SessionState → Moment → Moment → Type 0
IsSaved None is_loss state old new = new ≡ old
IsSaved (Some file) is_loss state old new = IsOver file.now is_loss (file_of state) old new

-- The file with this name does not get the record of the session, which is then left in another file.
pub record IsUnsaved (files : SessionFiles) (name : List ℕ) (is_loss : Bool) (state : SessionState) (failure : Failure) (old new : Moment) : Type 0 where
  pub first : Failure
  pub mid : Moment
  pub why : IsNotOver files name is_loss (file_of state) first old mid
  pub leaves : Leaves name (file_of state) first failure mid new

-- why the session is not saved
abbrev pub IsNotSaved : SessionFiles → Bool → SessionState → Failure → Moment → Moment → Type 0
IsNotSaved files is_loss state failure old new =
    ((failure ≡ failures.Memory) × (new ≡ old)) ⊎ IfNamed files.save_file (λ name. IsUnsaved files name is_loss state failure old new)

-- whether the session is saved
abbrev pub Saves : SessionFiles → Refusals → SessionState → Result (Unit {0}) Failure → Moment → Moment → Type 0
Saves files refused state (Ok done) old new = IsSaved files.save_file (nat_lt 0 refused.count) state old new
Saves files refused state (Err failure) old new = IsNotSaved files (nat_lt 0 refused.count) state failure old new

-- whether the journal that is named ends with the record of the session
abbrev pub EndsJournal : Option (Bor (List ℕ)) → ℕ → SessionState → Result (Unit {0}) Failure → Moment → Moment → Type 0
EndsJournal None refused state ended old new = (ended ≡ Ok tt) × (new ≡ old)
EndsJournal (Some file) refused state (Ok done) old new = IsEnded file.now refused state old new
EndsJournal (Some file) refused state (Err failure) old new = IsUnended file.now state failure old new

-- the puzzle is written if a file for it is named
abbrev pub IsPut : Option (Bor (List ℕ)) → PuzzleShown → Moment → Moment → Type 0
IsPut None puzzle old new = new ≡ old
IsPut (Some file) puzzle old new = IsPutOver file.now puzzle old new

-- The file with this name does not get the puzzle of the session.
pub record IsNotPutFor (files : SessionFiles) (puzzle : PuzzleShown) (failure : Failure) (name : List ℕ) (old new : Moment) : Type 0 where
  pub first : Failure
  pub why : IsNotPutOver name puzzle first old new
  pub told : failure ≡ of_session (is_kept files) first

-- why the puzzle of a session is not written
abbrev pub IsNotPut : SessionFiles → PuzzleShown → Failure → Moment → Moment → Type 0
IsNotPut files puzzle failure old new = (IsNotApart files failure × (new ≡ old)) ⊎ IfNamed files.to_file (λ name. IsNotPutFor files puzzle failure name old new)

-- whether the puzzle of a session is written, with the status of its run
abbrev pub Puts : SessionFiles → PuzzleShown → ExitStatus → Result ExitStatus Failure → Moment → Moment → Type 0
Puts files puzzle status (Ok told) old new = (told ≡ status) × IsPut files.to_file puzzle old new
Puts files puzzle status (Err failure) old new = IsNotPut files puzzle failure old new

-- What follows when the session is saved: the journal is ended, and then the puzzle is written. Nothing follows a
-- failure.
pub record Closes (files : SessionFiles) (refused : ℕ) (state : SessionState) (status : ExitStatus) (result : Result ExitStatus Failure) (old new : Moment) : Type 0 where
  pub ended : Result (Unit {0}) Failure
  pub mid : Moment
  pub ends : EndsJournal files.journal_file refused state ended old mid
  pub puts : MatchResult ended (λ _. Puts files (puzzle_of state) status result mid new) (λ failure. (result ≡ Err failure) × (new ≡ mid))

-- The puzzle is not written, and the failure that prevented it is reported.
pub record IsToldUnput (files : SessionFiles) (puzzle : PuzzleShown) (old new : Moment) : Type 0 where
  pub failure : Failure
  pub mid : Moment
  pub unput : IsNotPut files puzzle failure old mid
  pub status : ExitStatus
  pub told : IsTold failure mid new status

-- What follows when the session is not saved: this is reported, and its status is that of the call. The journal stays.
-- The puzzle is written all the same; if it is not, this is reported too.
pub record StillPuts (files : SessionFiles) (state : SessionState) (failure : Failure) (status : ExitStatus) (old new : Moment) : Type 0 where
  pub mid : Moment
  pub unsaved : IsTold failure old mid status
  pub puts : IsPut files.to_file (puzzle_of state) mid new ⊎ IsToldUnput files (puzzle_of state) mid new

-- How a session ends that answered its input or failed, in this state. It is saved in any case. A failure to answer
-- then ends the call, and neither the journal nor the puzzle is written.
pub record Ends (files : SessionFiles) (refused : Refusals) (state : SessionState) (answered result : Result ExitStatus Failure) (old new : Moment) : Type 0 where
  pub saved : Result (Unit {0}) Failure
  pub mid : Moment
  pub saves : Saves files refused state saved old mid
  pub closes : MatchResult answered
      (λ status. MatchResult saved (λ _. Closes files refused.count state status result mid new) (λ failure. (code : ExitStatus) × (result ≡ Ok code) × StillPuts files state failure code mid new))
      (λ failure. (result ≡ Err failure) × (new ≡ mid))

-- the failure of a call whose session ended in the first way, and for which a session before was then kept in the second
abbrev pub first_failure : Result ExitStatus Failure → Result (Unit {0}) Failure → Result ExitStatus Failure
first_failure (Err failure) kept = Err failure
first_failure (Ok status) (Err failure) = Err failure
first_failure (Ok status) (Ok done) = Ok status

-- A session ends in this state, and then the session before a last line without an LF is kept, if these bytes are the file
-- of it.
pub record EndsAfter (files : SessionFiles) (refused : Refusals) (before : Option (List ℕ)) (state : SessionState) (answered result : Result ExitStatus Failure) (old new : Moment) : Type 0 where
  pub ended : Result ExitStatus Failure
  pub mid : Moment
  pub ends : Ends files refused state answered ended old mid
  pub kept : Result (Unit {0}) Failure
  pub keeps : KeepsBefore files before state kept mid new
  pub is : result ≡ first_failure ended kept

-- ---- a session

-- what greets who types commands; the second line is for a session that no file keeps
abbrev pub greeting : Bool → List ℕ
greeting true = codes "xw: type one command per line; help lists them, and Ctrl D ends the session\n"
greeting false = codes "xw: type one command per line; help lists them, and Ctrl D ends the session\nxw: the session is not kept; --save or --journal keeps it\n"

-- A session answers the input from this state, and ends. In a dialogue it greets first. These lines were refused before. The
-- session before a last line without an LF is kept.
pub record IsSessionRun (files : SessionFiles) (before : Refusals) (start : SessionState) (result : Result ExitStatus Failure) (old new : Moment) : Type 0 where
  pub greeted : Moment
  pub greets : ReportsIf old.is_dialogue (greeting (is_some files.save_file)) old greeted
  pub left : SessionState
  pub end : RunEnd
  pub mid : Moment
  pub answers : AnswersInput Answers NeverStops end start left greeted mid
  pub file_before : Option (List ℕ)
  pub has_before : HasBefore Answers (λ state. state) file_before end start greeted mid
  pub ends : EndsAfter files before file_before left (run_ended before.count end) result mid new

-- From its first state a session resumes the commands that are named, answers the input, and ends.
pub record IsSession (files : SessionFiles) (opened : SessionState) (result : Result ExitStatus Failure) (old new : Moment) : Type 0 where
  pub before : Refusals
  pub resumed : SessionState
  pub mid : Moment
  pub has_resumed : HasResumed files.resume_file opened before resumed old mid
  pub is_run : IsSessionRun files before resumed result mid new

-- how a run with a journal is answered: if the journal stopped it, its cause is the failure
abbrev pub IsJournalEnd : List ℕ → ℕ → RunEnd → Option Cause → Result ExitStatus Failure → Type 0
IsJournalEnd name before Stopped (Some causes.Memory) answered = answered ≡ Err failures.Memory
IsJournalEnd name before Stopped other answered = IfErr answered (λ failure. IsCannotWrite name failure ⊎ IsReplaced name failure) × IsErr answered
IsJournalEnd name before end cause answered = answered ≡ run_ended before end

-- A session answers the input from this state, with each change in the journal before its answer is finished. In a
-- dialogue it greets first. The journal takes these lines, and the session ends. The session before a last line without an LF
-- is kept.
pub record IsJournalRun (name : List ℕ) (files : SessionFiles) (before : Refusals) (start : JournaledState) (result : Result ExitStatus Failure) (old new : Moment) : Type 0 where
  pub greeted : Moment
  pub greets : ReportsIf old.is_dialogue (greeting true) old greeted
  pub left : JournaledState
  pub end : RunEnd
  pub mid : Moment
  pub answers : AnswersInput AnswersJournaled StopsAtJournal end start left greeted mid
  pub file_before : Option (List ℕ)
  pub has_before : HasBefore AnswersJournaled (λ journaled. journaled.state) file_before end start greeted mid
  pub taken : Moment
  pub takes : Asks (take_lines name left.journal) mid taken
  pub answered : Result ExitStatus Failure
  pub answered_is : IsJournalEnd name before.count end left.cause answered
  pub ends : EndsAfter files before file_before left.state answered result taken new

-- From its first state a session replays the journal with this name, answers the input, and ends.
pub record IsJournaled (name : List ℕ) (files : SessionFiles) (opened : SessionState) (result : Result ExitStatus Failure) (old new : Moment) : Type 0 where
  pub before : Refusals
  pub replayed : SessionState
  pub mid : Moment
  pub has_replayed : HasReplayed name files.is_synced opened before replayed old mid
  pub is_run : IsJournalRun name files before (record { state = replayed; journal = []; failures = 0; cause = None }) result mid new

-- ---- edit

-- why a session is not run: the failure ends the call before the input is read
abbrev pub IsUnrun : Option (Bor (List ℕ)) → SessionFiles → SessionState → Failure → Moment → Moment → Type 0
IsUnrun None files opened failure old new = IfNamed files.resume_file (λ name. IsUnresumed name opened failure old new)
IsUnrun (Some file) files opened failure old new = IsUnreplayed file.now files.is_synced opened failure old new

-- what a session does from its first state, with or without a journal
abbrev pub IsRunWith : Option (Bor (List ℕ)) → SessionFiles → SessionState → Result ExitStatus Failure → Moment → Moment → Type 0
IsRunWith None files opened result old new = IsSession files opened result old new
IsRunWith (Some file) files opened result old new = IsJournaled file.now files opened result old new

-- a session is run from its first state, or a failure ends the call before
abbrev pub RunsOrFails : Option (Bor (List ℕ)) → SessionFiles → SessionState → Result ExitStatus Failure → Moment → Moment → Type 0
RunsOrFails journal files opened result old new =
    IsRunWith journal files opened result old new ⊎ MatchResult result (λ _. ⊥) (λ failure. IsUnrun journal files opened failure old new)

-- A session is opened with the files that are named, and run.
pub record IsEdited (files : SessionFiles) (result : Result ExitStatus Failure) (old new : Moment) : Type 0 where
  pub opened : SessionState
  pub mid : Moment
  pub is_opened : IsOpened files opened old mid
  pub is_run : IsRunWith files.journal_file files opened result mid new

-- A session is opened, and not run.
pub record IsOpenedInVain (files : SessionFiles) (failure : Failure) (old new : Moment) : Type 0 where
  pub opened : SessionState
  pub mid : Moment
  pub is_opened : IsOpened files opened old mid
  pub unrun : IsUnrun files.journal_file files opened failure mid new

-- a session is opened and run, or a failure ends the call before: a file to start with has a fault, or no session is run
abbrev pub OpensOrFails : SessionFiles → Result ExitStatus Failure → Moment → Moment → Type 0
OpensOrFails files result old new =
    IsEdited files result old new ⊎ MatchResult result (λ _. ⊥) (λ failure. IsUnopened files failure old new ⊎ IsOpenedInVain files failure old new)

-- why no file is opened: files that must differ are one, or a file to write is the journal of another program or cannot be
-- written
abbrev pub AreNotKept : SessionFiles → Failure → Moment → Moment → Type 0
AreNotKept files failure old new = ((IsNotApart files failure ⊎ AreInUse files failure) × (new ≡ old)) ⊎ AreUnwritable files failure old new

-- The files to write can be written, and then a session is run, or a failure ends the call before.
pub record EditsWritable (files : SessionFiles) (result : Result ExitStatus Failure) (old new : Moment) : Type 0 where
  pub mid : Moment
  pub writable : AreWritable files old mid
  pub opens : OpensOrFails files result mid new

-- a session is run, or a failure ends the call before; no file is replaced then
abbrev pub EditsOrFails : SessionFiles → Result ExitStatus Failure → Moment → Moment → Type 0
EditsOrFails files result old new = EditsWritable files result old new ⊎ MatchResult result (λ _. ⊥) (λ failure. AreNotKept files failure old new)

-- ---- any call

-- what a call does, and how it ends
abbrev pub IsPerformed : Call → Result ExitStatus Failure → Moment → Moment → Type 0
IsPerformed (Edit files explain) result old new = EditsOrFails files result old new
IsPerformed (Convert from_file to_file explain) result old new =
    MatchResult result (λ status. (status ≡ Accepted) × IsConverted from_file.now to_file.now old new) (λ failure. IsUnconverted from_file.now to_file.now failure old new)
IsPerformed (Check files explain) result old new = IsCheckOf (map (λ file. file.now) files.items) result old new

-- The call did this, and ended so. A failure was reported, with its status. Failures are explained if the call asks for
-- it or the messages go to a terminal.
pub record Performs (call : Call) (status : ExitStatus) (old new : Moment) : Type 0 where
  pub result : Result ExitStatus Failure
  pub mid : Moment
  pub performed : IsPerformed call result (record old { explains = is_explained call || old.is_terminal }) mid
  pub told : MatchResult result (λ told. (status ≡ told) × (new ≡ mid)) (λ failure. IsReported failure mid new status)
