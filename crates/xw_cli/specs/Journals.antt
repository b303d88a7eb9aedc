-- The journal of a session: what is replayed of it, how it begins and ends, and which failure ends it.
use Rattle.std.specs.Prelude.{◌≡◌, ◌⊎◌, ◌+◌, ◌++◌, ◌<◌, ℕ, Bool, List, Result, Ok, Err, codes, count_by, length, nat_lt}
use Rattle.xw_text.specs.Lines.{is_line_feed}
use Rattle.xw_journal.specs.File.{first_line, form_of, is_cut, kept_lines}
use Rattle.xw_journal.specs.declared.file.Form.{Form}
use Rattle.xw_journal.specs.declared.file.Form.TheVariants as forms
use Rattle.xw_lines.specs.Cut.{lines_of}
use Rattle.xw_session.specs.State.{SessionState}
use Rattle.xw_disk.specs.Disk.{open_, begin, find, end}
use Rattle.xw_disk.specs.declared.disk.DiskFault.{DiskFault}
use Rattle.xw_desk.specs.declared.failure.Failure.{Failure}
use Rattle.xw_desk.specs.declared.failure.Failure.TheVariants as failures
use Rattle.xw_desk.specs.Desk.{Asks, Moment, ReportsIf}
use Rattle.xw_desk.specs.Files.{IsLineFault}
use Rattle.xw_cli.specs.declared.session_files.Refusals.{Refusals}
use Rattle.xw_cli.specs.SessionFiles.{Replays, file_of, unmarked}
use Rattle.xw_cli_files.specs.ReplayReports.{cut_line}
use Rattle.xw_desk.specs.Failures.{IsFaultOf}
use Rattle.xw_cli_files.specs.JournalFiles.{IsNotOpened, IsNotFound}

-- What a journal begins with, from the bytes that its file has. If these are at most a part of the first line, it
-- begins with the first line; if they have the first line, with the bytes up to the last line that counts; if they are
-- whole lines, with the first line and then the bytes. A file whose last line is cut begins no journal.
abbrev pub Begins : Form → List ℕ → List ℕ → Type 0
Begins forms.Begun bytes begun = begun ≡ first_line
Begins forms.Named bytes begun = (lines_of begun ≡ kept_lines bytes) × (rest : List ℕ) × (bytes ≡ begun ++ rest)
Begins forms.Whole bytes begun = begun ≡ first_line ++ bytes
Begins forms.Cut bytes begun = ⊥

-- whether some of these bytes are dropped when a journal begins with them: a part of the first line, or what was cut
abbrev pub drops_in : Form → List ℕ → Bool
drops_in forms.Begun bytes = nat_lt 0 (length bytes)
drops_in form bytes = is_cut bytes

abbrev pub drops : List ℕ → Bool
drops bytes = drops_in (form_of bytes) bytes

-- The journal with this name was opened, and the lines of its bytes that count were replayed, with this result. Those
-- that were refused are reported.
pub record ReplaysOpened (name bytes : List ℕ) (start state : SessionState) (result : Result Refusals Failure) (old new : Moment) : Type 0 where
  pub mid : Moment
  pub opens : Asks (open_ name (Ok bytes)) old mid
  pub replays : Replays name (kept_lines (unmarked bytes)) start state result mid new

-- The lines of the journal with this name were replayed, and it was begun with this flag for syncing.
pub record IsBegun (name bytes : List ℕ) (is_synced : Bool) (start : SessionState) (refused : Refusals) (state : SessionState) (old new : Moment) : Type 0 where
  pub mid : Moment
  pub replays : ReplaysOpened name bytes start state (Ok refused) old mid
  pub begun : List ℕ
  pub begins : Begins (form_of (unmarked bytes)) (unmarked bytes) begun
  pub asks : Asks (begin name begun is_synced (Ok tt)) mid new

-- The journal was begun. Then it is reported that lines of it were cut, exactly if some were.
pub record HasReplayed (name : List ℕ) (is_synced : Bool) (start : SessionState) (refused : Refusals) (state : SessionState) (old new : Moment) : Type 0 where
  pub bytes : List ℕ
  pub mid : Moment
  pub is_begun : IsBegun name bytes is_synced start refused state old mid
  pub cut : ReportsIf (drops (unmarked bytes)) (cut_line name) mid new

-- why a file without the first line begins no journal: its last line, the one after all line feeds, is cut, or it has only
-- comments, as run cases show
abbrev pub IsNoJournal : List ℕ → List ℕ → Failure → Type 0
IsNoJournal name bytes failure =
    ((form_of bytes ≡ forms.Cut) × IsLineFault name (count_by is_line_feed bytes + 1) (codes "Cut") failure) ⊎ ((form_of bytes ≡ forms.Whole) × IsLineFault name 1 (codes "Command") failure)

-- The journal with this name was opened, and its file stays as it is: the replay stopped, or its lines were replayed and
-- it begins no journal.
pub record IsLeft (name : List ℕ) (start : SessionState) (failure : Failure) (old new : Moment) : Type 0 where
  pub bytes : List ℕ
  pub state : SessionState
  pub why : ReplaysOpened name bytes start state (Err failure) old new
      ⊎ ((refused : Refusals) × ReplaysOpened name bytes start state (Ok refused) old new × IsNoJournal name (unmarked bytes) failure)

-- The journal with this name was opened, its lines were replayed, and it could not be begun.
pub record IsNotBegun (name : List ℕ) (is_synced : Bool) (start : SessionState) (failure : Failure) (old new : Moment) : Type 0 where
  pub bytes : List ℕ
  pub state : SessionState
  pub refused : Refusals
  pub mid : Moment
  pub replays : ReplaysOpened name bytes start state (Ok refused) old mid
  pub begun : List ℕ
  pub begins : Begins (form_of (unmarked bytes)) (unmarked bytes) begun
  pub fault : DiskFault
  pub told : IsFaultOf fault name failure
  pub asks : Asks (begin name begun is_synced (Err fault)) mid new

-- The journal with this name was begun, and then an allocation failed: for the report that lines were cut, or after it.
pub record IsBegunInVain (name : List ℕ) (is_synced : Bool) (start : SessionState) (failure : Failure) (old new : Moment) : Type 0 where
  pub bytes : List ℕ
  pub state : SessionState
  pub refused : Refusals
  pub mid : Moment
  pub is_begun : IsBegun name bytes is_synced start refused state old mid
  pub cut : (new ≡ mid) ⊎ ReportsIf (drops (unmarked bytes)) (cut_line name) mid new
  pub memory : failure ≡ failures.Memory

-- why the lines of the journal with this name are not replayed, or no session begins with it
abbrev pub IsUnreplayed : List ℕ → Bool → SessionState → Failure → Moment → Moment → Type 0
IsUnreplayed name is_synced start failure old new =
    IsNotOpened name failure old new
    ⊎ (IsLeft name start failure old new ⊎ (IsNotBegun name is_synced start failure old new ⊎ IsBegunInVain name is_synced start failure old new))

-- ---- the end of a journal

-- The journal with this name was to be replaced by the record of the session, and was not.
pub record IsNotEnded (name : List ℕ) (state : SessionState) (failure : Failure) (old new : Moment) : Type 0 where
  pub fault : DiskFault
  pub told : IsFaultOf fault name failure
  pub asks : Asks (end name (file_of state) (Err fault)) old new

-- The name led to the journal, and then an allocation or the disk failed.
pub record IsFoundInVain (name : List ℕ) (state : SessionState) (failure : Failure) (old new : Moment) : Type 0 where
  pub mid : Moment
  pub finds : Asks (find name (Ok tt)) old mid
  pub why : ((failure ≡ failures.Memory) × (new ≡ mid)) ⊎ IsNotEnded name state failure mid new

-- why the journal with this name is not replaced by the record
abbrev pub IsUnended : List ℕ → SessionState → Failure → Moment → Moment → Type 0
IsUnended name state failure old new = IsNotFound name failure old new ⊎ IsFoundInVain name state failure old new

-- the journal with this name is replaced by the record of the session if none of its lines was refused, and otherwise
-- stays
abbrev pub Replaces : List ℕ → ℕ → SessionState → Moment → Moment → Type 0
Replaces name refused state old new = ((refused ≡ 0) × Asks (end name (file_of state) (Ok tt)) old new) ⊎ ((0 < refused) × (new ≡ old))

-- The name led to the journal, which is replaced or stays.
pub record IsEnded (name : List ℕ) (refused : ℕ) (state : SessionState) (old new : Moment) : Type 0 where
  pub mid : Moment
  pub finds : Asks (find name (Ok tt)) old mid
  pub replaces : Replaces name refused state mid new
