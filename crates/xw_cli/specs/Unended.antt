-- What follows a last line without an LF that changed the session: it is told, and the session before the line is kept.
use Rattle.std.specs.Prelude.{◌≡◌, ◌⊎◌, ℕ, Bool, true, false, MatchBool, bytes_eq, List, Option, Some, None, Result, Ok, Err, codes}
use Rattle.std.specs.Borrow.{Bor}
use Rattle.xw_session.specs.State.{SessionState}
use Rattle.xw_arguments.specs.declared.arguments.SessionFiles.{SessionFiles}
use Rattle.xw_desk.specs.declared.failure.Failure.{Failure}
use Rattle.xw_desk.specs.declared.failure.Failure.TheVariants as failures
use Rattle.xw_desk.specs.Desk.{Moment, Reports}
use Rattle.xw_cli.specs.SessionFiles.{file_of}
use Rattle.xw_cli_files.specs.Keeping.{KeepsBeside}

-- the report of a last line without an LF, with a sentence if failures are explained
abbrev pub unended_lines : Bool → List ℕ
unended_lines false = codes "xw: the last line had no end\n"
unended_lines true = codes "xw: the last line had no end\nxw: it was run as it stands, but its end may be missing\n"

-- the first of these names
abbrev pub name_or : Option (Bor (List ℕ)) → Option (Bor (List ℕ)) → Option (Bor (List ℕ))
name_or (Some name) other = Some name
name_or None other = other

-- the file of the call that has the session after the last line: the one for the record, or else the journal
abbrev pub record_file : SessionFiles → Option (Bor (List ℕ))
record_file files = name_or files.save_file files.journal_file

-- The last line is reported, and then the session before it is kept.
pub record TellsUnended (beside : Option (Bor (List ℕ))) (bytes : List ℕ) (kept : Result (Unit {0}) Failure) (old new : Moment) : Type 0 where
  pub mid : Moment
  pub told : Reports (unended_lines old.explains) old mid
  pub keeps : KeepsBeside beside bytes kept mid new

-- What follows the end of a session in this state, if these bytes are the file of the session before a last line without an
-- LF: nothing if the line changed nothing, since the file of the session is the same. Or an allocation failed.
abbrev pub KeepsBefore : SessionFiles → Option (List ℕ) → SessionState → Result (Unit {0}) Failure → Moment → Moment → Type 0
KeepsBefore files None state kept old new = (kept ≡ Ok tt) × (new ≡ old)
KeepsBefore files (Some bytes) state kept old new =
    MatchBool (bytes_eq bytes (file_of state)) ((kept ≡ Ok tt) × (new ≡ old)) (TellsUnended (record_file files) bytes kept old new) ⊎ ((kept ≡ Err failures.Memory) × (new ≡ old))
