-- How a file is kept under another name before it is written over.
use Rattle.std.specs.Prelude.{◌≡◌, ◌⊎◌, ◌++◌, ℕ, bytes_eq, Bool, true, false, List, Option, Some, None, Result, Ok, Err, codes}
use Rattle.std.specs.Borrow.{Bor}
use Rattle.xw_disk.specs.Disk.{read, keep}
use Rattle.xw_disk.specs.Kept.{kept_name}
use Rattle.xw_disk.specs.declared.disk.DiskFault.{DiskFault}
use Rattle.xw_desk.specs.declared.failure.Failure.{Failure}
use Rattle.xw_desk.specs.declared.failure.Failure.TheVariants as failures
use Rattle.xw_desk.specs.Desk.{Asks, Moment, Reports}
use Rattle.xw_desk.specs.Files.{IsUnreadFile}
use Rattle.xw_desk.specs.Failures.{IsOldFaultOf}

-- what the report of an old file that is kept says of it; whether lines of it were refused
abbrev pub kept_because : Bool → List ℕ
kept_because true = codes ": refused lines; the old file is kept as "
kept_because false = codes ": the old file is kept as "

-- the report of an old file that is kept
abbrev pub old_line : Bool → List ℕ → ℕ → List ℕ
old_line is_refused name number = codes "xw: " ++ name ++ kept_because is_refused ++ kept_name name number ++ codes "\n"

-- The file with this name was read, and its bytes were to be kept beside it, under the name with this number.
pub record Copies (name : List ℕ) (number : ℕ) (answer : Result (Unit {0}) DiskFault) (old new : Moment) : Type 0 where
  pub bytes : List ℕ
  pub mid : Moment
  pub reads : Asks (read name (Ok bytes)) old mid
  pub keeps : Asks (keep name bytes number answer) mid new

-- The file with this name is kept under some number, which is reported, and whether lines of it were refused.
pub record HasKept (is_refused : Bool) (name : List ℕ) (old new : Moment) : Type 0 where
  pub number : ℕ
  pub mid : Moment
  pub copies : Copies name number (Ok tt) old mid
  pub told : Reports (old_line is_refused name number) mid new

-- The file with this name was read, and has these bytes already.
pub record HasSame (name written : List ℕ) (old new : Moment) : Type 0 where
  pub bytes : List ℕ
  pub reads : Asks (read name (Ok bytes)) old new
  pub same : bytes_eq bytes written ≡ true

-- what is done with the file of this name before other bytes are written over it: it is kept, unless it has the same
abbrev pub KeepsOld : Bool → List ℕ → List ℕ → Moment → Moment → Type 0
KeepsOld is_refused name written old new = HasSame name written old new ⊎ HasKept is_refused name old new

-- The old file was not kept, and the failure names the name that it was to get.
pub record IsNotCopied (name : List ℕ) (failure : Failure) (old new : Moment) : Type 0 where
  pub number : ℕ
  pub fault : DiskFault
  pub told : IsOldFaultOf fault name number failure
  pub copies : Copies name number (Err fault) old new

-- why the old file is not kept before the session is written over it: it was not read, it was not copied, or it was, and
-- the report of this could not be allocated
abbrev pub IsNotKept : List ℕ → Failure → Moment → Moment → Type 0
IsNotKept name failure old new =
    IsUnreadFile name failure old new ⊎ (IsNotCopied name failure old new ⊎ ((failure ≡ failures.Memory) × (number : ℕ) × Copies name number (Ok tt) old new))

-- ---- the session before a last line without an LF

-- the report of a session that is kept
abbrev pub before_line : List ℕ → ℕ → List ℕ
before_line name number = codes "xw: " ++ name ++ codes ": the session before the last line is kept as " ++ kept_name name number ++ codes "\n"

-- These bytes are kept beside the file with this name, under some number, which is reported.
pub record HasKeptBefore (name bytes : List ℕ) (old new : Moment) : Type 0 where
  pub number : ℕ
  pub mid : Moment
  pub keeps : Asks (keep name bytes number (Ok tt)) old mid
  pub told : Reports (before_line name number) mid new

-- These bytes were to be kept beside the file with this name, and were not.
pub record IsUnkeptBefore (name bytes : List ℕ) (failure : Failure) (old new : Moment) : Type 0 where
  pub number : ℕ
  pub fault : DiskFault
  pub told : IsOldFaultOf fault name number failure
  pub keeps : Asks (keep name bytes number (Err fault)) old new

-- whether these bytes are kept beside a file, if one is named; the failure may also be that of the report
abbrev pub KeepsBeside : Option (Bor (List ℕ)) → List ℕ → Result (Unit {0}) Failure → Moment → Moment → Type 0
KeepsBeside None bytes kept old new = (kept ≡ Ok tt) × (new ≡ old)
KeepsBeside (Some file) bytes (Ok done) old new = HasKeptBefore file.now bytes old new
KeepsBeside (Some file) bytes (Err failure) old new =
    IsUnkeptBefore file.now bytes failure old new ⊎ ((failure ≡ failures.Memory) × (number : ℕ) × Asks (keep file.now bytes number (Ok tt)) old new)
