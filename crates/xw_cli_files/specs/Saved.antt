-- How a session replaces a file: what is kept of the file before, and where the session is left if it does not.
use Rattle.std.specs.Prelude.{◌≡◌, ◌⊎◌, ◌++◌, codes, ℕ, Bool, true, false, List, Result, Ok, Err}
use Rattle.xw_disk.specs.Disk.{leave, replace, stands}
use Rattle.xw_disk.specs.declared.disk.DiskFault.{DiskFault}
use Rattle.xw_disk.specs.declared.disk.Standing.{Standing}
use Rattle.xw_disk.specs.declared.disk.Standing.TheVariants.{Nothing, AsRead, Other}
use Rattle.xw_arguments.specs.declared.arguments.SessionFiles.{SessionFiles}
use Rattle.xw_desk.specs.declared.failure.Failure.{Failure}
use Rattle.xw_desk.specs.declared.failure.Failure.TheVariants as failures
use Rattle.xw_desk.specs.Apart.{IsNotApart}
use Rattle.xw_desk.specs.Desk.{Asks, Moment, Reports}
use Rattle.xw_desk.specs.Files.{IsUnreplaced}
use Rattle.xw_cli_files.specs.Keeping.{IsNotKept, KeepsOld}

-- What is done with the file of this name before these bytes of a session are written over it, by what it is. It is kept if
-- the call did not read it or it has changed since, and also if a line of it is lost, which the report says then.
abbrev pub KeepsAs : Standing → Bool → List ℕ → List ℕ → Moment → Moment → Type 0
KeepsAs Nothing is_loss name bytes old new = new ≡ old
KeepsAs AsRead true name bytes old new = KeepsOld true name bytes old new
KeepsAs AsRead false name bytes old new = new ≡ old
KeepsAs Other is_loss name bytes old new = KeepsOld false name bytes old new

-- The file was to be kept, and was not, or this cannot be reported.
abbrev pub UnkeptAs : Standing → Bool → List ℕ → Failure → Moment → Moment → Type 0
UnkeptAs Nothing is_loss name failure old new = ⊥
UnkeptAs AsRead true name failure old new = IsNotKept name failure old new
UnkeptAs AsRead false name failure old new = ⊥
UnkeptAs Other is_loss name failure old new = IsNotKept name failure old new

-- The disk said what the file with this name is, and the file is kept if it has to be.
pub record Keeps (name : List ℕ) (is_loss : Bool) (bytes : List ℕ) (old new : Moment) : Type 0 where
  pub standing : Standing
  pub mid : Moment
  pub asks : Asks (stands name standing) old mid
  pub keeps : KeepsAs standing is_loss name bytes mid new

-- The file with this name has the bytes of the session.
pub record IsOver (name : List ℕ) (is_loss : Bool) (bytes : List ℕ) (old new : Moment) : Type 0 where
  pub mid : Moment
  pub keeps : Keeps name is_loss bytes old mid
  pub asks : Asks (replace name bytes (Ok tt)) mid new

-- The disk said what the file with this name is, and it is not kept though it has to be.
pub record IsNotKeptOver (name : List ℕ) (is_loss : Bool) (failure : Failure) (old new : Moment) : Type 0 where
  pub standing : Standing
  pub mid : Moment
  pub asks : Asks (stands name standing) old mid
  pub why : UnkeptAs standing is_loss name failure mid new

-- The file is kept if it has to be, and then does not get the bytes.
pub record IsKeptInVain (name : List ℕ) (is_loss : Bool) (bytes : List ℕ) (failure : Failure) (old new : Moment) : Type 0 where
  pub mid : Moment
  pub keeps : Keeps name is_loss bytes old mid
  pub unreplaced : IsUnreplaced name bytes failure mid new

-- why the file with this name does not get the bytes of the session
abbrev pub IsNotOver : SessionFiles → List ℕ → Bool → List ℕ → Failure → Moment → Moment → Type 0
IsNotOver files name is_loss bytes failure old new =
    (IsNotApart files failure × (new ≡ old)) ⊎ (IsNotKeptOver name is_loss failure old new ⊎ IsKeptInVain name is_loss bytes failure old new)

-- ---- a session that is left in another file

-- the report of a session that is not saved in the file with this name, and is left in another
abbrev pub left_line : List ℕ → List ℕ → List ℕ
left_line name place = codes "xw: " ++ name ++ codes ": not saved; the session is kept as " ++ place ++ codes "\n"

-- it is reported in which file the session is left, if it is; the failure is the first one, unless an allocation fails
abbrev pub IsLeftTold : Result (List ℕ) DiskFault → List ℕ → Failure → Failure → Moment → Moment → Type 0
IsLeftTold (Ok place) name first failure old new = ((failure ≡ first) × Reports (left_line name place) old new) ⊎ ((failure ≡ failures.Memory) × (new ≡ old))
IsLeftTold (Err fault) name first failure old new = (failure ≡ first) × (new ≡ old)

-- The bytes that the file with this name did not get were to be left in another file.
pub record IsLeft (name bytes : List ℕ) (first failure : Failure) (old new : Moment) : Type 0 where
  pub place : Result (List ℕ) DiskFault
  pub mid : Moment
  pub asks : Asks (leave name bytes place) old mid
  pub told : IsLeftTold place name first failure mid new

-- What follows the first failure, and with which failure it ends: unless an allocation failed, the bytes are left.
abbrev pub Leaves : List ℕ → List ℕ → Failure → Failure → Moment → Moment → Type 0
Leaves name bytes first failure old new = ((first ≡ failures.Memory) × (failure ≡ failures.Memory) × (new ≡ old)) ⊎ IsLeft name bytes first failure old new
