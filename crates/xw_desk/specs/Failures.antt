-- The failures of a call: the text of each, and which failure a fault of the disk is.
use Rattle.std.specs.Prelude.{◌≡◌, ℕ, ◌++◌, List, codes, decimal}
use Rattle.xw_disk.specs.Kept.{kept_name}
use Rattle.xw_disk.specs.declared.disk.DiskFault.{DiskFault}
use Rattle.xw_disk.specs.declared.disk.DiskFault.TheVariants as faults
use Rattle.xw_desk.specs.declared.apart.FileConflict.{FileConflict}
use Rattle.xw_desk.specs.declared.apart.FileConflict.TheVariants.{ListAndWritten, PuzzleAndSession, StartAndSession, StartAndPuzzle, InputAndWritten, OutputAndOther, OtherAndJournal}
use Rattle.xw_desk.specs.declared.failure.Failure.{Failure}
use Rattle.xw_desk.specs.declared.failure.Failure.TheVariants as failures
use Rattle.xw_desk.specs.Locations.{location_text}

-- why two files of a call must not be one, behind the name of the second
abbrev pub reason : FileConflict → List ℕ
reason ListAndWritten = codes ": the word list cannot be the file to write"
reason PuzzleAndSession = codes ": the puzzle and the session cannot be written into one file"
reason StartAndSession = codes ": the session cannot be written over the puzzle to start with"
reason StartAndPuzzle = codes ": the puzzle cannot be written over the session to start with"
reason InputAndWritten = codes ": standard input cannot be the file to write"
reason OutputAndOther = codes ": standard output cannot be another file of the call"
reason OtherAndJournal = codes ": the journal cannot be another file of the call"

abbrev pub failure_text : Failure → List ℕ
failure_text failures.Input = codes "xw: input fault"
failure_text failures.Output = codes "xw: output fault"
failure_text failures.Memory = codes "xw: memory"
failure_text (failures.CannotRead file) = codes "xw: " ++ file.now ++ codes ": cannot read"
failure_text (failures.CannotWrite file) = codes "xw: " ++ file.now ++ codes ": cannot write"
failure_text (failures.InUse file) = codes "xw: " ++ file.now ++ codes ": in use"
failure_text (failures.Replaced file) = codes "xw: " ++ file.now ++ codes ": replaced"
failure_text (failures.OldUnwritable file number) = codes "xw: " ++ kept_name file.now number ++ codes ": cannot write"
failure_text (failures.File file name) = codes "xw: " ++ file.now ++ codes ": " ++ name.now
failure_text (failures.Located file name location) = codes "xw: " ++ file.now ++ codes ": " ++ name.now ++ codes "\nxw: " ++ location_text location
failure_text (failures.Line file number name) = codes "xw: " ++ file.now ++ codes ": line " ++ decimal number ++ codes ": " ++ name.now
failure_text (failures.SameFile conflict file same) = codes "xw: " ++ file.now ++ reason conflict
failure_text (failures.SavedAsPuz file) = codes "xw: " ++ file.now ++ codes ": the session cannot be written as .puz"
failure_text failures.InputTwice = codes "xw: -: standard input can be read only once"

-- ---- failures with the name of a file

-- the file with this name cannot be read
abbrev pub IsCannotRead : List ℕ → Failure → Type 0
IsCannotRead name (failures.CannotRead file) = file.now ≡ name
IsCannotRead name other = ⊥

-- the file with this name cannot be written
abbrev pub IsCannotWrite : List ℕ → Failure → Type 0
IsCannotWrite name (failures.CannotWrite file) = file.now ≡ name
IsCannotWrite name other = ⊥

-- another program has the file with this name as its journal
abbrev pub IsInUse : List ℕ → Failure → Type 0
IsInUse name (failures.InUse file) = file.now ≡ name
IsInUse name other = ⊥

-- the name no longer leads to the journal that was opened by it
abbrev pub IsReplaced : List ℕ → Failure → Type 0
IsReplaced name (failures.Replaced file) = file.now ≡ name
IsReplaced name other = ⊥

-- the failure for this fault of the disk with the file of this name
abbrev pub IsFaultOf : DiskFault → List ℕ → Failure → Type 0
IsFaultOf faults.Memory name failure = failure ≡ failures.Memory
IsFaultOf faults.Unreadable name failure = IsCannotRead name failure
IsFaultOf faults.Unwritable name failure = IsCannotWrite name failure
IsFaultOf faults.InUse name failure = IsInUse name failure
IsFaultOf faults.Replaced name failure = IsReplaced name failure

-- the old file with this name cannot be kept under the name with this number
abbrev pub IsOldUnwritable : List ℕ → ℕ → Failure → Type 0
IsOldUnwritable name number (failures.OldUnwritable file tried) = (file.now ≡ name) × (tried ≡ number)
IsOldUnwritable name number other = ⊥

-- the failure for this fault of the disk with the name with this number, under which the old file of this name is kept
abbrev pub IsOldFaultOf : DiskFault → List ℕ → ℕ → Failure → Type 0
IsOldFaultOf faults.Memory name number failure = failure ≡ failures.Memory
IsOldFaultOf other name number failure = IsOldUnwritable name number failure
