-- What is printed for arguments that are not a call, and for a failure.
use Rattle.std.specs.Prelude.{◌≡◌, ◌⊎◌, ◌++◌, ◌&&◌, ℕ, Bool, true, false, List, [], codes}
use Rattle.xw_arguments.specs.declared.arguments.Usage.{Usage}
use Rattle.xw_arguments.specs.declared.arguments.Usage.TheVariants.{Help, Wrong, Memory}
use Rattle.xw_desk.specs.Desk.{FailsToShow, Moment, Reports, Shows}
use Rattle.xw_desk.specs.ExitStatus.{status_of}
use Rattle.xw_desk.specs.Sentences.{sentence_if}
use Rattle.xw_desk.specs.Failures.{failure_text}
use Rattle.xw_desk.specs.declared.failure.Failure.{Failure}
use Rattle.xw_desk.specs.declared.failure.Failure.TheVariants as faults
use Rattle.xw_desk.specs.declared.failure.ExitStatus.{ExitStatus}
use Rattle.xw_desk.specs.declared.failure.ExitStatus.TheVariants.{Accepted, Failed}
use Rattle.xw_desk.specs.declared.failure.ExitStatus.TheVariants as statuses

-- a fault of the output is reported, unless its reader is gone
abbrev pub TellsOutputFault : Bool → Moment → Moment → Type 0
TellsOutputFault true old new = new ≡ old
TellsOutputFault false old new = Reports (codes "xw: output fault\n") old new

-- Help was not shown: the output failed, and this is reported, unless its reader is gone.
pub record IsHelpLost (text : List ℕ) (old new : Moment) : Type 0 where
  pub mid : Moment
  pub fails : FailsToShow text old mid
  pub told : TellsOutputFault mid.is_closed mid new

abbrev pub IsHelp : List ℕ → Moment → Moment → ExitStatus → Type 0
IsHelp text old new status = ((status ≡ Accepted) × Shows text old new) ⊎ ((status ≡ Failed) × IsHelpLost text old new)

-- help is shown, or is lost; an error of usage is reported
abbrev pub IsExplained : Usage → Moment → Moment → ExitStatus → Type 0
IsExplained (Help text) old new status = IsHelp text.bytes.items old new status
IsExplained (Wrong text) old new status = (status ≡ statuses.Usage) × Reports text.bytes.items old new
IsExplained Memory old new status = (status ≡ Failed) × Reports (codes "xw: memory\n") old new

-- the report of a file with rebus cells
abbrev pub rebus_line : List ℕ → List ℕ
rebus_line file = codes "xw: " ++ file ++ codes ": rebus cells are not kept\n"

-- a call of the system failed on a file
abbrev pub is_of_disk : Failure → Bool
is_of_disk (faults.CannotRead file) = true
is_of_disk (faults.CannotWrite file) = true
is_of_disk (faults.OldUnwritable file number) = true
is_of_disk failure = false

-- the line with some error of the system, if one is due
abbrev pub IsReason : Bool → List ℕ → Type 0
IsReason true line = (line ≡ []) ⊎ ((reason : List ℕ) × (line ≡ codes "xw: " ++ reason ++ codes "\n"))
IsReason false line = line ≡ []

-- The message of a failure is its text on a line. If `explain` is set, more lines follow: the error of the system after
-- a fault of the disk, and the sentence for the failure.
abbrev pub IsMessage : Bool → Failure → List ℕ → Type 0
IsMessage explain failure text = (reason : List ℕ) × IsReason (explain && is_of_disk failure) reason × (text ≡ failure_text failure ++ codes "\n" ++ reason ++ sentence_if explain failure)

-- The message of the failure is written, and the status is that of the failure. Or the message could not be allocated,
-- and this is reported instead, with its status.
abbrev pub IsTold : Failure → Moment → Moment → ExitStatus → Type 0
IsTold failure old new status =
    ((text : List ℕ) × IsMessage old.explains failure text × (status ≡ status_of failure) × Reports text old new)
    ⊎ ((status ≡ Failed) × Reports (codes "xw: memory\n") old new)

-- a failure has no message if it is one of the output, whose reader is gone
abbrev pub is_quiet : Failure → Bool → Bool
is_quiet faults.Output closed = closed
is_quiet failure closed = false

-- a quiet failure has no message; any other has one
abbrev pub IsReportedIf : Bool → Failure → Moment → Moment → ExitStatus → Type 0
IsReportedIf true failure old new status = (status ≡ Failed) × (new ≡ old)
IsReportedIf false failure old new status = IsTold failure old new status

abbrev pub IsReported : Failure → Moment → Moment → ExitStatus → Type 0
IsReported failure old new status = IsReportedIf (is_quiet failure old.is_closed) failure old new status
