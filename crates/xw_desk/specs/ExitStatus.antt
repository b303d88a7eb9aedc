-- The outcome of a run and its exit status.
use Rattle.std.specs.Prelude.{ℕ, ◌+◌, ◌==◌, if◌then◌else◌, Result, Ok, Err}
use Rattle.xw_desk.specs.declared.failure.ExitStatus.{ExitStatus}
use Rattle.xw_desk.specs.declared.failure.ExitStatus.TheVariants.{Accepted, Refused, Usage, Format, Failed}
use Rattle.xw_desk.specs.declared.failure.Failure.{Failure}
use Rattle.xw_desk.specs.declared.failure.Failure.TheVariants as failures
use Rattle.xw_lines.specs.declared.outcome.RunEnd.{RunEnd}
use Rattle.xw_lines.specs.declared.outcome.RunEnd.TheVariants.{Done, ReadFailed, WriteFailed, Stopped, Endless, Memory}

abbrev pub code_of : ExitStatus → ℕ
code_of Accepted = 0
code_of Refused = 1
code_of Usage = 2
code_of Format = 3
code_of Failed = 4

-- the status of each failure
abbrev pub status_of : Failure → ExitStatus
status_of failures.Input = Failed
status_of failures.Output = Failed
status_of failures.Memory = Failed
status_of (failures.CannotRead file) = Failed
status_of (failures.CannotWrite file) = Failed
status_of (failures.InUse file) = Failed
status_of (failures.Replaced file) = Failed
status_of (failures.OldUnwritable file number) = Failed
status_of (failures.File file name) = Format
status_of (failures.Located file name location) = Format
status_of (failures.Line file number name) = Format
status_of (failures.SameFile conflict file same) = Usage
status_of (failures.SavedAsPuz file) = Usage
status_of failures.InputTwice = Usage

-- the outcome of answering commands; `before` is the number of lines refused earlier
abbrev pub run_ended : ℕ → RunEnd → Result ExitStatus Failure
run_ended before (Done refused) = if before + refused == 0 then Ok Accepted else Ok Refused
run_ended before ReadFailed = Err failures.Input
run_ended before Endless = Err failures.Input
run_ended before WriteFailed = Err failures.Output
run_ended before Stopped = Err failures.Output
run_ended before Memory = Err failures.Memory
