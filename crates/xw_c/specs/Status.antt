-- The code and the name of each status, as `include/xw.h` has it.
use Rattle.std.specs.Prelude.{ℕ, List, ◌==◌, codes, if◌then◌else◌}
use Rattle.xw_files.specs.FaultNames.{read_fault_name, write_fault_name}
use Rattle.xw_files.specs.declared.fault.ReadFault.{ReadFault}
use Rattle.xw_files.specs.declared.fault.ReadFault.TheVariants as reads
use Rattle.xw_files.specs.declared.fault.WriteFault.{WriteFault}
use Rattle.xw_files.specs.declared.fault.WriteFault.TheVariants as writes
use Rattle.xw_lines.specs.declared.outcome.Step.{Step}
use Rattle.xw_lines.specs.declared.outcome.Step.TheVariants as steps
use Rattle.xw_c.specs.declared.status.Status.{Status}
use Rattle.xw_c.specs.declared.status.Status.TheVariants.{Accepted, Refused, Silent, Closed, Open, Memory, NoCommand, Full, Unread, Unwritten, Cut}

-- the status of a line with this outcome
abbrev pub step_status : Step → Status
step_status steps.Silent = Silent
step_status steps.Accepted = Accepted
step_status steps.Refused = Refused

-- the code of a fault of a puzzle file
abbrev pub read_code : ReadFault → ℕ
read_code reads.Memory = 5
read_code (reads.Short piece) = 8
read_code reads.Magic = 9
read_code reads.Version = 10
read_code reads.Scrambled = 11
read_code reads.Size = 12
read_code (reads.NoNul text) = 13
read_code (reads.BadSum sum) = 14
read_code (reads.BadCell cell) = 15
read_code reads.ClueCount = 16
read_code reads.Header = 17
read_code (reads.Tag tag) = 18
read_code reads.SizeLine = 19
read_code (reads.GridLine row) = 20
read_code reads.AcrossCount = 21
read_code reads.DownCount = 22
read_code (reads.NulByte offset) = 23
read_code reads.GextSize = 24
read_code reads.GextSum = 25

-- the code of a reason why a format cannot hold a puzzle
abbrev pub write_code : WriteFault → ℕ
write_code writes.Memory = 5
write_code writes.Barred = 26
write_code (writes.NotFilled cell) = 27
write_code (writes.Field text) = 28
write_code (writes.Circled cell) = 29

abbrev pub code_of : Status → ℕ
code_of Accepted = 0
code_of Refused = 1
code_of Silent = 2
code_of Closed = 3
code_of Open = 4
code_of Memory = 5
code_of NoCommand = 6
code_of Full = 7
code_of (Unread fault) = read_code fault
code_of (Unwritten fault) = write_code fault
code_of Cut = 30

-- the name of a status, which of a fault is the one that the program spells
abbrev pub status_name : Status → List ℕ
status_name Accepted = codes "Accepted"
status_name Refused = codes "Refused"
status_name Silent = codes "Silent"
status_name Closed = codes "Closed"
status_name Open = codes "Open"
status_name Memory = codes "Memory"
status_name NoCommand = codes "NoCommand"
status_name Full = codes "Full"
status_name (Unread fault) = read_fault_name fault
status_name (Unwritten fault) = write_fault_name fault
status_name Cut = codes "Cut"

-- the name of the status with a code (`names_agree` of proofs/Names.antt), and a word for any other code
abbrev pub name_of_code : ℕ → List ℕ
name_of_code code =
    if code == 0 then codes "Accepted" else
    if code == 1 then codes "Refused" else
    if code == 2 then codes "Silent" else
    if code == 3 then codes "Closed" else
    if code == 4 then codes "Open" else
    if code == 5 then codes "Memory" else
    if code == 6 then codes "NoCommand" else
    if code == 7 then codes "Full" else
    if code == 8 then codes "Short" else
    if code == 9 then codes "Magic" else
    if code == 10 then codes "Version" else
    if code == 11 then codes "Scrambled" else
    if code == 12 then codes "Size" else
    if code == 13 then codes "NoNul" else
    if code == 14 then codes "BadSum" else
    if code == 15 then codes "BadCell" else
    if code == 16 then codes "ClueCount" else
    if code == 17 then codes "Header" else
    if code == 18 then codes "Tag" else
    if code == 19 then codes "SizeLine" else
    if code == 20 then codes "GridLine" else
    if code == 21 then codes "AcrossCount" else
    if code == 22 then codes "DownCount" else
    if code == 23 then codes "NulByte" else
    if code == 24 then codes "GextSize" else
    if code == 25 then codes "GextSum" else
    if code == 26 then codes "Barred" else
    if code == 27 then codes "NotFilled" else
    if code == 28 then codes "Field" else
    if code == 29 then codes "Circled" else
    if code == 30 then codes "Cut" else
    codes "Unknown"
