-- The names of the faults of reading and writing files.
use Rattle.std.specs.Prelude.{ℕ, List, codes}
use Rattle.xw_files.specs.declared.fault.ReadFault.{ReadFault}
use Rattle.xw_files.specs.declared.fault.ReadFault.TheVariants as reads
use Rattle.xw_files.specs.declared.fault.WriteFault.{WriteFault}
use Rattle.xw_files.specs.declared.fault.WriteFault.TheVariants as writes

abbrev pub read_fault_name : ReadFault → List ℕ
read_fault_name (reads.Short piece) = codes "Short"
read_fault_name reads.Magic = codes "Magic"
read_fault_name reads.Version = codes "Version"
read_fault_name reads.Scrambled = codes "Scrambled"
read_fault_name reads.Size = codes "Size"
read_fault_name (reads.NoNul text) = codes "NoNul"
read_fault_name (reads.BadSum sum) = codes "BadSum"
read_fault_name (reads.BadCell cell) = codes "BadCell"
read_fault_name reads.ClueCount = codes "ClueCount"
read_fault_name reads.Memory = codes "Memory"
read_fault_name reads.Header = codes "Header"
read_fault_name (reads.Tag tag) = codes "Tag"
read_fault_name reads.SizeLine = codes "SizeLine"
read_fault_name (reads.GridLine row) = codes "GridLine"
read_fault_name reads.AcrossCount = codes "AcrossCount"
read_fault_name reads.DownCount = codes "DownCount"
read_fault_name (reads.NulByte offset) = codes "NulByte"
read_fault_name reads.GextSize = codes "GextSize"
read_fault_name reads.GextSum = codes "GextSum"

abbrev pub write_fault_name : WriteFault → List ℕ
write_fault_name writes.Barred = codes "Barred"
write_fault_name (writes.NotFilled cell) = codes "NotFilled"
write_fault_name (writes.Field text) = codes "Field"
write_fault_name writes.Memory = codes "Memory"
write_fault_name (writes.Circled cell) = codes "Circled"
