-- The name of the code of each status is the name of the status.
use Rattle.std.proofs.Common.{◌≡◌, refl}
use Rattle.xw_files.specs.declared.fault.ReadFault.TheVariants as reads
use Rattle.xw_files.specs.declared.fault.WriteFault.TheVariants as writes
use Rattle.xw_c.specs.Status.{code_of, name_of_code, status_name}
use Rattle.xw_c.specs.declared.status.Status.{Status}
use Rattle.xw_c.specs.declared.status.Status.TheVariants.{Accepted, Refused, Silent, Closed, Open, Memory, NoCommand, Full, Unread, Unwritten, Cut}

pub names_agree : (status : Status) → name_of_code (code_of status) ≡ status_name status
names_agree Accepted = refl
names_agree Refused = refl
names_agree Silent = refl
names_agree Closed = refl
names_agree Open = refl
names_agree Memory = refl
names_agree NoCommand = refl
names_agree Full = refl
names_agree (Unread reads.Memory) = refl
names_agree (Unread (reads.Short piece)) = refl
names_agree (Unread reads.Magic) = refl
names_agree (Unread reads.Version) = refl
names_agree (Unread reads.Scrambled) = refl
names_agree (Unread reads.Size) = refl
names_agree (Unread (reads.NoNul text)) = refl
names_agree (Unread (reads.BadSum sum)) = refl
names_agree (Unread (reads.BadCell cell)) = refl
names_agree (Unread reads.ClueCount) = refl
names_agree (Unread reads.Header) = refl
names_agree (Unread (reads.Tag tag)) = refl
names_agree (Unread reads.SizeLine) = refl
names_agree (Unread (reads.GridLine row)) = refl
names_agree (Unread reads.AcrossCount) = refl
names_agree (Unread reads.DownCount) = refl
names_agree (Unread (reads.NulByte offset)) = refl
names_agree (Unread reads.GextSize) = refl
names_agree (Unread reads.GextSum) = refl
names_agree (Unwritten writes.Memory) = refl
names_agree (Unwritten writes.Barred) = refl
names_agree (Unwritten (writes.NotFilled cell)) = refl
names_agree (Unwritten (writes.Field text)) = refl
names_agree (Unwritten (writes.Circled cell)) = refl
names_agree Cut = refl
