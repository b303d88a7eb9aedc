-- The event that a call of a disk is.
use Rattle.std.specs.Prelude.{Ok, Err}
use Rattle.xw_disk.specs.Disk.{Event, read, try_, replace, keep, stands, leave, open_, begin, take_lines, find, end, started}
use Rattle.xw_disk.specs.declared.asked.Asked.{Asked}
use Rattle.xw_disk.specs.declared.asked.Asked.TheVariants as asked

abbrev pub seen : Asked → Event
seen (asked.Read name bytes) = read name.now (Ok bytes.now)
seen (asked.Unread name fault) = read name.now (Err fault)
seen (asked.Try name answer) = try_ name.now answer
seen (asked.Replace name bytes answer) = replace name.now bytes.now answer
seen (asked.Keep name bytes number) = keep name.now bytes.now number (Ok tt)
seen (asked.Unkept name bytes unkept) = keep name.now bytes.now unkept.number (Err unkept.fault)
seen (asked.Stands name standing) = stands name.now standing
seen (asked.Leave name bytes place) = leave name.now bytes.now (Ok place.now)
seen (asked.Unleft name bytes fault) = leave name.now bytes.now (Err fault)
seen (asked.Open name bytes) = open_ name.now (Ok bytes.now)
seen (asked.Unopened name fault) = open_ name.now (Err fault)
seen (asked.Begin name start is_synced answer) = begin name.now (started start) is_synced answer
seen (asked.TakeLines name lines) = take_lines name.now lines.now.transcript
seen (asked.Find name answer) = find name.now answer
seen (asked.End name bytes answer) = end name.now bytes.now answer
