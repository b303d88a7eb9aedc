use Rattle.std.proofs.Common.{◌≡◌, List, map, take}
use Rattle.std.specs.Prelude.{fold}
use Rattle.xw_desk.specs.declared.failure.ExitStatus.{ExitStatus}
use Rattle.xw_desk.specs.declared.failure.ExitStatus.TheVariants.{Accepted}
use Rattle.xw_desk.specs.Checked.{greater, AreChecked}
use Rattle.xw_desk.proofs.desk.Desk.check_each.Given as goal

-- the first files are checked, with some statuses
abbrev pub invariant-loop-file : goal.invariant-loop-file
invariant-loop-file g l = (statuses : List ExitStatus) × record {
  greatest : l.status ≡ fold greater Accepted statuses;
  checked : AreChecked (map (λ file. file.now) (take l.file-index l.files)) statuses l.initial.self l.self;
}
