-- What the disk is asked of the file of a journal, and which failure its fault is.
use Rattle.std.specs.Prelude.{ℕ, List, Err}
use Rattle.xw_disk.specs.Disk.{open_, find}
use Rattle.xw_disk.specs.declared.disk.DiskFault.{DiskFault}
use Rattle.xw_desk.specs.declared.failure.Failure.{Failure}
use Rattle.xw_desk.specs.Desk.{Asks, Moment}
use Rattle.xw_desk.specs.Failures.{IsFaultOf}

-- The journal with this name was not opened.
pub record IsNotOpened (name : List ℕ) (failure : Failure) (old new : Moment) : Type 0 where
  pub fault : DiskFault
  pub told : IsFaultOf fault name failure
  pub asks : Asks (open_ name (Err fault)) old new

-- The disk said why the name no longer leads to the journal, and nothing else was asked.
pub record IsNotFound (name : List ℕ) (failure : Failure) (old new : Moment) : Type 0 where
  pub fault : DiskFault
  pub told : IsFaultOf fault name failure
  pub asks : Asks (find name (Err fault)) old new
