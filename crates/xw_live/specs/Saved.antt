-- What a saved state of the engine holds.
use Rattle.xw_feas.specs.State.{State}
use Rattle.xw_live.specs.declared.searching.Saved.{Saved}

-- the grid and the dictionary that were saved
abbrev pub saved_state : Saved → State
saved_state snapshot = record { grid = snapshot.grid; words = snapshot.bank.value.words }
