-- The grid and the dictionary of a position.
use Rattle.xw_feas.specs.State.{State}
use Rattle.xw_feas.specs.declared.engine_state.EngineState.{EngineState}

abbrev pub state_of : EngineState → State
state_of position = record { grid = position.grid; words = position.bank.words }
