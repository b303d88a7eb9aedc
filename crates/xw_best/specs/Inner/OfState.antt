-- The inner definitions about a position, under the same names, for the position of a state.
use Rattle.std.specs.Prelude.{Bool, List}
use Rattle.xw_feas.specs.State.{State}
use Rattle.xw_search.specs.Position.{position_of}
use Rattle.xw_best.specs.Inner.Climbing

-- ---- the search for the best fill

abbrev pub AreFresh : State → List Bool → Type 0
AreFresh state = Climbing.AreFresh (position_of state)
