-- A fill that is known beforehand: what is entered, and what is checked.
use Rattle.std.specs.Prelude.{◌≡◌, ℕ, ◌<◌, Bool, true, false, List, All, Option, is_some}
use Rattle.xw_grid.specs.declared.cell.Cell.{Cell}
use Rattle.xw_grid.specs.Grid.{index_of}
use Rattle.xw_feas.specs.State.{State}
use Rattle.xw_search.specs.Below.{any_below}
use Rattle.xw_search.specs.Position.{position_of}
use Rattle.xw_search.specs.Lights.{light_count, is_repeat}
use Rattle.xw_search.specs.Listing.{is_unlisted}
use Rattle.xw_search.specs.Writing.{CanBeWritten}
use Rattle.xw_search.specs.NamedFill.{flags, entry_in}
use Rattle.xw_search.specs.Progress.{entries_of, is_target, AreAlive}
use Rattle.xw_search.specs.declared.plan.Plan.{Plan}

-- a letter can be written there, and the cell is to be filled
abbrev pub IsForTarget : (ℕ → Bool) → State → Cell × Option ℕ → Type 0
IsForTarget named state written = CanBeWritten state.grid written × (is_target named (position_of state) (index_of state.grid written.0) ≡ true)

-- no flagged light is wholly entered with a word that is not active
abbrev pub AreListed : (ℕ → Bool) → State → Type 0
AreListed flagged state = (light : ℕ) → light < light_count (position_of state) → flagged light ≡ true → is_unlisted (position_of state) light ≡ false

-- each cell to be filled has a letter, and nothing rules out that the entries are a fill
pub record IsComplete (plan : Plan) (fresh : List Bool) (now : State) : Type 0 where
  pub filled : All (λ cell. is_some (entry_in (entries_of now) cell) ≡ true) plan.targets.items
  pub listed : AreListed (flags fresh) now
  pub alive : AreAlive (flags plan.watched.items) (position_of now)
  pub apart : any_below (is_repeat (position_of now)) (light_count (position_of now)) ≡ false
