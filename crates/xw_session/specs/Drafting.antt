-- Lines that a replay executes over a draft of the grid, with one update of the engine.
use Rattle.std.specs.Prelude.{◌≡◌, ℕ, ◌+◌, ◌≤◌, Bool, true, false, List, ◌++◌, length, Result, Ok, Err}
use Rattle.xw_grid.specs.Grid.{Grid}
use Rattle.xw_feas.specs.declared.edit.Refusal.{Refusal}
use Rattle.xw_feas.specs.State.{Action, State, after, grid_after, with_grid}
use Rattle.xw_lines.specs.Cut.{lines_of}
use Rattle.xw_commands.specs.declared.query.Query.{Query}
use Rattle.xw_commands.specs.declared.query.Query.TheVariants as queries
use Rattle.xw_session.specs.State.{SessionState}
use Rattle.xw_session.specs.Resuming.{AreDone}

-- the edit is one of the grid: it keeps the dictionary
abbrev pub IsOfGrid : Action → Type 0
IsOfGrid action = (state : State) → after state action ≡ with_grid state (grid_after state.grid action)

-- the edit was made or refused, and turned the first grid into the second
abbrev pub IsMade : Grid → Action → Result (Unit {0}) Refusal → Grid → Type 0
IsMade old action (Ok done) new = IsOfGrid action × (grid_after old action ≡ Ok new)
IsMade old action (Err refusal) new = IsOfGrid action × (grid_after old action ≡ Err refusal) × (new ≡ old)

-- whether the query reports on the whole puzzle
abbrev pub is_report : Query → Bool
is_report (queries.Tell _) = true
is_report other = false

-- The first `taken` lines of a text, which come after `before` lines of a file, may be executed one after another, with
-- these reports of refused lines and this number of them, and leave the state `end`. `rest` is the text after them.
pub record IsRedrawn (file : List ℕ) (before : ℕ) (text : List ℕ) (start : SessionState) (taken refused : ℕ) (reports rest : List ℕ) (end : SessionState) : Type 0 where
  pub lines : List (List ℕ)
  pub parts : lines_of text ≡ lines ++ lines_of rest
  pub counted : taken ≡ length lines
  pub done : AreDone file (before + 1) start lines reports refused end
  pub few : refused ≤ taken
  pub shorter : taken + length rest ≤ length text
