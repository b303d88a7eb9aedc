-- What an edit of the engine does, and what it costs.
use Rattle.std.specs.Prelude.{◌≡◌, ◌≤◌, true, List, Result, Ok, Err}
use Rattle.xw_grid.specs.Light.{lights_of}
use Rattle.xw_feas.specs.Count.{number}
use Rattle.xw_feas.specs.Engine.{IsEdited}
use Rattle.xw_feas.specs.Feasible.{Answers}
use Rattle.xw_feas.specs.Placings.{placed_after}
use Rattle.xw_feas.specs.State.{State, Action, after}
use Rattle.xw_feas.specs.Effect.{is_symmetry}
use Rattle.xw_feas.specs.declared.edit.Refusal.{Refusal}
use Rattle.xw_feas.specs.declared.changed.Changed.{Changed}
use Rattle.xw_live.specs.declared.live.Live.{Live}
use Rattle.xw_live.specs.Engine.{net_answers}
use Rattle.xw_live.specs.Levels.{states_before}
use Rattle.xw_net.specs.Net.{flags_of, sets_of}
use Rattle.xw_net.specs.Cost.{RoseWithinCost}

-- the grid and the dictionary of an engine
abbrev pub state_of : Live → State
state_of live = record { grid = live.position.grid; words = live.position.bank.words }

-- the states before the placements of a search, the last one last
abbrev pub levels_of : Live → List State
levels_of live = states_before live.position.bank.words live.levels.made.items

-- the feasible words and letters that an engine holds
abbrev pub answers_now : Live → Answers
answers_now live = net_answers (state_of live) live.net

-- the edit was applied within its cost, the ticks have not decreased, and `before` has the letters
-- from before the edit
pub record IsDone (before now : Live) (action : Action) : Type 0 where
  pub made : after (state_of before) action ≡ Ok (state_of now)
  pub letters : now.before.items ≡ sets_of before.net
  pub cost : RoseWithinCost (state_of before) (state_of now) action before.spent now.spent
  pub risen : before.spent ≤ now.spent

-- nothing has changed, and no tick was spent
pub record IsAsBefore (before now : Live) : Type 0 where
  pub grid : now.position.grid ≡ before.position.grid
  pub words : now.position.bank.words ≡ before.position.bank.words
  pub flags : flags_of (lights_of before.position.grid) now.net ≡ flags_of (lights_of before.position.grid) before.net
  pub letters : sets_of now.net ≡ sets_of before.net
  pub spent : now.spent ≡ before.spent

-- an accepted edit costs no more than its region allows, and one of the symmetry costs nothing
pub record IsCharged (before now : Live) (action : Action) : Type 0 where
  pub cost : RoseWithinCost (state_of before) (state_of now) action before.spent now.spent
  pub risen : before.spent ≤ now.spent
  pub symmetry : is_symmetry action ≡ true → now.spent ≡ before.spent

-- what an edit with this answer may cost: a refused one costs nothing
abbrev pub IsPaid : Live → Live → Action → Result Changed Refusal → Type 0
IsPaid before now action (Ok changed) = IsCharged before now action
IsPaid before now action (Err refusal) = now.spent ≡ before.spent

-- an edit with this answer leaves the state, the answers and the changed cells that the rules give, within its cost, and
-- counts what it places
abbrev pub IsEditedWithinCost : Live → Live → Action → Result Changed Refusal → Type 0
IsEditedWithinCost before now action result =
    (IsEdited (state_of before) (answers_now before) action result (state_of now) (answers_now now) × (number now.placed ≡ placed_after (number before.placed) action result))
    × IsPaid before now action result
