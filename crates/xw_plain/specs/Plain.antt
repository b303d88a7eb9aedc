-- What an edit does to the engine.
use Rattle.std.specs.Prelude.{◌≡◌, ◌+◌, List, map, Result, Ok, Err}
use Rattle.xw_feas.specs.Count.{number}
use Rattle.xw_feas.specs.Placings.{placings}
use Rattle.xw_feas.specs.State.{State, Action, after, IsRefused}
use Rattle.xw_feas.specs.declared.edit.Refusal.{Refusal}
use Rattle.xw_plain.specs.declared.plain.Plain.{Plain}

-- the grid and the dictionary of an engine
abbrev pub state_of : Plain → State
state_of plain = record { grid = plain.position.grid; words = plain.position.bank.words }

-- the states before the placements of a search, the last one last
abbrev pub levels_of : Plain → List State
levels_of plain = map (λ grid. record { grid = grid; words = plain.position.bank.words }) plain.levels.items

-- the edit was applied and its placements counted, and `before` has the letters from before it
pub record IsDone (before now : Plain) (action : Action) : Type 0 where
  pub made : after (state_of before) action ≡ Ok (state_of now)
  pub letters : now.before.items ≡ before.letters.items
  pub placed : number now.placed ≡ placings action + number before.placed

-- the edit was refused, and changed nothing
pub record IsKept (before now : Plain) (action : Action) (refusal : Refusal) : Type 0 where
  pub rule : IsRefused (state_of before) action refusal
  pub state : state_of now ≡ state_of before
  pub words : now.words ≡ before.words
  pub letters : now.letters ≡ before.letters
  pub placed : now.placed ≡ before.placed

-- the edit was applied, or refused for a reason
abbrev pub IsApplied : Plain → Plain → Action → Result (Unit {0}) Refusal → Type 0
IsApplied before now action (Ok done) = IsDone before now action
IsApplied before now action (Err refusal) = IsKept before now action refusal
