-- Definitions for the laws about the feasible words and letters and the edits.
use Rattle.std.specs.Prelude.{◌≡◌, ℕ, ◌||◌, List, [], ◌∷◌, ◌++◌, map, Option, Some, None, Result, Ok, Err}
use Rattle.xw_grid.specs.declared.cell.Cell.{Cell}
use Rattle.xw_feas.specs.declared.edit.Refusal.{Refusal}
use Rattle.xw_feas.specs.Feasible.{Family}
use Rattle.xw_feas.specs.State.{State, Action, letter_set, cell_cleared, after, want_of, IsAfter}

-- the union of two families
abbrev pub together : Family → Family → Family
together one other = record {
  words = λ light word. one.words light word || other.words light word;
  letters = λ cell letter. one.letters cell letter || other.letters cell letter;
}

-- the state after an edit; a refused edit leaves it as it is
abbrev pub next_of : State → Result State Refusal → State
next_of state (Ok next) = next
next_of state (Err refusal) = state

-- no edit of the list can fail to allocate in the state it comes to: none is a block, a bar, or the
-- addition of a word that is new there
abbrev pub WantNothing : State → List Action → Type 0
WantNothing state [] = Unit {0}
WantNothing state (action ∷ actions) = (want_of state action ≡ None) × WantNothing (next_of state (after state action)) actions

-- the edit that writes one cell
abbrev pub write_at : Cell → Option ℕ → Action
write_at cell (Some letter) = letter_set cell letter
write_at cell None = cell_cleared cell

-- the edit that writes one cell of a list
abbrev pub write_of : Cell × Option ℕ → Action
write_of written = write_at written.0 written.1

-- the cells before one of the list can be written, and then that one is refused
pub record IsRefusedInTurn (state : State) (list : List (Cell × Option ℕ)) (refusal : Refusal) : Type 0 where
  pub front : List (Cell × Option ℕ)
  pub written : Cell × Option ℕ
  pub rest : List (Cell × Option ℕ)
  pub parts : list ≡ front ++ written ∷ rest
  pub next : State
  pub before : IsAfter state (map write_of front) 0 next
  pub here : after next (write_of written) ≡ Err refusal
