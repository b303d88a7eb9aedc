-- What is pending of an edit that was judged.
use Rattle.std.specs.Prelude.{◌≡◌, ℕ, ◌<◌, List, length, Option, None, Result, Ok, Err, IsOk, All, position}
use Rattle.xw_words.specs.declared.bank.Added.TheVariants.{Returned}
use Rattle.xw_words.specs.Dictionary.{add_answer, strike_answer, IsNew}
use Rattle.xw_words.specs.Word.{is_bad_letter}
use Rattle.xw_grid.specs.declared.cell.Cell.{Cell}
use Rattle.xw_grid.specs.Edit.{set_symmetry}
use Rattle.xw_grid.specs.Light.{lights_of}
use Rattle.xw_feas.specs.Shape.{fault_at}
use Rattle.xw_feas.specs.State.{State, Action, after, grid_after, light_of, entered, word_placed, list_written, block_toggled, bar_toggled, symmetry_chosen, word_added, word_struck, least_chosen}
use Rattle.xw_feas.specs.declared.edit.Refusal.{Refusal}
use Rattle.xw_feas.specs.declared.pending.Pending.{Pending}
use Rattle.xw_feas.specs.declared.pending.Pending.TheVariants.{InPlace as PendingInPlace, Shape, New}
use Rattle.xw_feas.specs.declared.pending.InPlace.{InPlace}
use Rattle.xw_feas.specs.declared.pending.InPlace.TheVariants.{Enter, Place, List as InPlaceList, Symmetry, Return, Strike, Least}
use Rattle.xw_feas.specs.declared.pending.ShapeEdit.{ShapeEdit}
use Rattle.xw_feas.specs.declared.pending.ShapeEdit.TheVariants.{Block, Bar}

-- the edit that each pending one makes in a state
abbrev pub shape_action : ShapeEdit → Action
shape_action (Block cell) = block_toggled cell
shape_action (Bar cell side) = bar_toggled cell side

abbrev pub in_place_action : State → InPlace → Action
in_place_action state (Enter cell letter) = entered cell letter
in_place_action state (Place light word) = word_placed (light_of state light).name word.now
in_place_action state (InPlaceList list) = list_written list.now
in_place_action state (Symmetry kind) = symmetry_chosen kind
in_place_action state (Return word grade index) = word_added word.now grade
in_place_action state (Strike word index) = word_struck word.now
in_place_action state (Least grade) = least_chosen grade

abbrev pub pending_action : State → Pending → Action
pending_action state (PendingInPlace edit) = in_place_action state edit
pending_action state (Shape edit) = shape_action edit
pending_action state (New word grade) = word_added word.now grade

-- a word of letters can be placed in the light with an index
pub record CanPlace (state : State) (index : ℕ) (word : List ℕ) : Type 0 where
  pub light : index < length (lights_of state.grid)
  pub letters : position is_bad_letter word ≡ None
  pub size : length word ≡ (light_of state index).size

-- no rule refuses the edit, and it has the indices of its light and its word
abbrev pub IsInPlace : State → InPlace → Type 0
IsInPlace state (Enter cell letter) = fault_at state.grid cell ≡ None
IsInPlace state (Place light word) = CanPlace state light word.now
IsInPlace state (InPlaceList list) = All (λ (written : Cell × Option ℕ). fault_at state.grid written.0 ≡ None) list.now
IsInPlace state (Symmetry kind) = IsOk (set_symmetry state.grid kind)
IsInPlace state (Return word grade index) = add_answer state.words word.now ≡ Ok (Returned index)
IsInPlace state (Strike word index) = strike_answer state.words word.now ≡ Ok index
IsInPlace state (Least grade) = Unit {0}

abbrev pub IsPending : State → Pending → Type 0
IsPending state (PendingInPlace edit) = IsInPlace state edit
IsPending state (Shape edit) = IsOk (grid_after state.grid (shape_action edit))
IsPending state (New word grade) = IsNew (add_answer state.words word.now)

-- the edit is pending, or a rule refuses it
abbrev pub IsJudged : State → Action → Result Pending Refusal → Type 0
IsJudged state action (Ok pending) = (pending_action state pending ≡ action) × IsPending state pending
IsJudged state action (Err refusal) = after state action ≡ Err refusal
