-- What a position notes of an edit that was made.
use Rattle.std.specs.Prelude.{◌≡◌, ℕ, Bool, true, false, List, [], take, Option, Some, None, Ok, slice_index_or}
use Rattle.xw_words.specs.Dictionary.{Dictionary}
use Rattle.xw_grid.specs.declared.cell.Cell.{Cell}
use Rattle.xw_grid.specs.declared.lights.Light.{Light}
use Rattle.xw_grid.specs.EditLaws.{SameShape}
use Rattle.xw_grid.specs.Light.{lights_of}
use Rattle.xw_feas.specs.declared.notes.Notes.{Notes}
use Rattle.xw_feas.specs.declared.engine_state.EngineState.{EngineState}
use Rattle.xw_feas.specs.declared.effect.Effect.{Effect}
use Rattle.xw_feas.specs.declared.effect.Effect.TheVariants.{Nothing, Cells, List as EffectList, Shape, Word, Least}
use Rattle.xw_feas.specs.Layout.{layout_of}
use Rattle.xw_feas.specs.EngineState.{state_of}
use Rattle.xw_feas.specs.Shape.{SameCounts}
use Rattle.xw_feas.specs.State.{State, Action, after, symmetry_chosen}
use Rattle.xw_feas.specs.Written.{Fields, entries_written, word_changed, turns_words, brings_back}

-- the cells that an edit wrote, each with its entry before
abbrev pub cells_by : Notes → Effect → List (Cell × Option ℕ)
cells_by notes Nothing = []
cells_by notes Cells = notes.written
cells_by notes (EffectList count) = take count notes.noted.items
cells_by notes (Shape before) = notes.written
cells_by notes (Word len index) = []
cells_by notes (Least back) = []

-- the lights before it, given those after it, which are others only after an edit of the shape
abbrev pub before_by : List Light → Effect → List Light
before_by lights Nothing = lights
before_by lights Cells = lights
before_by lights (EffectList count) = lights
before_by lights (Shape before) = before
before_by lights (Word len index) = lights
before_by lights (Least back) = lights

-- the word that it added or struck
abbrev pub word_by : Effect → Option (ℕ × ℕ)
word_by Nothing = None
word_by Cells = None
word_by (EffectList count) = None
word_by (Shape before) = None
word_by (Word len index) = Some (len, index)
word_by (Least back) = None

-- whether its least grade made words of a length active or left them out
abbrev pub turned_by : Notes → Effect → ℕ → Bool
turned_by notes Nothing len = false
turned_by notes Cells len = false
turned_by notes (EffectList count) len = false
turned_by notes (Shape before) len = false
turned_by notes (Word other index) len = false
turned_by notes (Least back) len = slice_index_or notes.turned len false

-- whether its least grade may have made words active
abbrev pub back_by : Effect → Bool
back_by Nothing = false
back_by Cells = false
back_by (EffectList count) = false
back_by (Shape before) = false
back_by (Word len index) = false
back_by (Least back) = back

-- whether no answer changed
abbrev pub is_idle_by : Effect → Bool
is_idle_by Nothing = true
is_idle_by Cells = false
is_idle_by (EffectList count) = false
is_idle_by (Shape before) = false
is_idle_by (Word len index) = false
is_idle_by (Least back) = false

-- whether it is an edit of the shape
abbrev pub is_shape_by : Effect → Bool
is_shape_by Nothing = false
is_shape_by Cells = false
is_shape_by (EffectList count) = false
is_shape_by (Shape before) = true
is_shape_by (Word len index) = false
is_shape_by (Least back) = false

abbrev pub fields_by : List Light → Notes → Effect → Fields
fields_by lights notes effect = record { cells = cells_by notes effect; before = before_by lights effect; word = word_by effect; turned = turned_by notes effect; back = back_by effect }

-- the same of the notes after an edit
abbrev pub cells_of : Notes → List (Cell × Option ℕ)
cells_of notes = cells_by notes notes.effect

abbrev pub before_of : List Light → Notes → List Light
before_of lights notes = before_by lights notes.effect

abbrev pub word_of : Notes → Option (ℕ × ℕ)
word_of notes = word_by notes.effect

abbrev pub turned_of : Notes → ℕ → Bool
turned_of notes = turned_by notes notes.effect

abbrev pub fields_of : List Light → Notes → Fields
fields_of lights notes = fields_by lights notes notes.effect

-- the fields of a change of the least grade
abbrev pub of_turned : List Light → List Bool → Bool → Fields
of_turned lights turned back = record { cells = []; before = lights; word = None; turned = λ len. slice_index_or turned len false; back = back }

-- whether an edit sets the symmetry
abbrev pub is_symmetry : Action → Bool
is_symmetry (symmetry_chosen kind) = true
is_symmetry other = false

-- these are the cells that the edit wrote, each with its entry before, the lights before, the word that was added or struck,
-- and the lengths in which words were turned
pub record Tells (before : State) (action : Action) (fields : Fields) : Type 0 where
  pub cells : fields.cells ≡ entries_written before.grid action
  pub lights : fields.before ≡ lights_of before.grid
  pub word : fields.word ≡ word_changed before.words action
  pub turned : (len : ℕ) → fields.turned len ≡ turns_words before.words action len
  pub back : fields.back ≡ brings_back before.words action
  pub altered : is_symmetry action ≡ false

-- no answer changed: the edit changed the symmetry at most
pub record KeepsAnswers (before now : State) : Type 0 where
  pub layout : layout_of now.grid ≡ layout_of before.grid
  pub words : now.words ≡ before.words

-- what is noted of the edit that led from one state to another is true
abbrev pub IsToldBy : State → State → List Light → Notes → Action → Effect → Type 0
IsToldBy before now lights notes action Nothing = KeepsAnswers before now
IsToldBy before now lights notes action effect = Tells before action (fields_by lights notes effect)

-- the same for a position after the edit
abbrev pub IsTold : State → EngineState → Action → Type 0
IsTold before now action = IsToldBy before (state_of now) now.lights now.notes action now.notes.effect

-- an edit was made that keeps the shape of the grid and the number of known words of each length
pub record IsCommitted (before now : EngineState) (action : Action) : Type 0 where
  pub made : after (state_of before) action ≡ Ok (state_of now)
  pub lights : now.lights ≡ before.lights
  pub shape : SameShape before.grid now.grid
  pub counts : SameCounts before.bank.words now.bank.words
  pub told : IsTold (state_of before) now action
