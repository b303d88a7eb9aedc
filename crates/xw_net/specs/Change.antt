-- What a net is told of an edit.
use Rattle.std.specs.Prelude.{◌≡◌, ℕ, ◌<◌, true, false, List, map, length, Option, Some, None, Ok, slice_get, Contains}
use Rattle.xw_words.specs.Dictionary.{Entry, Dictionary, known_words, entry_at}
use Rattle.xw_grid.specs.declared.cell.Cell.{Cell}
use Rattle.xw_grid.specs.Grid.{Grid, index_of}
use Rattle.xw_grid.specs.Light.{lights_of}
use Rattle.xw_feas.specs.State.{State, Action, after}
use Rattle.xw_feas.specs.WellFormed.{IsWellFormed}
use Rattle.xw_feas.specs.Written.{turns_words}
pub use Rattle.xw_feas.specs.Effect.{cells_of, before_of, word_of, fields_of}
pub use Rattle.xw_feas.specs.Written.{Fields, with_entry_of, is_changed, entries_written, index_added, index_struck, word_changed, brings_back}

-- the indices of the listed cells
abbrev pub indices_listed : Grid → List (Cell × Option ℕ) → List ℕ
indices_listed grid cells = map (λ listed. index_of grid listed.0) cells

-- the changed word has this length and index
abbrev pub IsIndexOf : Option (ℕ × ℕ) → ℕ → ℕ → Type 0
IsIndexOf None len index = ⊥
IsIndexOf (Some word) len index = (word.0 ≡ len) × (word.1 ≡ index)

-- the change describes this edit
pub record IsChange (before now : State) (action : Action) (change : Fields) : Type 0 where
  -- the edit was applied, and leads from a well-formed state to another
  pub made : after before action ≡ Ok now
  pub formed_before : IsWellFormed before
  pub formed_now : IsWellFormed now
  -- the change lists the cells that the edit writes, each with its entry before
  pub cells : change.cells ≡ entries_written before.grid action
  -- it has the lights before the edit
  pub lights : change.before ≡ lights_of before.grid
  -- it has the length and index of the word that was added or struck
  pub word : change.word ≡ word_changed before.words action
  -- it has the lengths in which the least grade made words active or left them out
  pub turned : (len : ℕ) → change.turned len ≡ turns_words before.words action len
  -- the grid has the same size and, outside the listed cells, the same squares
  pub width : now.grid.width ≡ before.grid.width
  pub height : now.grid.height ≡ before.grid.height
  pub squares : (index : ℕ) → ¬ Contains (indices_listed before.grid change.cells) index → slice_get now.grid.squares index ≡ slice_get before.grid.squares index
  -- in any other length the known words are the same, except perhaps whether the changed word is known and active
  pub entries : (len index : ℕ) → change.turned len ≡ false → ¬ IsIndexOf change.word len index → slice_get (known_words now.words len) index ≡ slice_get (known_words before.words len) index
  -- in such a length the same words are known, and if no word may have come back, none did
  pub counts : (len : ℕ) → change.turned len ≡ true → length (known_words now.words len) ≡ length (known_words before.words len)
  pub gone : (len index : ℕ) → change.back ≡ false → change.turned len ≡ true → (entry_at (known_words now.words len) index).active ≡ true → (entry_at (known_words before.words len) index).active ≡ true
  pub spelling : (len index : ℕ) → index < length (known_words before.words len) → (entry_at (known_words now.words len) index).word ≡ (entry_at (known_words before.words len) index).word

-- the reads return the words of a dictionary
abbrev pub AreReadsOf : (ℕ → List Entry) → Dictionary → Type 0
AreReadsOf entries words = (len : ℕ) → entries len ≡ known_words words len
