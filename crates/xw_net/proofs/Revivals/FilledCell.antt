-- The base rows of a net after an edit that only filled a cell: they are still those of the grid before it.
use Rattle.std.proofs.Common.{◌≡◌, ℕ, zero, suc, ◌+◌, ◌-◌, ◌*◌, ◌<◌, Bool, true, false, cond, List, [], ◌∷◌, map, take, length, get_or, Some, None, refl, sym, ◌∙◌, ap, subst, arith}
use Rattle.std.specs.Prelude.{Option, Contains, is_none, is_some}
use Rattle.std.proofs.lemmas.Bool.{and_parts, false≢true}
use Rattle.xw_words.specs.Dictionary.{known_words}
use Rattle.xw_grid.specs.declared.cell.Cell.{Cell}
use Rattle.xw_grid.specs.declared.lights.Light.{Light}
use Rattle.xw_grid.specs.Grid.{Grid, index_of, is_inside}
use Rattle.xw_grid.specs.Light.{lights_of, cells_of, no_light}
use Rattle.xw_feas.specs.Board.{Board, board_of, entry, light_at}
use Rattle.xw_feas.specs.State.{State, Action}
use Rattle.xw_feas.proofs.BoardLemmas.{length-lights, light_at-board}
use Rattle.xw_feas.specs.declared.effect.Effect.{Effect}
use Rattle.xw_feas.specs.declared.effect.Effect.TheVariants.{Nothing, Cells, List as EffectList, Shape, Word, Least}
use Rattle.xw_feas.specs.declared.notes.Notes.{Notes}
use Rattle.xw_feas.specs.Effect.{fields_by}
use Rattle.xw_net.specs.declared.net.Net.{Net}
use Rattle.xw_net.specs.Base.{base_bits, WasRow}
use Rattle.xw_net.specs.Begin.{is_fill, only_filled, filled_by, filled_of}
use Rattle.xw_net.specs.Change.{Fields, IsChange, IsIndexOf, fields_of, indices_listed}
use Rattle.xw_net.specs.Filled.{IsFilled}
use Rattle.xw_net.specs.Marks.{known}
use Rattle.xw_net.specs.Opened.{IsMoved}
use Rattle.xw_net.specs.Region.{cells_written}
use Rattle.xw_net.specs.Spread.{bits_in}
use Rattle.xw_net.proofs.Edits.ChangedLights.{entries_of, entry_of_board, same_elements}
use Rattle.xw_net.proofs.Edits.KeptByEdits.{entry_after}
use Rattle.xw_net.proofs.Edits.SameLights.{same_is_whole}

-- the change lists one cell, which was empty, and keeps the lights and the words
pub record FillsOne (grid : Grid) (change : Fields) (cell : ℕ) : Type 0 where
  pub listed : Cell × Option ℕ
  pub cells : change.cells ≡ listed ∷ []
  pub at : index_of grid listed.0 ≡ cell
  pub empty : listed.1 ≡ None
  pub lights : change.before ≡ lights_of grid
  pub word : change.word ≡ None
  pub turned : (len : ℕ) → change.turned len ≡ false

-- the one cell that was filled
pub record IsOne (grid : Grid) (all : List (Cell × Option ℕ)) (cell : ℕ) : Type 0 where
  pub listed : Cell × Option ℕ
  pub cells : all ≡ listed ∷ []
  pub at : index_of grid listed.0 ≡ cell
  pub empty : listed.1 ≡ None

was_none : (o : Option ℕ) → is_none o ≡ true → o ≡ None
was_none None is = refl
was_none (Some letter) is = absurd (false≢true is)

pub one_filled : (grid : Grid) (board : Board) (cells : List (Cell × Option ℕ)) (cell : ℕ) → only_filled grid board cells ≡ Some cell → IsOne grid cells cell
one_filled grid board [] cell found = let never : None ≡ Some cell = found in cc
one_filled grid board (listed ∷ other ∷ rest) cell found = let never : None ≡ Some cell = found in cc
one_filled grid board (listed ∷ []) cell found = split (is_fill board (index_of grid listed.0) listed.1) refl found where
  split : (fills : Bool) → is_fill board (index_of grid listed.0) listed.1 ≡ fills → cond fills (Some (index_of grid listed.0)) None ≡ Some cell → IsOne grid (listed ∷ []) cell
  split true fills is = record {
    listed = listed;
    cells = refl;
    at = some_same (index_of grid listed.0) cell is;
    empty = was_none listed.1 (and_parts (is_none listed.1) (is_some (entry board (index_of grid listed.0))) fills).0;
  } where
    some_same : (a b : ℕ) → Some a ≡ Some b → a ≡ b
    some_same a b h = cc
  split false fills is = let never : None ≡ Some cell = is in cc

pub fills_one : (grid : Grid) (board : Board) (lights : List Light) (change : Notes) (cell : ℕ) → lights ≡ lights_of grid → filled_of grid board change ≡ Some cell → FillsOne grid (fields_of lights change) cell
fills_one grid board lights change cell are found = by_effect change.effect found where
  by_cells : (cells : List (Cell × Option ℕ)) → only_filled grid board cells ≡ Some cell → FillsOne grid (record { cells = cells; before = lights; word = None; turned = λ len. false; back = false }) cell
  by_cells cells filled =
      let one = one_filled grid board cells cell filled in
      record { listed = one.listed; cells = one.cells; at = one.at; empty = one.empty; lights = are; word = refl; turned = λ len. refl }

  by_effect : (effect : Effect) → filled_by grid board change effect ≡ Some cell → FillsOne grid (fields_by lights change effect) cell
  by_effect Nothing filled = by_cells [] filled
  by_effect Cells filled = by_cells change.written filled
  by_effect (EffectList count) filled = by_cells (take count change.noted.items) filled
  by_effect (Shape before) filled = let never : None ≡ Some cell = filled in cc
  by_effect (Word len index) filled = let never : None ≡ Some cell = filled in cc
  by_effect (Least back) filled = let never : None ≡ Some cell = filled in cc

module _ (before now : State) (action : Action) (change : Fields) (is : IsChange before now action change) (settled net : Net)
    (filled : IsFilled (board_of before.grid) before.words settled) (moved : IsMoved before now settled net)
    (inside : (listed : Cell × Option ℕ) → Contains change.cells listed → is_inside before.grid listed.0 ≡ true)
    (cell : ℕ) (one : FillsOne now.grid change cell) where
  listed_here : Contains change.cells one.listed
  listed_here = subst (λ cells. Contains cells one.listed) (sym one.cells) (0, omega arith, refl)

  index_before : index_of before.grid one.listed.0 ≡ cell
  index_before = ap (λ w. (one.listed.0.row - 1) * w + (one.listed.0.col - 1)) (sym is.width) ∙ one.at

  was_empty : entry (board_of before.grid) cell ≡ None
  was_empty =
      let written : Contains (map (Rattle.xw_net.specs.Change.with_entry_of before.grid) (cells_written before.grid action)) one.listed = subst (λ cells. Contains cells one.listed) is.cells listed_here in
      ap (entry (board_of before.grid)) (sym index_before)
      ∙ sym (entry_of_board before.grid one.listed.0 (inside one.listed listed_here))
      ∙ sym (entries_of before.grid (cells_written before.grid action) written.0 one.listed written.1 written.2)
      ∙ one.empty

  not_listed : (other : ℕ) → (other ≡ cell → ⊥) → ¬ Contains (indices_listed before.grid change.cells) other
  not_listed other apart has = only (subst (λ cells. Contains (indices_listed before.grid cells) other) one.cells has) where
    only : Contains (index_of before.grid one.listed.0 ∷ []) other → ⊥
    only (zero, below, at) = apart (sym at ∙ index_before)
    only (suc k, below, at) = omega (arith, below)

  same_entries : (other : ℕ) → (other ≡ cell → ⊥) → entry (board_of now.grid) other ≡ entry (board_of before.grid) other
  same_entries other apart = entry_after before.grid now.grid (indices_listed before.grid change.cells) other (record { width = is.width; height = is.height; squares = is.squares }) (not_listed other apart)

  same_lights : lights_of now.grid ≡ lights_of before.grid
  same_lights = sym one.lights ∙ is.lights

  same_words : (len : ℕ) → known_words now.words len ≡ known_words before.words len
  same_words len = same_elements _ _ (λ k. is.entries len k (one.turned len) (λ found. subst (λ w. IsIndexOf w len k) one.word found))

  same_cells : (light : ℕ) → light < length (lights_of now.grid) → light_at (board_of now.grid) light ≡ light_at (board_of before.grid) light
  same_cells light lt =
      light_at-board now.grid light no_light lt
      ∙ ap (λ ls. map (index_of now.grid) (cells_of (get_or ls light no_light))) same_lights
      ∙ ap (λ w. map (λ (here : Cell). (here.row - 1) * w + (here.col - 1)) (cells_of (get_or (lights_of before.grid) light no_light))) is.width
      ∙ sym (light_at-board before.grid light no_light (omega (arith, lt, ap length same_lights)))

  pub filled_row : (light : ℕ) → light < length (board_of now.grid).lights → WasRow (board_of now.grid) (known_words now.words) cell light (bits_in net.base.items light)
  filled_row light in_board =
      let lt : light < length (lights_of now.grid) = omega (arith, in_board, length-lights now.grid) in
      let in_before : light < length (board_of before.grid).lights = omega (arith, lt, ap length same_lights, length-lights before.grid) in
      let cells = same_cells light lt in
      let at = same_is_whole before.grid now.grid is.width light light in_board in_before cells in
      let words = same_words (length (light_at (board_of now.grid) light)) in
      let many : known (board_of now.grid) now.words light ≡ known (board_of before.grid) before.words light = ap length words ∙ ap (λ cs. length (known_words before.words (length cs))) cells in
      record {
        before = board_of before.grid;
        more = record { empty = was_empty; others = same_entries };
        row =
            moved.base light light in_board at many
            ∙ filled.is_base light in_before
            ∙ ap (λ cs. base_bits (board_of before.grid) cs (known_words before.words (length cs))) (sym cells)
            ∙ ap (base_bits (board_of before.grid) (light_at (board_of now.grid) light)) (sym words);
      }
