-- The answers of an engine for each cell and each light.
use Rattle.std.proofs.Common.{◌≡◌, ℕ, Bool, true, false, not, List, length, get_or, ap, sym, ◌∙◌, refl}
use Rattle.std.specs.Prelude.{Option, Some, None, Ok, Err, slice_get, if◌then◌else◌}
use Rattle.std.proofs.lemmas.Option.{get_or_from_slice_get}
use Rattle.xw_letters.specs.LetterSet.{letters_in}
use Rattle.xw_grid.specs.declared.cell.Cell.{Cell}
use Rattle.xw_grid.specs.declared.cell.Square.{Square}
use Rattle.xw_grid.specs.declared.cell.Square.TheVariants.{Block, Open}
use Rattle.xw_grid.specs.declared.lights.Light.{Light}
use Rattle.xw_grid.specs.declared.fault.GridFault.TheVariants as grids
use Rattle.xw_grid.specs.Grid.{Grid, is_inside, is_block, is_open, index_of, square_at, is_open_square, is_block_square}
use Rattle.xw_grid.specs.Light.{lights_of, no_light}
use Rattle.xw_grid.proofs.LightLemmas.{inside_from_open}
use Rattle.xw_feas.specs.declared.edit.Refusal.{Refusal}
use Rattle.xw_feas.specs.declared.edit.Refusal.TheVariants as edits
use Rattle.xw_feas.specs.State.{State}
use Rattle.xw_feas.specs.Feasible.{Answers}
use Rattle.xw_feas.specs.Changes.{letters_of}
use Rattle.xw_feas.specs.Queries.{cell_judged, words_of}
use Rattle.xw_search.specs.Position.{position_of}
use Rattle.xw_search.specs.FeasibleWords.{feasible_words}
use Rattle.xw_search.proofs.FeasibleWordsLemmas.{answered_words}
use Rattle.xw_search.proofs.FeasibleLettersLemmas.{answered_letters}
use Rattle.xw_session.specs.Reports.{letters_told, count_line}
use Rattle.xw_answers.specs.Text.{numbered_line, change_line}
use Rattle.xw_session.proofs.Engine.{Knows}

-- ---- lights

-- the line of a light with its count of words is the specified one
pub counted_line : (engine : State) (answers : Answers) (index : ℕ) (light : Light) (count : ℕ) → Knows engine answers
    → slice_get (lights_of engine.grid) index ≡ Some light → count ≡ length (words_of answers index) → numbered_line light.name count ≡ count_line engine index
counted_line engine answers index light count exact there is =
    let found : get_or (lights_of engine.grid) index no_light ≡ light = get_or_from_slice_get (lights_of engine.grid) index light no_light there in
    let same : count ≡ length (feasible_words (position_of engine) index) = is ∙ ap length (answered_words (position_of engine) answers exact index) in
    ap (λ (l : Light). numbered_line l.name count) (sym found) ∙ ap (numbered_line (get_or (lights_of engine.grid) index no_light).name) same

-- ---- cells

not_block : (square : Option Square) → is_open_square square ≡ true → is_block_square square ≡ false
not_block None e = cc
not_block (Some Block) e = cc
not_block (Some (Open entered)) e = refl

-- every open cell has letters
judged_open : (grid : Grid) (cell : Cell) (letters : List ℕ) → is_open grid cell ≡ true → cell_judged grid cell letters ≡ Ok letters
judged_open grid cell letters opened = judged (is_inside grid cell) (is_block grid cell) (inside_from_open grid cell opened) (not_block (square_at grid cell) opened) where
  judged : (is_in blocks : Bool) → is_in ≡ true → blocks ≡ false → (if not is_in then Err (edits.Grid grids.OutOfGrid) else if blocks then Err (edits.Grid grids.OnBlock) else Ok letters) ≡ Ok letters
  judged true false a b = refl
  judged true true a b = cc
  judged false blocks a b = cc

pub told_letters : (engine : State) (answers : Answers) (cell : Cell) (set : ℕ) → Knows engine answers → is_open engine.grid cell ≡ true
    → cell_judged engine.grid cell (letters_of answers (index_of engine.grid cell)) ≡ Ok (letters_in set)
    → change_line (cell, letters_in set) ≡ letters_told engine cell
told_letters engine answers cell set exact opened is =
    let good = letters_of answers (index_of engine.grid cell) in
    let found : Ok good ≡ Ok (letters_in set) = sym (judged_open engine.grid cell good opened) ∙ is in
    let same : letters_in set ≡ good = cc in
    rw opened (ap (λ letters. change_line (cell, letters)) (same ∙ answered_letters (position_of engine) answers exact (index_of engine.grid cell)))

pub never_untold : (engine : State) (answers : Answers) (cell : Cell) (refusal : Refusal) → is_open engine.grid cell ≡ true
    → cell_judged engine.grid cell (letters_of answers (index_of engine.grid cell)) ≡ Err refusal → ⊥
never_untold engine answers cell refusal opened is =
    let good = letters_of answers (index_of engine.grid cell) in
    let found : Ok good ≡ Err refusal = sym (judged_open engine.grid cell good opened) ∙ is in
    cc
