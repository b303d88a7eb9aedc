-- A puzzle that is written reads back.
use Rattle.std.proofs.Common.{◌≡◌, ℕ, suc, ◌<◌, Bool, true, false, not, ◌&&◌, cond, List, [], ◌∷◌, length, Option, Some, None, Result, Ok, Err, map, get_or, refl, inl, inr, arith}
use Rattle.std.specs.Prelude.{find, filter}
use Rattle.std.specs.List.{list_all}
use Rattle.std.proofs.lemmas.Bool.{cases_Bool}
use Rattle.xw_text.proofs.Position.{position-None}
use Rattle.xw_grid.specs.declared.cell.Cell.{Cell}
use Rattle.xw_grid.specs.declared.cell.Direction.{Direction}
use Rattle.xw_grid.specs.declared.cell.Direction.TheVariants.{Across, Down}
use Rattle.xw_grid.specs.declared.lights.Light.{Light}
use Rattle.xw_grid.specs.Grid.{IsGrid, cells}
use Rattle.xw_grid.specs.Light.{lights_of, same_direction, no_light}
use Rattle.xw_grid.specs.Clue.{ClueMap, clue_at}
use Rattle.xw_files.specs.declared.fault.TextName.{TextName}
use Rattle.xw_files.specs.declared.fault.TextName.TheVariants as fields
use Rattle.xw_files.specs.declared.fault.WriteFault.{WriteFault}
use Rattle.xw_files.specs.declared.fault.WriteFault.TheVariants as faults
use Rattle.xw_grid.specs.Puzzle.{PuzzleShown}
use Rattle.xw_files.specs.Part.{is_circled_open}
use Rattle.xw_files.specs.Text.Starts.{starts_in}
use Rattle.xw_files.specs.Finished.{has_bar, empty_cell}
use Rattle.xw_files.specs.Text.Written.{is_spelled, is_clue, are_notes, is_bad_clue, bad_clue, named_clue, bad_field, clue_texts, texted, unless_circled, unless_field, unless_empty, written}
use Rattle.xw_files.specs.Text.Relation.{IsText}
use Rattle.xw_files.proofs.TextLemmas.Whole.{CanBeWritten, is_text}

not_refused : {A : Type 0} (b : Bool) (d : WriteFault) (r : Result A WriteFault) (y : A) → cond b (Err d) r ≡ Ok y → (b ≡ false) × (r ≡ Ok y)
not_refused true d r y e = absurd cc
not_refused false d r y e = (refl, e)

not_empty : (cell : Option Cell) (r : Result (List ℕ) WriteFault) (y : List ℕ) → unless_empty cell r ≡ Ok y → r ≡ Ok y
not_empty None r y e = e
not_empty (Some cell) r y e = absurd cc

no_field : (field : Option TextName) (r : Result (List ℕ) WriteFault) (y : List ℕ) → unless_field field r ≡ Ok y → (field ≡ None) × (r ≡ Ok y)
no_field None r y e = (refl, e)
no_field (Some field) r y e = absurd cc

no_circle : (cell : Option Cell) (text y : List ℕ) → unless_circled cell text ≡ Ok y → (cell ≡ None) × (text ≡ y)
no_circle None text y e = (refl, cc)
no_circle (Some cell) text y e = absurd cc

none_left : (p : Cell → Bool) (cs : List Cell) → find p cs ≡ None → filter p cs ≡ []
none_left p [] none = refl
none_left p (c ∷ cs) none =
    elim (p c) as (λ b. cond b (Some c) (find p cs) ≡ None → cond b (c ∷ filter p cs) (filter p cs) ≡ []) [
      | true ↦ λ found. absurd cc
      | false ↦ λ rest. none_left p cs rest
    ] none

good_field : (b : Bool) (field : TextName) (rest : Option TextName) → cond (not b) (Some field) rest ≡ None → (b ≡ true) × (rest ≡ None)
good_field true field rest e = (refl, e)
good_field false field rest e = absurd cc

good_clue : (index : Option ℕ) (rest : Option TextName) → named_clue index rest ≡ None → (index ≡ None) × (rest ≡ None)
good_clue None rest e = (refl, e)
good_clue (Some index) rest e = absurd cc

good_notes : (b : Bool) → cond b None (Some fields.Notes) ≡ None → b ≡ true
good_notes true e = refl
good_notes false e = absurd cc

clue_fine : (same fine : Bool) → (same && not fine) ≡ false → same ≡ true → fine ≡ true
clue_fine true true e s = refl
clue_fine true false e s = absurd cc
clue_fine false fine e s = absurd cc

clues_fine : (direction : Direction) (clues : ClueMap) (lights : List Light) → ((k : ℕ) (d : Light) → k < length lights → is_bad_clue direction clues (get_or lights k d) ≡ false) → list_all is_clue (map (λ start. clue_at clues start direction) (starts_in direction lights)) ≡ true
clues_fine direction clues [] none = refl
clues_fine direction clues (light ∷ lights) none =
    let rest = clues_fine direction clues lights (λ k d lt. none (suc k) d (omega arith)) in
    elim (cases_Bool (same_direction light.name.direction direction)) [
      | inl same ↦ rw (same, clue_fine (same_direction light.name.direction direction) (is_clue (clue_at clues light.start direction)) (none 0 no_light (omega arith)) same) rest
      | inr other ↦ rw other rest
    ]

direction_fine : (direction : Direction) (puzzle : PuzzleShown) → bad_clue direction puzzle.clues (lights_of puzzle.grid) ≡ None → list_all is_clue (clue_texts direction puzzle.clues puzzle.grid) ≡ true
direction_fine direction puzzle none = clues_fine direction puzzle.clues (lights_of puzzle.grid) (position-None (is_bad_clue direction puzzle.clues) (lights_of puzzle.grid) none)

pub can_be_written : (puzzle : PuzzleShown) (text : List ℕ) → IsGrid puzzle.grid → written puzzle ≡ Ok text → CanBeWritten puzzle × (texted puzzle ≡ text)
unfolding written bad_field
can_be_written puzzle text grid e =
    let one = not_refused (has_bar puzzle.grid) faults.Barred _ text e in
    let two = not_empty (empty_cell puzzle.grid) _ text one.1 in
    let three = no_field (bad_field puzzle) _ text two in
    let title = good_field (is_spelled puzzle.texts.title) fields.Title _ three.0 in
    let author = good_field (is_spelled puzzle.texts.author) fields.Author _ title.1 in
    let copyright = good_field (is_spelled puzzle.texts.copyright) fields.Copyright _ author.1 in
    let across = good_clue (bad_clue Across puzzle.clues (lights_of puzzle.grid)) _ copyright.1 in
    let down = good_clue (bad_clue Down puzzle.clues (lights_of puzzle.grid)) _ across.1 in
    let circled = no_circle (find (is_circled_open puzzle.grid puzzle.circles) (cells puzzle.grid)) (texted puzzle) text three.1 in (
      record {
        grid = grid;
        no_bar = one.0;
        title = title.0;
        author = author.0;
        copyright = copyright.0;
        across = direction_fine Across puzzle across.0;
        down = direction_fine Down puzzle down.0;
        notes = good_notes (are_notes puzzle.texts.notes) down.1;
        no_circle = none_left (is_circled_open puzzle.grid puzzle.circles) (cells puzzle.grid) circled.0;
      },
      circled.1,
    )

-- the text that is written is a text file of the puzzle
pub is_again : (puzzle : PuzzleShown) → IsGrid puzzle.grid → written puzzle ≡ Ok (texted puzzle) → IsText (texted puzzle) puzzle
is_again puzzle grid wrote = is_text puzzle (can_be_written puzzle (texted puzzle) grid wrote).0
