-- The laws of reading text files.
use Rattle.std.proofs.Common.{◌≡◌, ℕ, false, List, [], ◌∷◌, ◌++◌, cond, length, None, Result, Ok, Err, map, refl, sym, ap, ◌∙◌}
use Rattle.std.specs.Prelude.{position}
use Rattle.std.proofs.lemmas.List.{length-map}
use Rattle.xw_text.proofs.Position.{position_is_none}
use Rattle.xw_grid.specs.declared.cell.Direction.TheVariants.{Across, Down}
use Rattle.xw_grid.specs.declared.cell.Cell.{Cell}
use Rattle.xw_grid.specs.declared.cell.Direction.{Direction}
use Rattle.xw_grid.specs.declared.lights.Light.{Light}
use Rattle.xw_grid.specs.Light.{lights_of, same_direction}
use Rattle.xw_grid.specs.Clue.{ClueMap, clue_at}
use Rattle.xw_files.specs.declared.fault.ReadFault.{ReadFault}
use Rattle.xw_grid.specs.declared.puzzle.Puzzle.{Puzzle}
use Rattle.xw_files.specs.Text.Lines.{text_lines}
use Rattle.xw_grid.specs.Puzzle.{PuzzleShown, clue_of, puzzle_view}
use Rattle.xw_files.specs.Part.{FilePart, part_of, light_clues}
use Rattle.xw_files.specs.Text.Starts.{starts, starts_in}
use Rattle.xw_files.specs.Steps.{GivesOrLacksMemory}
use Rattle.xw_files.specs.Text.Shape.{is_nul, all_of}
use Rattle.xw_files.specs.Finished.{has_bar}
use Rattle.xw_files.specs.Text.Written.{clue_texts}
use Rattle.xw_files.specs.Text.Relation.{IsText, HasOnePart}
use Rattle.xw_files.proofs.TextLemmas.Round.{read_back, shape_again, clues_read, clues_read_across, clues_read_down}
use Rattle.xw_files.proofs.TextLemmas.Found.{none_circled}
use Rattle.xw_files.proofs.PlainLights.{plain_of, plain_lights}
use Rattle.xw_files.proofs.TextLemmas.Alls.{all_at}

pub all_again : (bytes : List ℕ) (puzzle : PuzzleShown) → IsText bytes puzzle → all_of bytes ≡ Ok (read_back puzzle)
unfolding all_of
all_again bytes puzzle is =
    let none : position is_nul bytes ≡ None = position_is_none is_nul bytes 0 (λ k lt. all_at (λ byte. is_nul byte ≡ false) bytes is.no_nul k 0 lt) in
    rw none (shape_again (text_lines bytes) puzzle (λ direction. ap (starts_in direction) (plain_lights puzzle.grid is.no_bar)) is.lines)

-- the clues of one direction
abbrev clues_towards : ClueMap → List Light → Direction → List (List ℕ)
clues_towards clues lights direction = map (λ start. clue_at clues start direction) (starts_in direction lights)

heads_and_tails : {X : Type 0} (x y : X) (xs ys : List X) → x ∷ xs ≡ y ∷ ys → (x ≡ y) × (xs ≡ ys)
heads_and_tails x y xs ys e = (cc, cc)

-- equal clues in both directions: equal for the first light, and for the others
split : (one other : ClueMap) (light : Light) (lights : List Light) → ((direction : Direction) → clues_towards one (light ∷ lights) direction ≡ clues_towards other (light ∷ lights) direction)
    → (clue_of one light ≡ clue_of other light) × ((direction : Direction) → clues_towards one lights direction ≡ clues_towards other lights direction)
split one other light lights same =
    elim light.name.direction as (λ t. ((d : Direction) → map (λ start. clue_at one start d) (cond (same_direction t d) (light.start ∷ []) [] ++ starts_in d lights) ≡ map (λ start. clue_at other start d) (cond (same_direction t d) (light.start ∷ []) [] ++ starts_in d lights))
    → (clue_at one light.start t ≡ clue_at other light.start t) × ((d : Direction) → clues_towards one lights d ≡ clues_towards other lights d)) [
      | Across ↦ λ same. let parts = heads_and_tails _ _ _ _ (same Across) in (parts.0, λ d. elim d as (λ d. clues_towards one lights d ≡ clues_towards other lights d) [ Across ↦ parts.1 | Down ↦ same Down ])
      | Down ↦ λ same. let parts = heads_and_tails _ _ _ _ (same Down) in (parts.0, λ d. elim d as (λ d. clues_towards one lights d ≡ clues_towards other lights d) [ Across ↦ same Across | Down ↦ parts.1 ])
    ] same

-- if the clues are equal in each direction, they are equal for every light
same_clues : (one other : ClueMap) (lights : List Light) → ((direction : Direction) → clues_towards one lights direction ≡ clues_towards other lights direction) → map (clue_of one) lights ≡ map (clue_of other) lights
same_clues one other [] same = refl
same_clues one other (light ∷ lights) same =
    let parts = split one other light lights same in
    rw (parts.0, same_clues one other lights parts.1) refl

-- the puzzle that is read back has the same clues
clues_again : (puzzle : PuzzleShown) → has_bar puzzle.grid ≡ false → light_clues (read_back puzzle) ≡ light_clues puzzle
clues_again puzzle none =
    let across = clue_texts Across puzzle.clues puzzle.grid in
    let down = clue_texts Down puzzle.clues puzzle.grid in
    let plain = plain_of puzzle.grid in
    let read = clues_read plain across down in
    let same : lights_of puzzle.grid ≡ lights_of plain = plain_lights puzzle.grid none in
    let many_across : length across ≡ length (starts plain Across) = length-map (starts puzzle.grid Across) _ ∙ ap (λ (ls : List Light). length (starts_in Across ls)) same in
    let many_down : length down ≡ length (starts plain Down) = length-map (starts puzzle.grid Down) _ ∙ ap (λ (ls : List Light). length (starts_in Down ls)) same in
    let of_plain : (d : Direction) → clue_texts d puzzle.clues puzzle.grid ≡ clue_texts d puzzle.clues plain = λ d. ap (λ (ls : List Light). map (λ start. clue_at puzzle.clues start d) (starts_in d ls)) same in
    same_clues read puzzle.clues (lights_of plain) (λ d. elim d as (λ d. clue_texts d read plain ≡ clue_texts d puzzle.clues plain) [
      | Across ↦ clues_read_across plain across down many_across ∙ of_plain Across
      | Down ↦ clues_read_down plain across down many_down ∙ of_plain Down
    ])
    ∙ ap (map (clue_of puzzle.clues)) (sym same)

-- the puzzle that is read back has the same file part
pub part_again : (bytes : List ℕ) (puzzle : PuzzleShown) → IsText bytes puzzle → part_of (read_back puzzle) ≡ part_of puzzle
part_again bytes puzzle is =
    ap (λ (clues : List (List ℕ)). record (part_of (read_back puzzle)) { clues = clues }) (clues_again puzzle is.no_bar)
    ∙ ap (λ (circled : List Cell). record (part_of puzzle) { circled = circled }) (none_circled (read_back puzzle) refl ∙ sym is.no_circle)

same_ok : {A : Type 0} (r : Result A ReadFault) (x y : A) → r ≡ Ok x → r ≡ Ok y → x ≡ y
same_ok r x y e f = cc

pub is_only : (bytes : List ℕ) (result : Result Puzzle ReadFault) → GivesOrLacksMemory puzzle_view result (all_of bytes) → (puzzle : PuzzleShown) → IsText bytes puzzle → GivesOrLacksMemory (λ read. part_of (puzzle_view read)) result (Ok (part_of puzzle))
is_only bytes (Ok read) given puzzle is =
    let same : read_back puzzle ≡ puzzle_view read = same_ok (all_of bytes) (read_back puzzle) (puzzle_view read) (all_again bytes puzzle is) given in
    ap (λ (part : FilePart). Ok part) (sym (part_again bytes puzzle is) ∙ ap part_of same)
is_only bytes (Err fault) given puzzle is = λ other. absurd (ok_is_not_err (sym (all_again bytes puzzle is) ∙ given other))
  where
    ok_is_not_err : {A : Type 0} {x : A} {f : ReadFault} → Ok x ≡ Err f → ⊥
    ok_is_not_err e = cc

pub has_one_part : HasOnePart
has_one_part bytes one other is_one is_other =
    sym (part_again bytes one is_one) ∙ ap part_of (same_ok (all_of bytes) (read_back one) (read_back other) (all_again bytes one is_one) (all_again bytes other is_other)) ∙ part_again bytes other is_other
