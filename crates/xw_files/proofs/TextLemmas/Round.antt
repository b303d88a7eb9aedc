-- A puzzle is read from the lines that spell it.
use Rattle.std.proofs.Common.{◌≡◌, ℕ, true, List, [], ◌∷◌, ◌++◌, length, Some, Result, Ok, Err, map, refl, sym, ap, ◌∙◌, arith}
use Rattle.std.proofs.lemmas.Bool.Decides.{nat_tests}
use Rattle.std.specs.List.{flat_map, AllByRecursion}
use Rattle.std.specs.Char.{to_ascii_lowercase}
use Rattle.std.specs.Prelude.{codes}
use Rattle.std.proofs.lemmas.Bool.{and_parts, eqb-true, eq-eqb, cond-true}
use Rattle.std.proofs.lemmas.List.{length-map}
use Rattle.xw_files.specs.declared.fault.Tag.{Tag}
use Rattle.xw_grid.specs.declared.cell.Square.{Square}
use Rattle.xw_grid.specs.declared.cell.Direction.{Direction}
use Rattle.xw_grid.specs.declared.cell.Direction.TheVariants.{Across, Down}
use Rattle.xw_grid.specs.Grid.{Grid}
use Rattle.xw_grid.specs.Clue.{ClueMap, no_clues, clue_at}
use Rattle.xw_files.specs.declared.fault.Tag.TheVariants as tags
use Rattle.xw_files.specs.declared.fault.ReadFault.TheVariants as faults
use Rattle.xw_files.specs.declared.fault.ReadFault.{ReadFault}
use Rattle.xw_files.specs.Text.Tag.{names, is_tag_line}
use Rattle.xw_grid.specs.Puzzle.{PuzzleShown, TextsShown}
use Rattle.xw_files.specs.Text.Starts.{starts}
use Rattle.xw_grid.specs.Edit.{grid_of}
use Rattle.xw_files.specs.Steps.{◌>>=◌}
use Rattle.xw_files.specs.Text.Shape.{Lines, tag_at, text_at, texts_at, sides_of, square_of, grid_at, with_clues, both_clues_at, shape}
use Rattle.xw_files.specs.Text.Written.{clue_texts}
use Rattle.xw_files.specs.Text.Relation.{IsTag, IsPlain, AreText, AreNotes, IsRow, Spells}
use Rattle.xw_files.proofs.TextLemmas.Again.{header_again, tag_again, Stops, text_again, size_again, rows_again, clues_again, notes_again}
use Rattle.xw_files.proofs.PlainLights.{plain_of}
use Rattle.xw_files.proofs.TextLemmas.Sizes.{line_sides}
use Rattle.xw_files.proofs.TextLemmas.Lookups.{clues_found, clues_of_other, starts_distinct}

lower_bracket : (byte : ℕ) → to_ascii_lowercase byte ≡ 60 → byte ≡ 60
lower_bracket byte e = grind (arith, nat_tests)

-- a line that names a tag is a tag line
named_is_tag_line : (line name : List ℕ) → names line (60 ∷ name) ≡ true → is_tag_line line ≡ true
named_is_tag_line [] name is = absurd cc
named_is_tag_line (byte ∷ line) name is = eq-eqb byte 60 (lower_bracket byte (eqb-true _ _ (and_parts _ _ is).0))

pub tag_is_tag_line : (tag : Tag) (line : List ℕ) → IsTag tag line → is_tag_line line ≡ true
tag_is_tag_line tags.Title line is = named_is_tag_line line (codes "TITLE>") is
tag_is_tag_line tags.Author line is = named_is_tag_line line (codes "AUTHOR>") is
tag_is_tag_line tags.Copyright line is = named_is_tag_line line (codes "COPYRIGHT>") is
tag_is_tag_line tags.Size line is = named_is_tag_line line (codes "SIZE>") is
tag_is_tag_line tags.Grid line is = named_is_tag_line line (codes "GRID>") is
tag_is_tag_line tags.Across line is = named_is_tag_line line (codes "ACROSS>") is
tag_is_tag_line tags.Down line is = named_is_tag_line line (codes "DOWN>") is
tag_is_tag_line tags.Notepad line is = named_is_tag_line line (codes "NOTEPAD>") is

stops_at_tag : (tag : Tag) (line : List ℕ) (rest : Lines) → IsTag tag line → Stops (line ∷ rest)
stops_at_tag tag line rest is = cond-true _ _ _ (tag_is_tag_line tag line is)

stops_at_text : (tag : Tag) (text : List ℕ) (lines rest : Lines) → AreText tag text lines → Stops (lines ++ rest)
stops_at_text tag text [] rest there = absurd there
stops_at_text tag text (first ∷ []) rest there = stops_at_tag tag first rest there.0
stops_at_text tag text (first ∷ second ∷ []) rest there = stops_at_tag tag first (second ∷ rest) there.0
stops_at_text tag text (first ∷ second ∷ third ∷ more) rest there = absurd there

stops_at_notes : (notes : List ℕ) (lines : Lines) → AreNotes notes lines → Stops lines
stops_at_notes notes [] there = refl
stops_at_notes notes (line ∷ lines) there = stops_at_tag tags.Notepad line lines there.0

two_steps : {A B C : Type 0} (r : Result A ReadFault) (g : A → Result B ReadFault) (f : B → Result C ReadFault) (y : B) → (r >>= g) ≡ Ok y → (r >>= λ a. g a >>= f) ≡ f y
two_steps (Ok x) g f y e = rw e refl
two_steps (Err d) g f y e = absurd cc

texts_again : (texts : TextsShown) (title author copyright rest : Lines) → AreText tags.Title texts.title title → AreText tags.Author texts.author author → AreText tags.Copyright texts.copyright copyright → Stops rest
    → texts_at (title ++ (author ++ (copyright ++ rest))) ≡ Ok (record { title = texts.title; author = texts.author; copyright = texts.copyright; notes = [] }, rest)
unfolding texts_at
texts_again texts title author copyright rest is_title is_author is_copyright stops =
    let third = text_again tags.Copyright texts.copyright copyright rest is_copyright stops in
    let second = text_again tags.Author texts.author author (copyright ++ rest) is_author (stops_at_text tags.Copyright texts.copyright copyright rest is_copyright) in
    let first = text_again tags.Title texts.title title (author ++ (copyright ++ rest)) is_title (stops_at_text tags.Author texts.author author (copyright ++ rest) is_author) in
    two_steps (tag_at tags.Title (title ++ (author ++ (copyright ++ rest)))) text_at _ _ first
    ∙ two_steps (tag_at tags.Author (author ++ (copyright ++ rest))) text_at _ _ second
    ∙ two_steps (tag_at tags.Copyright (copyright ++ rest)) text_at _ _ third

same_map : {X Y : Type 0} (f g : X → Y) → ((x : X) → f x ≡ g x) → (xs : List X) → map f xs ≡ map g xs
same_map f g same [] = refl
same_map f g same (x ∷ xs) = rw (same x, same_map f g same xs) refl

grid_again : (size_tag size_line grid_tag : List ℕ) (rows rest : Lines) (width height : ℕ) → IsTag tags.Size size_tag → IsPlain size_line → sides_of size_line ≡ Some (width, height) → IsTag tags.Grid grid_tag → AllByRecursion (IsRow width) rows → length rows ≡ height
    → grid_at (size_tag ∷ size_line ∷ grid_tag ∷ (rows ++ rest)) ≡ Ok (grid_of width height (flat_map (map square_of) rows), rest)
unfolding grid_at
grid_again size_tag size_line grid_tag rows rest width height is_size plain is is_grid are_rows count =
    rw (tag_again tags.Size size_tag (size_line ∷ grid_tag ∷ (rows ++ rest)) is_size, size_again size_line (grid_tag ∷ (rows ++ rest)) width height plain is, tag_again tags.Grid grid_tag (rows ++ rest) is_grid, ← count, rows_again width 1 rows rest are_rows) refl

-- the clues of these lines, in the order in which they are set
abbrev pub clues_read : Grid → Lines → Lines → ClueMap
clues_read grid across down = with_clues Down (starts grid Down) down (with_clues Across (starts grid Across) across no_clues)

both_clues_again : (grid : Grid) (across_tag down_tag : List ℕ) (across down rest : Lines) → IsTag tags.Across across_tag → IsTag tags.Down down_tag → length across ≡ length (starts grid Across) → length down ≡ length (starts grid Down)
    → AllByRecursion IsPlain across → AllByRecursion IsPlain down → Stops rest
    → both_clues_at grid (across_tag ∷ (across ++ (down_tag ∷ (down ++ rest)))) ≡ Ok (clues_read grid across down, rest)
unfolding both_clues_at
both_clues_again grid across_tag down_tag across down rest is_across is_down many_across many_down plain_across plain_down stops =
    let first = clues_again faults.AcrossCount Across (starts grid Across) across (down_tag ∷ (down ++ rest)) no_clues many_across plain_across (stops_at_tag tags.Down down_tag (down ++ rest) is_down) in
    rw (tag_again tags.Across across_tag (across ++ (down_tag ∷ (down ++ rest))) is_across, first, tag_again tags.Down down_tag (down ++ rest) is_down)
    (clues_again faults.DownCount Down (starts grid Down) down rest (with_clues Across (starts grid Across) across no_clues) many_down plain_down stops)

-- these clues are found at their starts
pub clues_read_across : (grid : Grid) (across down : Lines) → length across ≡ length (starts grid Across) → clue_texts Across (clues_read grid across down) grid ≡ across
clues_read_across grid across down many =
    same_map (λ start. clue_at (clues_read grid across down) start Across) (λ start. clue_at (with_clues Across (starts grid Across) across no_clues) start Across)
    (λ start. clues_of_other Down Across (starts grid Down) down (with_clues Across (starts grid Across) across no_clues) start refl) (starts grid Across)
    ∙ clues_found Across (starts grid Across) across no_clues (starts_distinct grid Across) many

pub clues_read_down : (grid : Grid) (across down : Lines) → length down ≡ length (starts grid Down) → clue_texts Down (clues_read grid across down) grid ≡ down
clues_read_down grid across down many = clues_found Down (starts grid Down) down (with_clues Across (starts grid Across) across no_clues) (starts_distinct grid Down) many

-- the puzzle as reading returns it
abbrev pub read_back : PuzzleShown → PuzzleShown
read_back puzzle = record {
  grid = plain_of puzzle.grid;
  texts = puzzle.texts;
  clues = clues_read (plain_of puzzle.grid) (clue_texts Across puzzle.clues puzzle.grid) (clue_texts Down puzzle.clues puzzle.grid);
  circles = [];
}

pub shape_again : (lines : Lines) (puzzle : PuzzleShown) → ((direction : Direction) → starts puzzle.grid direction ≡ starts (plain_of puzzle.grid) direction) → Spells lines puzzle → shape lines ≡ Ok (read_back puzzle)
unfolding shape
shape_again lines puzzle same spelled =
    let across = clue_texts Across puzzle.clues puzzle.grid in
    let down = clue_texts Down puzzle.clues puzzle.grid in
    let many_across : length across ≡ length (starts (plain_of puzzle.grid) Across) = length-map (starts puzzle.grid Across) _ ∙ ap length (same Across) in
    let many_down : length down ≡ length (starts (plain_of puzzle.grid) Down) = length-map (starts puzzle.grid Down) _ ∙ ap length (same Down) in
    let end = spelled.notes in
    let below = spelled.across_tag ∷ (across ++ (spelled.down_tag ∷ (down ++ end))) in
    let middle = spelled.size_tag ∷ spelled.size_line ∷ spelled.grid_tag ∷ (spelled.rows ++ below) in
    let top = texts_again puzzle.texts spelled.title spelled.author spelled.copyright middle spelled.title_there spelled.author_there spelled.copyright_there (stops_at_tag tags.Size spelled.size_tag _ spelled.size_tagged) in
    let grid : grid_at middle ≡ Ok (plain_of puzzle.grid, below) =
    grid_again spelled.size_tag spelled.size_line spelled.grid_tag spelled.rows below puzzle.grid.width puzzle.grid.height spelled.size_tagged spelled.size_plain (line_sides spelled.size_line puzzle.grid.width puzzle.grid.height spelled.size) spelled.grid_tagged spelled.row_lines spelled.row_count
    ∙ ap (λ (squares : List Square). Ok (grid_of puzzle.grid.width puzzle.grid.height squares, below)) (sym spelled.squares) in
    let clues = both_clues_again (plain_of puzzle.grid) spelled.across_tag spelled.down_tag across down end spelled.across_tagged spelled.down_tagged many_across many_down spelled.across_plain spelled.down_plain (stops_at_notes puzzle.texts.notes end spelled.notes_there) in
    ap shape spelled.parts ∙ rw (header_again spelled.first _ spelled.header_first, top, grid, clues, notes_again puzzle.texts.notes end spelled.notes_there) refl
