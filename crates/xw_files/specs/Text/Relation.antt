-- Which lines are a text file of a puzzle, stated independently of the reader.
use Rattle.std.specs.Prelude.{◌≡◌, ℕ, true, false, List, [], ◌∷◌, ◌++◌, length, map, flat_map, ◌≤◌}
use Rattle.std.specs.Char.{is_ascii_digit}
use Rattle.std.specs.Str.Parse.{digits_value}
use Rattle.std.specs.List.{AllByRecursion, join_with_byte}
use Rattle.xw_grid.specs.declared.cell.Direction.TheVariants as directions
use Rattle.xw_grid.specs.declared.cell.Symmetry.TheVariants as kinds
use Rattle.xw_files.specs.declared.fault.Tag.{Tag}
use Rattle.xw_files.specs.declared.fault.Tag.TheVariants as tags
use Rattle.xw_files.specs.Text.Lines.{trimmed, text_lines}
use Rattle.xw_files.specs.Text.Tag.{header, name_of, names, is_tag_line}
use Rattle.xw_grid.specs.Puzzle.{PuzzleShown}
use Rattle.xw_files.specs.Part.{circled_cells, part_of}
use Rattle.xw_files.specs.Text.Shape.{Lines, is_times, is_bad_square, square_of, is_nul}
use Rattle.xw_files.specs.Finished.{has_bar}
use Rattle.xw_files.specs.Text.Written.{clue_texts}

abbrev pub IsTag : Tag → List ℕ → Type 0
IsTag tag line = names line (name_of tag) ≡ true

-- the line is not a tag line
abbrev pub IsPlain : List ℕ → Type 0
IsPlain line = is_tag_line line ≡ false

-- the lines are a tag and one line with the text, or the tag alone if the text is empty
abbrev pub AreText : Tag → List ℕ → Lines → Type 0
AreText tag text [] = ⊥
AreText tag text (first ∷ []) = IsTag tag first × (text ≡ [])
AreText tag text (first ∷ second ∷ []) = IsTag tag first × IsPlain second × (text ≡ second)
AreText tag text (first ∷ second ∷ third ∷ rest) = ⊥

-- the digits, 1 to 3 of them, are the decimal value `side`, which is 1 to 255
pub record AreDigitsOf (side : ℕ) (digits : List ℕ) : Type 0 where
  pub several : (1 ≤ length digits) × (length digits ≤ 3)
  pub each : AllByRecursion (λ byte. is_ascii_digit byte ≡ true) digits
  pub value : digits_value 10 digits ≡ side
  pub range : (1 ≤ side) × (side ≤ 255)

-- the line is the digits of the width, an `x`, and the digits of the height, with blanks allowed beside the `x`
pub record IsSizeLine (width height : ℕ) (line : List ℕ) : Type 0 where
  pub left : List ℕ
  pub times : ℕ
  pub right : List ℕ
  pub parts : line ≡ left ++ times ∷ right
  pub is_times : is_times times ≡ true
  pub width_there : AreDigitsOf width (trimmed left)
  pub height_there : AreDigitsOf height (trimmed right)

-- the line has `width` bytes, and each of them is a square
pub record IsRow (width : ℕ) (line : List ℕ) : Type 0 where
  pub plain : IsPlain line
  pub wide : length line ≡ width
  pub good : AllByRecursion (λ byte. is_bad_square byte ≡ false) line

-- the lines are the notepad tag and the lines of the notes, or no lines if the notes are empty
abbrev pub AreNotes : List ℕ → Lines → Type 0
AreNotes notes [] = notes ≡ []
AreNotes notes (first ∷ rest) = IsTag tags.Notepad first × (notes ≡ join_with_byte 10 rest)

-- the lines describe the file part of the puzzle
pub record Spells (lines : Lines) (puzzle : PuzzleShown) : Type 0 where
  pub first : List ℕ
  pub title : Lines
  pub author : Lines
  pub copyright : Lines
  pub size_tag : List ℕ
  pub size_line : List ℕ
  pub grid_tag : List ℕ
  pub rows : Lines
  pub across_tag : List ℕ
  pub down_tag : List ℕ
  pub notes : Lines
  pub parts : lines ≡ first ∷ (title ++ (author ++ (copyright ++ (size_tag ∷ size_line ∷ grid_tag ∷ (rows ++ (across_tag ∷ (clue_texts directions.Across puzzle.clues puzzle.grid
      ++ (down_tag ∷ (clue_texts directions.Down puzzle.clues puzzle.grid ++ notes)))))))))
  pub header_first : names first header ≡ true
  pub title_there : AreText tags.Title puzzle.texts.title title
  pub author_there : AreText tags.Author puzzle.texts.author author
  pub copyright_there : AreText tags.Copyright puzzle.texts.copyright copyright
  pub size_tagged : IsTag tags.Size size_tag
  pub size_plain : IsPlain size_line
  pub size : IsSizeLine puzzle.grid.width puzzle.grid.height size_line
  pub grid_tagged : IsTag tags.Grid grid_tag
  pub row_lines : AllByRecursion (IsRow puzzle.grid.width) rows
  pub row_count : length rows ≡ puzzle.grid.height
  pub squares : puzzle.grid.squares ≡ flat_map (map square_of) rows
  pub across_tagged : IsTag tags.Across across_tag
  pub across_plain : AllByRecursion IsPlain (clue_texts directions.Across puzzle.clues puzzle.grid)
  pub down_tagged : IsTag tags.Down down_tag
  pub down_plain : AllByRecursion IsPlain (clue_texts directions.Down puzzle.clues puzzle.grid)
  pub notes_there : AreNotes puzzle.texts.notes notes

-- the bytes are a text file of the puzzle
pub record IsText (bytes : List ℕ) (puzzle : PuzzleShown) : Type 0 where
  pub no_nul : AllByRecursion (λ byte. is_nul byte ≡ false) bytes
  pub lines : Spells (text_lines bytes) puzzle
  pub no_bar : has_bar puzzle.grid ≡ false
  pub no_circle : circled_cells puzzle ≡ []

-- the puzzle has no symmetry and no circles, which a text file cannot hold
abbrev pub IsBare : PuzzleShown → Type 0
IsBare puzzle = (puzzle.grid.symmetry ≡ kinds.None) × (puzzle.circles ≡ [])

-- all puzzles of one text file have the same file part
abbrev pub HasOnePart : Type 0
HasOnePart = (bytes : List ℕ) (one other : PuzzleShown) → IsText bytes one → IsText bytes other → part_of one ≡ part_of other
