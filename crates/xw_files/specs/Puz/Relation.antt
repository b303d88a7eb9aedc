-- When bytes are a `.puz` file of a puzzle.
use Rattle.std.specs.Prelude.{◌≡◌, ℕ, ◌*◌, false, List, [], ◌++◌, map, length, Option, Some, None}
use Rattle.xw_grid.specs.Puzzle.{TextsShown, PuzzleShown}
use Rattle.xw_files.specs.Part.{light_clues, circled_cells}
use Rattle.xw_files.specs.Finished.{has_bar}
use Rattle.xw_files.specs.Puz.Reading.{Fields}
use Rattle.xw_files.specs.Puz.Spelling.{FitsFile, file_bytes}
use Rattle.xw_files.specs.Puz.Sums.{sum_from, sums_of, HasSums}
use Rattle.xw_files.specs.Puz.Sections.{Section, AreBytes, AreSections, HasNoGext, first_gext, marked_cells}
use Rattle.xw_files.specs.Puz.Board.{square_of}

-- the open circled cells are exactly those that the first GEXT section marks
abbrev pub AreMarked : PuzzleShown → Option Section → Type 0
AreMarked puzzle None = circled_cells puzzle ≡ []
AreMarked puzzle (Some section) =
    (length section.body ≡ puzzle.grid.width * puzzle.grid.height) × (section.sum ≡ sum_from 0 section.body) × (circled_cells puzzle ≡ marked_cells puzzle.grid section.body)

abbrev pub texts_of : Fields → TextsShown
texts_of fields = record { title = fields.title; author = fields.author; copyright = fields.copyright; notes = fields.notes }

-- The bytes split into a header with 16 reserved bytes, two boards, NUL-terminated texts, whole sections and a tail.
-- The fields fit, the checksums are right, and the puzzle has no bar and is what these parts describe.
pub record IsPuz (bytes : List ℕ) (puzzle : PuzzleShown) : Type 0 where
  pub fields : Fields
  pub reserved : List ℕ
  pub sections : List Section
  pub tail : List ℕ
  pub reserved_long : length reserved ≡ 16
  pub fits : FitsFile fields
  pub cut : bytes ≡ file_bytes fields reserved
  pub cut_rest : AreSections fields.rest sections tail
  pub sums : HasSums fields.header (sums_of fields)
  pub width : puzzle.grid.width ≡ fields.header.width
  pub height : puzzle.grid.height ≡ fields.header.height
  pub no_bar : has_bar puzzle.grid ≡ false
  pub squares : map square_of fields.solution ≡ map (λ square. Some square) puzzle.grid.squares
  pub texts : puzzle.texts ≡ texts_of fields
  pub clues : light_clues puzzle ≡ fields.clues
  pub circles : AreMarked puzzle (first_gext sections)

-- With any bytes appended, the bytes are a file of the puzzle. If no open cell is circled, the appended bytes must
-- have no GEXT section.
abbrev pub IsPuzBefore : List ℕ → PuzzleShown → Type 0
IsPuzBefore bytes puzzle = (tail : List ℕ) → AreBytes tail → (circled_cells puzzle ≡ [] → HasNoGext tail) → IsPuz (bytes ++ tail) puzzle
