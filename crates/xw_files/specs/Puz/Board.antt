-- The puzzle that the fields of a file describe, or their first fault.
use Rattle.std.specs.Prelude.{ℕ, ◌+◌, ◌==◌, nat_lt, List, [], ◌∷◌, length, Option, Some, None, option_map, Result, Ok, Err, if◌then◌else◌}
use Rattle.xw_letters.specs.Letter.{letter_of}
use Rattle.xw_grid.specs.declared.cell.Square.{Square}
use Rattle.xw_grid.specs.declared.cell.Square.TheVariants.{Block, Open}
use Rattle.xw_grid.specs.declared.lights.Light.{Light}
use Rattle.xw_grid.specs.Grid.{Grid, cell_in}
use Rattle.xw_grid.specs.Edit.{grid_of}
use Rattle.xw_grid.specs.Light.{lights_of}
use Rattle.xw_grid.specs.Clue.{ClueMap, no_clues, with_clue}
use Rattle.xw_grid.specs.Puzzle.{PuzzleShown}
use Rattle.xw_files.specs.declared.fault.ReadFault.{ReadFault}
use Rattle.xw_files.specs.declared.fault.Piece.TheVariants as part
use Rattle.xw_files.specs.declared.fault.ReadFault.TheVariants.{Short, BadCell, BadSum, ClueCount}
use Rattle.xw_files.specs.declared.fault.SumName.{SumName}
use Rattle.xw_files.specs.declared.puz.header.Header.{Header}
use Rattle.xw_files.specs.Steps.{◌>>=◌}
use Rattle.xw_files.specs.Puz.Reading.{Fields, part_at, cell_count, header_at, fields_at}
use Rattle.xw_files.specs.Puz.Sums.{sums_of, wrong_sum}
use Rattle.xw_files.specs.Puz.Sections.{gext_in, circles_by}

-- ---- the solution

-- the square of a byte
abbrev pub square_of : ℕ → Option Square
square_of byte = if byte == 46 then Some Block else if byte == 45 then Some (Open None) else option_map (λ letter. Open (Some letter)) (letter_of byte)

abbrev pub square_or_fault : ℕ → ℕ → Option Square → Result Square ReadFault
square_or_fault width index (Some square) = Ok square
square_or_fault width index None = Err (BadCell (cell_in width index))

-- the squares of bytes, the first of them at index `index`; BadCell for the first byte that is not a square
abbrev pub squares_at : ℕ → ℕ → List ℕ → Result (List Square) ReadFault
squares_at width index [] = Ok []
squares_at width index (byte ∷ bytes) = square_or_fault width index (square_of byte) >>= λ square. (squares_at width (index + 1) bytes >>= λ others. Ok (square ∷ others))

-- the grid of a solution board
abbrev pub board_grid : Header → List ℕ → Result Grid ReadFault
board_grid header solution = squares_at header.width 0 solution >>= λ squares. Ok (grid_of header.width header.height squares)

abbrev pub grid_at : Fields → Result Grid ReadFault
grid_at fields = board_grid fields.header fields.solution

-- the grid of a file, read from the header and the solution board alone
abbrev pub grid_of_puz : List ℕ → Result Grid ReadFault
grid_of_puz bytes = header_at bytes >>= λ header.
    (if nat_lt (length bytes) (52 + cell_count header) then Err (Short part.Boards) else board_grid header (part_at 52 (cell_count header) bytes))

-- ---- the clues

-- the clues after the clue of each light is set to the text at the same index
abbrev pub with_clues : ClueMap → List Light → List (List ℕ) → ClueMap
with_clues clues lights [] = clues
with_clues clues [] (text ∷ texts) = clues
with_clues clues (light ∷ lights) (text ∷ texts) = with_clues (with_clue clues light.start light.name.direction text) lights texts

abbrev pub clues_in : List Light → Fields → Result (ClueMap) ReadFault
clues_in lights fields = if fields.header.clue_count == length lights then Ok (with_clues no_clues lights fields.clues) else Err ClueCount

-- ---- the whole puzzle

abbrev pub no_wrong : Option SumName → Result (Unit {0}) ReadFault
no_wrong None = Ok tt
no_wrong (Some sum) = Err (BadSum sum)

-- the puzzle that the fields describe, or their first fault: checksums, board, clue count, circles
abbrev pub puzzle_of : Fields → Result PuzzleShown ReadFault
puzzle_of fields =
    no_wrong (wrong_sum fields.header (sums_of fields)) >>= λ _.
    (grid_at fields >>= λ grid.
    (clues_in (lights_of grid) fields >>= λ clues.
    (circles_by grid (gext_in fields.rest) >>= λ circles.
    Ok (record {
      grid = grid;
      texts = record { title = fields.title; author = fields.author; copyright = fields.copyright; notes = fields.notes };
      clues = clues;
      circles = circles;
    }))))

-- the puzzle of a file, or its first fault
abbrev pub puzzle_at : List ℕ → Result PuzzleShown ReadFault
puzzle_at bytes = fields_at bytes >>= puzzle_of
