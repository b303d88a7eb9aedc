-- The puzzle of a file, and the file of a puzzle, in either format.
use Rattle.std.specs.Prelude.{◌≡◌, ◌↔◌, ℕ, List, take, drop, Result, Ok}
use Rattle.xw_grid.specs.Puzzle.{PuzzleShown}
use Rattle.xw_files.specs.Puz.Reading.{magic}
use Rattle.xw_files.specs.Puz.Board.{puzzle_at}
use Rattle.xw_files.specs.Puz.Relation.{IsPuz}
use Rattle.xw_files.specs.Puz.Faults as puz_faults
use Rattle.xw_files.specs.Puz.Writing as puz_writing
use Rattle.xw_files.specs.Text.Shape.{all_of}
use Rattle.xw_files.specs.Text.Relation.{IsText}
use Rattle.xw_files.specs.Text.Faults as text_faults
use Rattle.xw_files.specs.Text.Written as text_writing
use Rattle.xw_files.specs.declared.fault.ReadFault.{ReadFault}
use Rattle.xw_files.specs.declared.fault.WriteFault.{WriteFault}
use Rattle.xw_files.specs.declared.kind.Kind.{Kind}
use Rattle.xw_files.specs.declared.kind.Kind.TheVariants.{Puz, Text}

-- the format that the bytes of a file have
abbrev pub HasFormat : List ℕ → Kind → Type 0
HasFormat bytes kind = (kind ≡ Puz) ↔ (take 12 (drop 2 bytes) ≡ magic)

-- the bytes are a file of this puzzle in this format
abbrev pub IsFileOf : Kind → List ℕ → PuzzleShown → Type 0
IsFileOf Puz bytes puzzle = IsPuz bytes puzzle
IsFileOf Text bytes puzzle = IsText bytes puzzle

-- the puzzle that the reader of this format makes of the bytes, or its fault
abbrev pub puzzle_in : Kind → List ℕ → Result PuzzleShown ReadFault
puzzle_in Puz bytes = puzzle_at bytes
puzzle_in Text bytes = all_of bytes

-- this is the first fault of the bytes, as a file in this format
abbrev pub IsFirstFault : Kind → List ℕ → ReadFault → Type 0
IsFirstFault Puz bytes fault = puz_faults.IsFirstFault bytes fault
IsFirstFault Text bytes fault = text_faults.IsFirstFault bytes fault

-- The bytes have this format and are a file of this puzzle. Bytes can be a file of several puzzles; this is the one
-- that the reader returns.
pub record IsRead (kind : Kind) (bytes : List ℕ) (puzzle : PuzzleShown) : Type 0 where
  pub format : HasFormat bytes kind
  pub file : IsFileOf kind bytes puzzle
  pub exact : puzzle_in kind bytes ≡ Ok puzzle

-- the bytes of the puzzle in this format, or why the format cannot hold it
abbrev pub written_as : Kind → PuzzleShown → Result (List ℕ) WriteFault
written_as Puz puzzle = puz_writing.written puzzle
written_as Text puzzle = text_writing.written puzzle
