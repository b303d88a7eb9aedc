-- Laws of the relation between `.puz` files and puzzles.
use Rattle.std.specs.Prelude.{◌≡◌, ℕ, List, [], ◌++◌, Ok, Err}
use Rattle.xw_grid.specs.Grid.{IsGrid}
use Rattle.xw_grid.specs.Puzzle.{PuzzleShown}
use Rattle.xw_files.specs.declared.fault.ReadFault.{ReadFault}
use Rattle.xw_files.specs.Part.{circled_cells, part_of}
use Rattle.xw_files.specs.Puz.Sections.{Section, AreBytes, AreSections, HasNoGext}
use Rattle.xw_files.specs.Puz.Board.{puzzle_at}
use Rattle.xw_files.specs.Puz.Relation.{IsPuz}
use Rattle.xw_files.specs.Puz.Faults.{IsFirstFault, HasNoFault}
use Rattle.xw_files.specs.Puz.Writing.{written}

-- all puzzles of one file have the same file part
abbrev pub FilesHaveOnePart : Type 0
FilesHaveOnePart = (bytes : List ℕ) (puzzle other : PuzzleShown) → IsPuz bytes puzzle → IsPuz bytes other → part_of puzzle ≡ part_of other

-- any bytes split into whole sections and a tail
abbrev pub BytesAreCut : Type 0
BytesAreCut = (bytes : List ℕ) → AreBytes bytes → (sections : List Section) × (tail : List ℕ) × AreSections bytes sections tail

-- bytes split into whole sections and a tail in only one way
abbrev pub CutsAreOne : Type 0
CutsAreOne = (bytes : List ℕ) (sections others : List Section) (tail end : List ℕ) → AreSections bytes sections tail → AreSections bytes others end → (sections ≡ others) × (tail ≡ end)

-- What is written reads back with the same file part, even with bytes appended. If no open cell is circled, the
-- appended bytes must have no GEXT section.
abbrev pub WrittenIsRead : Type 0
WrittenIsRead = (puzzle : PuzzleShown) (bytes tail : List ℕ) → IsGrid puzzle.grid → written puzzle ≡ Ok bytes → AreBytes (bytes ++ tail) → (circled_cells puzzle ≡ [] → HasNoGext tail) →
    (read : PuzzleShown) × (puzzle_at (bytes ++ tail) ≡ Ok read) × (part_of read ≡ part_of puzzle)

-- the fault of a file that is not read is its first one
abbrev pub FirstFaultIsFound : Type 0
FirstFaultIsFound = (bytes : List ℕ) (fault : ReadFault) → AreBytes bytes → puzzle_at bytes ≡ Err fault → IsFirstFault bytes fault

-- only one fault is the first
abbrev pub FirstFaultIsOne : Type 0
FirstFaultIsOne = (bytes : List ℕ) (fault other : ReadFault) → IsFirstFault bytes fault → IsFirstFault bytes other → fault ≡ other

-- a file of a puzzle has no fault
abbrev pub FilesHaveNoFault : Type 0
FilesHaveNoFault = (bytes : List ℕ) (puzzle : PuzzleShown) → AreBytes bytes → IsPuz bytes puzzle → HasNoFault bytes
