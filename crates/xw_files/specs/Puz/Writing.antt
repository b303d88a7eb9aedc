-- The `.puz` file that is written for a puzzle, or why none is.
use Rattle.std.specs.Prelude.{◌≡◌, ℕ, ◌+◌, Bool, ◌==◌, List, [], ◌∷◌, ◌++◌, map, length, replicate, Option, Some, None, Result, Ok, Err, if◌then◌else◌, codes}
use Rattle.std.specs.List.{list_any}
use Rattle.xw_grid.specs.declared.cell.Cell.{Cell}
use Rattle.xw_grid.specs.declared.cell.Square.{Square}
use Rattle.xw_grid.specs.declared.cell.Square.TheVariants.{Block, Open}
use Rattle.xw_grid.specs.Grid.{Grid, cells}
use Rattle.xw_grid.specs.declared.lights.Light.{Light}
use Rattle.xw_grid.specs.Clue.{ClueMap}
use Rattle.xw_grid.specs.Light.{lights_of}
use Rattle.xw_files.specs.declared.fault.WriteFault.{WriteFault}
use Rattle.xw_files.specs.declared.fault.WriteFault.TheVariants.{Barred, NotFilled, Field}
use Rattle.xw_files.specs.declared.fault.TextName.{TextName}
use Rattle.xw_files.specs.declared.fault.TextName.TheVariants.{Title, Author, Copyright, Clue, Notes}
use Rattle.xw_files.specs.declared.puz.header.Header.{Header}
use Rattle.xw_files.specs.declared.puz.sums.Sums.{Sums}
use Rattle.xw_files.specs.Puz.Reading.{Fields}
use Rattle.xw_grid.specs.Puzzle.{PuzzleShown, clue_of}
use Rattle.xw_files.specs.Part.{light_clues, is_circled_open}
use Rattle.xw_files.specs.Finished.{has_bar, empty_cell, square_byte}
use Rattle.xw_files.specs.Puz.Sums.{sum_from, sums_of, masked_of}
use Rattle.xw_files.specs.Puz.Spelling.{file_bytes}
use Rattle.xw_files.specs.Puz.Sections.{Section, section_bytes}

-- ---- the boards

abbrev pub state_byte : Square → ℕ
state_byte Block = 46
state_byte (Open entered) = 45

-- ---- circles

abbrev pub mark_of : Grid → List Cell → Cell → ℕ
mark_of grid circles cell = if is_circled_open grid circles cell then 128 else 0

abbrev pub marks_of : Grid → List Cell → List ℕ
marks_of grid circles = map (mark_of grid circles) (cells grid)

-- a GEXT section with this data and its checksum
abbrev pub gext_of : List ℕ → Section
gext_of marks = record { name = codes "GEXT"; sum = sum_from 0 marks; body = marks }

abbrev pub gext_bytes : List ℕ → List ℕ
gext_bytes marks = section_bytes (gext_of marks)

-- the bytes of the GEXT section, or none if no open cell is circled
abbrev pub circles_section : Grid → List Cell → List ℕ
circles_section grid circles = if list_any (is_circled_open grid circles) (cells grid) then gext_bytes (marks_of grid circles) else []

-- ---- the fields

-- a header with all checksums zero
abbrev pub unsealed : ℕ → ℕ → ℕ → Header
unsealed width height count = record {
  file_sum = 0;
  cib_sum = 0;
  masked = replicate 8 0;
  width = width;
  height = height;
  clue_count = count;
  bitmask = 1;
}

abbrev pub unsealed_fields : PuzzleShown → Fields
unsealed_fields puzzle = record {
  header = unsealed puzzle.grid.width puzzle.grid.height (length (lights_of puzzle.grid));
  solution = map square_byte puzzle.grid.squares;
  state = map state_byte puzzle.grid.squares;
  title = puzzle.texts.title;
  author = puzzle.texts.author;
  copyright = puzzle.texts.copyright;
  clues = light_clues puzzle;
  notes = puzzle.texts.notes;
  rest = circles_section puzzle.grid puzzle.circles;
}

-- the fields with these checksums in the header
abbrev pub sealed_by : Fields → Sums → Fields
sealed_by fields sums = record fields { header = record fields.header { file_sum = sums.file; cib_sum = sums.cib; masked = masked_of sums } }

abbrev pub sealed : Fields → Fields
sealed fields = sealed_by fields (sums_of fields)

abbrev pub fields_of : PuzzleShown → Fields
fields_of puzzle = sealed (unsealed_fields puzzle)

-- the bytes of a puzzle
abbrev pub spelled_puzzle : PuzzleShown → List ℕ
spelled_puzzle puzzle = file_bytes (fields_of puzzle) (replicate 16 0)

-- ---- faults

abbrev pub has_nul : List ℕ → Bool
has_nul text = list_any (λ byte. byte == 0) text

-- the first clue with a NUL, counting from k
abbrev pub clue_with_nul : ℕ → List (List ℕ) → Option TextName
clue_with_nul k [] = None
clue_with_nul k (clue ∷ clues) = if has_nul clue then Some (Clue k) else clue_with_nul (k + 1) clues

-- no clue of the lights `passed` has a NUL; the first of them is clue number `first`, and `next` is the number after
-- them
abbrev pub PassesClues : ClueMap → List Light → ℕ → ℕ → Type 0
PassesClues clues passed first next = (lights : List Light) → clue_with_nul first (map (clue_of clues) (passed ++ lights)) ≡ clue_with_nul next (map (clue_of clues) lights)

-- the text is the first clue with a NUL among those of the lights `passed`; the first of them is clue number `first`
abbrev pub StopsAtClue : ClueMap → List Light → ℕ → TextName → Type 0
StopsAtClue clues passed first text = (lights : List Light) → clue_with_nul first (map (clue_of clues) (passed ++ lights)) ≡ Some text

abbrev pub or_notes : List ℕ → Option TextName → Option TextName
or_notes notes (Some text) = Some text
or_notes notes None = if has_nul notes then Some Notes else None

-- the first text with a NUL, in file order
abbrev pub text_with_nul : PuzzleShown → Option TextName
text_with_nul puzzle =
    if has_nul puzzle.texts.title then Some Title
    else if has_nul puzzle.texts.author then Some Author
    else if has_nul puzzle.texts.copyright then Some Copyright
    else or_notes puzzle.texts.notes (clue_with_nul 1 (light_clues puzzle))

abbrev pub field_fault : Option TextName → Option WriteFault
field_fault (Some text) = Some (Field text)
field_fault None = None

abbrev pub filled_fault : PuzzleShown → Option Cell → Option WriteFault
filled_fault puzzle (Some cell) = Some (NotFilled cell)
filled_fault puzzle None = field_fault (text_with_nul puzzle)

-- the first reason why a puzzle is not written
abbrev pub write_fault : PuzzleShown → Option WriteFault
write_fault puzzle =
    if has_bar puzzle.grid then Some Barred
    else filled_fault puzzle (empty_cell puzzle.grid)

abbrev pub written_by : PuzzleShown → Option WriteFault → Result (List ℕ) WriteFault
written_by puzzle (Some fault) = Err fault
written_by puzzle None = Ok (spelled_puzzle puzzle)

-- the bytes of a puzzle, or why it is not written
abbrev pub written : PuzzleShown → Result (List ℕ) WriteFault
written puzzle = written_by puzzle (write_fault puzzle)
