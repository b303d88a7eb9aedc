-- The commands of a record, which rebuild the words, the texts and the contents of cells of a session.
use Rattle.std.specs.Prelude.{ℕ, ◌+◌, ◌-◌, ◌*◌, ◌/◌, ◌==◌, List, [], ◌∷◌, ◌++◌, map, take, drop, length, flat_map, Option, Some, None, slice_index_or, if◌then◌else◌}
use Rattle.std.specs.List.{range_with_len}
use Rattle.xw_words.specs.Dictionary.{Dictionary, Entry, known_words, best_grade}
use Rattle.xw_grid.specs.declared.cell.Cell.{Cell}
use Rattle.xw_grid.specs.declared.cell.Direction.{Direction}
use Rattle.xw_grid.specs.declared.cell.Side.{Side}
use Rattle.xw_grid.specs.Grid.{Grid, cells, is_block, is_barred, entry}
use Rattle.xw_grid.specs.Clue.{ClueMap, clue_at, is_circled}
use Rattle.xw_commands.specs.declared.change.Change.{Change}
use Rattle.xw_commands.specs.declared.change.Change.TheVariants.{Add, Strike, Least, Set, Block, Bar, Circle, Put}
use Rattle.xw_commands.specs.declared.command.Field.{Field}
use Rattle.xw_commands.specs.declared.command.Field.TheVariants as fields
use Rattle.xw_commands.specs.declared.command.TextMode.TheVariants.{Instead, Behind}
use Rattle.xw_commands.specs.declared.command.CellArg.{CellArg}
use Rattle.xw_answers.specs.declared.record.Part.{Part}
use Rattle.xw_answers.specs.declared.record.Part.TheVariants as parts
use Rattle.xw_answers.specs.Escape.{escaped_text}
use Rattle.xw_answers.specs.Spelling.{command_line}

-- ---- words

-- for each length, how many words are known
abbrev pub known_counts : Dictionary → List ℕ
known_counts words = map (λ count. length (known_words words count)) (range_with_len 0 256)

-- the grade that the addition of a new word names; none for the greatest grade, which a new word gets anyway
abbrev pub named_grade : ℕ → Option ℕ
named_grade grade = if grade == best_grade then None else Some grade

abbrev pub add_command : Entry → Change
add_command entry = Add entry.word (named_grade entry.grade)

-- strike the word and add it again with its grade, if it came back with a new grade
abbrev pub regrade_commands : Entry → List Change
regrade_commands entry = if entry.regraded then Strike entry.word ∷ Add entry.word (Some entry.grade) ∷ [] else []

abbrev pub strike_commands : Entry → List Change
strike_commands entry = if entry.struck then Strike entry.word ∷ [] else []

-- for one length: add the words after the first `begun`, then restore the grades of words, then strike those that are
-- struck
abbrev pub row_commands : List Entry → ℕ → List Change
row_commands entries begun = map add_command (drop begun entries) ++ (flat_map regrade_commands entries ++ flat_map strike_commands entries)

abbrev pub length_commands : List ℕ → Dictionary → ℕ → List Change
length_commands begun words count = row_commands (known_words words count) (slice_index_or begun count 0)

-- a session starts with the least grade 0
abbrev pub least_commands : ℕ → List Change
least_commands least = if least == 0 then [] else Least least ∷ []

-- for each length the words, and then the least grade
abbrev pub word_commands : List ℕ → Dictionary → List Change
word_commands begun words = flat_map (length_commands begun words) (range_with_len 0 256) ++ least_commands words.least

-- ---- texts

-- 2,000 bytes of a text after `before` such pieces; the last piece may be shorter
abbrev pub piece_at : List ℕ → ℕ → List ℕ
piece_at text before = take 2000 (drop (2000 * before) text)

-- the number of pieces after the first
abbrev pub further_pieces : List ℕ → ℕ
further_pieces text = (length text - 1) / 2000

abbrev pub more_command : Field → List ℕ → ℕ → Change
more_command field text before = Put Behind field (escaped_text (piece_at text (before + 1)))

-- the text in pieces: the first replaces the field, the others are appended
abbrev pub text_commands : Field → List ℕ → List Change
text_commands field text = Put Instead field (escaped_text (piece_at text 0)) ∷ map (more_command field text) (range_with_len 0 (further_pieces text))

-- ---- the contents of cells

abbrev pub spot_of : Cell → CellArg
spot_of cell = record { row = cell.row; col = cell.col }

abbrev pub circle_commands : List Cell → Cell → List Change
circle_commands circles cell = if is_circled circles cell then Circle (spot_of cell) ∷ [] else []

abbrev pub bar_commands : Grid → Side → Cell → List Change
bar_commands grid side cell = if is_barred grid cell side then Bar (spot_of cell) side ∷ [] else []

abbrev pub block_commands : Grid → Cell → List Change
block_commands grid cell = if is_block grid cell then Block (spot_of cell) ∷ [] else []

abbrev pub letter_commands : Cell → Option ℕ → List Change
letter_commands cell None = []
letter_commands cell (Some letter) = Set (spot_of cell) letter ∷ []

-- the commands of a clue; none if the clue is empty
abbrev pub clue_commands : Cell → Direction → List ℕ → List Change
clue_commands cell direction [] = []
clue_commands cell direction (byte ∷ bytes) = text_commands (fields.Clue (spot_of cell) direction) (byte ∷ bytes)

abbrev pub cell_commands : Grid → ClueMap → List Cell → Part → Cell → List Change
cell_commands grid clues circles parts.Circles cell = circle_commands circles cell
cell_commands grid clues circles (parts.Bars side) cell = bar_commands grid side cell
cell_commands grid clues circles parts.Blocks cell = block_commands grid cell
cell_commands grid clues circles parts.Letters cell = letter_commands cell (entry grid cell)
cell_commands grid clues circles (parts.Clues direction) cell = clue_commands cell direction (clue_at clues cell direction)

abbrev pub part_commands : Grid → ClueMap → List Cell → Part → List Change
part_commands grid clues circles part = flat_map (cell_commands grid clues circles part) (cells grid)

-- each command on a line
abbrev pub command_lines : List Change → List ℕ
command_lines commands = flat_map command_line commands
