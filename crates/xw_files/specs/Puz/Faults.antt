-- The faults of a `.puz` file, each defined by its bytes and apart from the steps of the reader, and their order.
use Rattle.std.specs.Prelude.{◌≡◌, ◌≢◌, ◌<◌, ◌≤◌, ◌⊎◌, ℕ, ◌+◌, ◌-◌, ◌*◌, ◌==◌, List, map, length, drop, slice_index, count_by, Some, None}
use Rattle.xw_grid.specs.declared.cell.Square.{Square}
use Rattle.xw_grid.specs.Grid.{cell_in}
use Rattle.xw_grid.specs.Edit.{grid_of}
use Rattle.xw_grid.specs.Light.{lights_of}
use Rattle.xw_files.specs.declared.fault.Piece.TheVariants as part
use Rattle.xw_files.specs.declared.fault.TextName.{TextName}
use Rattle.xw_files.specs.declared.fault.TextName.TheVariants.{Title, Author, Copyright, Clue, Notes}
use Rattle.xw_files.specs.declared.fault.SumName.{SumName}
use Rattle.xw_files.specs.declared.fault.SumName.TheVariants.{Cib, File, Masked}
use Rattle.xw_files.specs.declared.fault.ReadFault.{ReadFault}
use Rattle.xw_files.specs.declared.fault.ReadFault.TheVariants.{Short, Magic, Version, Scrambled, Size, NoNul, BadSum, BadCell, ClueCount, GextSize, GextSum}
pub use Rattle.xw_files.specs.Order.{IsLess}
use Rattle.xw_files.specs.Puz.Reading.{Fields, part_at, number_at, magic, version}
use Rattle.xw_files.specs.Puz.Spelling.{FitsFile, file_bytes}
use Rattle.xw_files.specs.Puz.Sums.{sum_from, sums_of, masked_of}
use Rattle.xw_files.specs.Puz.Sections.{Section, AreSections, first_gext}
use Rattle.xw_files.specs.Puz.Board.{square_of}

-- ---- fields by their offset

abbrev pub width_in : List ℕ → ℕ
width_in bytes = slice_index bytes 44

abbrev pub height_in : List ℕ → ℕ
height_in bytes = slice_index bytes 45

abbrev pub cells_in : List ℕ → ℕ
cells_in bytes = width_in bytes * height_in bytes

abbrev pub clue_count_in : List ℕ → ℕ
clue_count_in bytes = number_at 46 bytes

abbrev pub solution_in : List ℕ → List ℕ
solution_in bytes = part_at 52 (cells_in bytes) bytes

-- the number of NULs after the boards
abbrev pub nuls_in : List ℕ → ℕ
nuls_in bytes = count_by (λ byte. byte == 0) (drop (52 + 2 * cells_in bytes) bytes)

-- the bytes can be cut into these fields
pub record AreFields (bytes : List ℕ) (fields : Fields) : Type 0 where
  pub reserved : List ℕ
  pub reserved_long : length reserved ≡ 16
  pub fits : FitsFile fields
  pub cut : bytes ≡ file_bytes fields reserved

-- this is the first section named GEXT after the notes
pub record IsGext (bytes : List ℕ) (section : Section) : Type 0 where
  pub fields : Fields
  pub are : AreFields bytes fields
  pub sections : List Section
  pub tail : List ℕ
  pub cut : AreSections fields.rest sections tail
  pub first : first_gext sections ≡ Some section

-- ---- each fault

-- There are too few NULs after the boards to end this text: each text before it takes one.
abbrev pub LacksNul : ℕ → ℕ → TextName → Type 0
LacksNul clues nuls Title = nuls < 1
LacksNul clues nuls Author = nuls < 2
LacksNul clues nuls Copyright = nuls < 3
LacksNul clues nuls (Clue k) = (1 ≤ k) × (k ≤ clues) × (nuls < 3 + k)
LacksNul clues nuls Notes = nuls < 3 + clues + 1

-- This checksum in the header differs from the one of the fields.
abbrev pub IsWrong : Fields → SumName → Type 0
IsWrong fields Cib = fields.header.cib_sum ≢ (sums_of fields).cib
IsWrong fields File = fields.header.file_sum ≢ (sums_of fields).file
IsWrong fields (Masked k) = (1 ≤ k) × (k ≤ 8) × (slice_index fields.header.masked (k - 1) ≢ slice_index (masked_of (sums_of fields)) (k - 1))

-- The bytes have this fault, whether or not they have others. No bytes have `Memory` or a fault of text files.
abbrev pub HasFault : List ℕ → ReadFault → Type 0
HasFault bytes (Short part.Header) = length bytes < 52
HasFault bytes Magic = part_at 2 12 bytes ≢ magic
HasFault bytes Version = part_at 24 4 bytes ≢ version
HasFault bytes Scrambled = number_at 50 bytes ≢ 0
HasFault bytes Size = (width_in bytes ≡ 0) ⊎ (height_in bytes ≡ 0)
HasFault bytes (Short part.Boards) = length bytes < 52 + 2 * cells_in bytes
HasFault bytes (NoNul text) = LacksNul (clue_count_in bytes) (nuls_in bytes) text
HasFault bytes (BadSum sum) = (fields : Fields) × AreFields bytes fields × IsWrong fields sum
HasFault bytes (BadCell cell) = (index : ℕ) × (index < cells_in bytes) × (cell ≡ cell_in (width_in bytes) index) × (square_of (slice_index (solution_in bytes) index) ≡ None)
HasFault bytes ClueCount =
    (squares : List Square) × (map square_of (solution_in bytes) ≡ map (λ square. Some square) squares) × (clue_count_in bytes ≢ length (lights_of (grid_of (width_in bytes) (height_in bytes) squares)))
HasFault bytes GextSize = (section : Section) × IsGext bytes section × (length section.body ≢ cells_in bytes)
HasFault bytes GextSum = (section : Section) × IsGext bytes section × (section.sum ≢ sum_from 0 section.body)
HasFault bytes other = ⊥

-- ---- their order

-- A fault of a lower rank comes first.
abbrev pub rank : ReadFault → ℕ
rank (Short part.Header) = 1
rank Magic = 2
rank Version = 3
rank Scrambled = 4
rank Size = 5
rank (Short part.Boards) = 6
rank (NoNul text) = 7
rank (BadSum sum) = 8
rank (BadCell cell) = 9
rank ClueCount = 10
rank GextSize = 11
rank GextSum = 12
rank other = 13

abbrev pub text_location : TextName → ℕ × ℕ
text_location Title = (1, 0)
text_location Author = (2, 0)
text_location Copyright = (3, 0)
text_location (Clue k) = (4, k)
text_location Notes = (5, 0)

abbrev pub sum_location : SumName → ℕ × ℕ
sum_location Cib = (1, 0)
sum_location File = (2, 0)
sum_location (Masked k) = (3, k)

-- Among faults of one rank, the one at a lower location comes first.
abbrev pub location : ReadFault → ℕ × ℕ
location (NoNul text) = text_location text
location (BadSum sum) = sum_location sum
location (BadCell cell) = (cell.row, cell.col)
location other = (0, 0)

abbrev pub ComesBefore : ReadFault → ReadFault → Type 0
ComesBefore earlier fault = (rank earlier < rank fault) ⊎ ((rank earlier ≡ rank fault) × IsLess (location earlier) (location fault))

-- This fault holds, and no fault that comes before it does.
abbrev pub IsFirstFault : List ℕ → ReadFault → Type 0
IsFirstFault bytes fault = HasFault bytes fault × ((earlier : ReadFault) → ComesBefore earlier fault → HasFault bytes earlier → ⊥)

abbrev pub HasNoFault : List ℕ → Type 0
HasNoFault bytes = (fault : ReadFault) → HasFault bytes fault → ⊥
