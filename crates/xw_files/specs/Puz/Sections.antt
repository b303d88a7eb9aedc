-- The extra sections after the notes, and the circles in the GEXT section.
use Rattle.std.specs.Prelude.{◌≡◌, ◌<◌, ◌^◌, ◌++◌, flat_map, filter, find, All, ℕ, zero, suc, ◌+◌, ◌*◌, true, Bool, ◌&&◌, ◌==◌, nat_eq, nat_le, nat_lt, List, [], ◌∷◌, length, take, drop, slice_index, Option, Some, None, Result, Ok, Err, if◌then◌else◌, codes}
use Rattle.std.specs.Cmp.Lexicographic.{pointwise}
use Rattle.byteorder.specs.Endian.{little_bytes}
use Rattle.xw_grid.specs.declared.cell.Cell.{Cell}
use Rattle.xw_grid.specs.Grid.{Grid, cells, cell_at, index_of, is_open}
use Rattle.xw_grid.specs.Clue.{with_circle}
use Rattle.xw_files.specs.declared.fault.ReadFault.{ReadFault}
use Rattle.xw_files.specs.declared.fault.ReadFault.TheVariants.{GextSize, GextSum}
use Rattle.xw_files.specs.Puz.Reading.{number_at, part_at}
use Rattle.xw_files.specs.Puz.Sums.{sum_from}

pub record Section : Type 0 where
  pub name : List ℕ
  pub sum : ℕ
  pub body : List ℕ

-- the bytes of a section: name, length, checksum, data and a NUL
abbrev pub section_bytes : Section → List ℕ
section_bytes section = section.name ++ (little_bytes 2 (length section.body) ++ (little_bytes 2 section.sum ++ (section.body ++ 0 ∷ [])))

-- the values fit the section's byte format
pub record FitsSection (section : Section) : Type 0 where
  pub name : length section.name ≡ 4
  pub size : length section.body < 2 ^ 16
  pub sum : section.sum < 2 ^ 16

-- The bytes are whole sections, one after another, and then a tail that does not begin with a whole section.
pub record AreSections (bytes : List ℕ) (sections : List Section) (tail : List ℕ) : Type 0 where
  pub fit : All FitsSection sections
  pub cut : bytes ≡ flat_map section_bytes sections ++ tail
  pub end : (section : Section) (more : List ℕ) → FitsSection section → tail ≡ section_bytes section ++ more → ⊥

-- whether the section is named GEXT
abbrev pub is_gext : Section → Bool
is_gext section = pointwise nat_eq section.name (codes "GEXT")

-- the first section of a list that is named GEXT
abbrev pub first_gext : List Section → Option Section
first_gext sections = find is_gext sections

-- no whole section at the front of the bytes is named GEXT
pub record HasNoGext (bytes : List ℕ) : Type 0 where
  pub sections : List Section
  pub tail : List ℕ
  pub are : AreSections bytes sections tail
  pub none : first_gext sections ≡ None

-- ---- sections at the front of bytes

abbrev pub AreBytes : List ℕ → Type 0
AreBytes bytes = (index : ℕ) → slice_index bytes index < 2 ^ 8

-- a section with `size` bytes of data at the front, and the bytes after it
unfoldable pub section_in : ℕ → List ℕ → Section × List ℕ
section_in size bytes = (record { name = take 4 bytes; sum = number_at 6 bytes; body = part_at 8 size bytes }, drop (9 + size) bytes)

-- the same; none if the bytes end before it does, or if it does not end with a NUL
unfoldable pub section_sized : ℕ → List ℕ → Option (Section × List ℕ)
section_sized size bytes =
    if nat_lt (length bytes) (9 + size) then None
    else if slice_index bytes (8 + size) == 0 then Some (section_in size bytes)
    else None

-- the whole section at the front, and the bytes after it
unfoldable pub section_at : List ℕ → Option (Section × List ℕ)
section_at bytes = if nat_lt (length bytes) 9 then None else section_sized (number_at 4 bytes) bytes

abbrev pub gext_or_later : (List ℕ → Option Section) → Option (Section × List ℕ) → Option Section
gext_or_later later None = None
gext_or_later later (Some found) = if is_gext found.0 then Some found.0 else later found.1

-- the first GEXT section among at most `count` whole sections at the front
abbrev pub gext_among : ℕ → List ℕ → Option Section
gext_among zero bytes = None
gext_among (suc count) bytes = gext_or_later (gext_among count) (section_at bytes)

-- the number of bytes bounds the number of sections in them
abbrev pub gext_in : List ℕ → Option Section
gext_in bytes = gext_among (length bytes) bytes

-- ---- circles

abbrev pub is_marked : ℕ → Bool
is_marked byte = nat_le 128 byte

-- the open cells that the bytes, in reading order, mark as circled
abbrev pub marked_cells : Grid → List ℕ → List Cell
marked_cells grid marks = filter (λ cell. is_open grid cell && is_marked (slice_index marks (index_of grid cell))) (cells grid)

-- the circles after one cell and its byte: an open cell is circled if the byte marks it
abbrev pub with_mark : Grid → List Cell → Cell → ℕ → List Cell
with_mark grid circles cell byte = if is_marked byte && is_open grid cell then with_circle circles cell true else circles

-- the circles after all these bytes, the first of them for the cell at index `index`
abbrev pub with_marks : Grid → List Cell → ℕ → List ℕ → List Cell
with_marks grid circles index [] = circles
with_marks grid circles index (byte ∷ bytes) = with_marks grid (with_mark grid circles (cell_at grid index) byte) (index + 1) bytes

abbrev pub circles_by : Grid → Option Section → Result (List Cell) ReadFault
circles_by grid None = Ok []
circles_by grid (Some section) =
    if length section.body == grid.width * grid.height then
    if sum_from 0 section.body == section.sum then Ok (with_marks grid [] 0 section.body)
    else Err GextSum
    else Err GextSize
