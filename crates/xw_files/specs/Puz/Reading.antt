-- Reading a file as functions on lists: each returns what it reads and the bytes after it, or the first fault.
use Rattle.std.specs.Prelude.{ℕ, Bool, zero, suc, ◌+◌, ◌*◌, ◌==◌, nat_eq, nat_lt, List, [], ◌∷◌, length, take, drop, slice_index, if◌then◌else◌, Result, Ok, Err, codes, ◌++◌}
use Rattle.std.specs.Cmp.Lexicographic.{pointwise}
use Rattle.byteorder.specs.Endian.{little_number}
use Rattle.xw_files.specs.declared.puz.header.Header.{Header}
use Rattle.xw_files.specs.declared.fault.Piece.TheVariants as part
use Rattle.xw_files.specs.declared.fault.TextName.{TextName}
use Rattle.xw_files.specs.declared.fault.TextName.TheVariants.{Title, Author, Copyright, Clue, Notes}
use Rattle.xw_files.specs.declared.fault.ReadFault.{ReadFault}
use Rattle.xw_files.specs.declared.fault.ReadFault.TheVariants.{Short, Magic, Version, Scrambled, Size, NoNul}
use Rattle.xw_files.specs.Steps.{◌>>=◌}

-- `count` bytes at an offset
abbrev pub part_at : ℕ → ℕ → List ℕ → List ℕ
part_at offset count bytes = take count (drop offset bytes)

-- the little-endian 16-bit number at an offset
abbrev pub number_at : ℕ → List ℕ → ℕ
number_at offset bytes = little_number 2 (drop offset bytes)

abbrev pub magic : List ℕ
magic = codes "ACROSS&DOWN" ++ 0 ∷ []

abbrev pub version : List ℕ
version = codes "1.3" ++ 0 ∷ []

-- the bytes have the magic at its offset
abbrev pub has_magic : List ℕ → Bool
has_magic bytes = pointwise nat_eq (part_at 2 12 bytes) magic

-- the header of a file whose magic, version and scrambled tag are already checked
unfoldable pub sized_header_at : List ℕ → Result Header ReadFault
sized_header_at bytes =
    if slice_index bytes 44 == 0 then Err Size
    else if slice_index bytes 45 == 0 then Err Size
    else Ok (record {
      file_sum = number_at 0 bytes;
      cib_sum = number_at 14 bytes;
      masked = part_at 16 8 bytes;
      width = slice_index bytes 44;
      height = slice_index bytes 45;
      clue_count = number_at 46 bytes;
      bitmask = number_at 48 bytes;
    })

-- the header in the first 52 bytes, or its first fault
unfoldable pub header_at : List ℕ → Result Header ReadFault
header_at bytes =
    if nat_lt (length bytes) 52 then Err (Short part.Header)
    else if has_magic bytes then
    if pointwise nat_eq (part_at 24 4 bytes) version then
    if number_at 50 bytes == 0 then sized_header_at bytes
    else Err Scrambled
    else Err Version
    else Err Magic

-- the text before the first NUL, and the bytes after the NUL
abbrev pub text_at : TextName → List ℕ → Result (List ℕ × List ℕ) ReadFault
text_at which [] = Err (NoNul which)
text_at which (b ∷ bytes) = if b == 0 then Ok ([], bytes) else (text_at which bytes >>= λ x. Ok (b ∷ x.0, x.1))

-- `count` clues one after another, named from the k-th on, and the bytes after them
abbrev pub clues_at : ℕ → ℕ → List ℕ → Result (List (List ℕ) × List ℕ) ReadFault
clues_at k zero bytes = Ok ([], bytes)
clues_at k (suc count) bytes = text_at (Clue k) bytes >>= λ clue. (clues_at (k + 1) count clue.1 >>= λ others. Ok (clue.0 ∷ others.0, others.1))

-- the fields of a file; `rest` is everything after the notes
pub record Fields : Type 0 where
  pub header : Header
  pub solution : List ℕ
  pub state : List ℕ
  pub title : List ℕ
  pub author : List ℕ
  pub copyright : List ℕ
  pub clues : List (List ℕ)
  pub notes : List ℕ
  pub rest : List ℕ

abbrev pub cell_count : Header → ℕ
cell_count header = header.width * header.height

-- the fields of a file whose texts begin at `bytes`
abbrev pub texts_at : Header → List ℕ → List ℕ → List ℕ → Result Fields ReadFault
texts_at header solution state bytes =
    text_at Title bytes >>= λ title.
    (text_at Author title.1 >>= λ author.
    (text_at Copyright author.1 >>= λ copyright.
    (clues_at 1 header.clue_count copyright.1 >>= λ clues.
    (text_at Notes clues.1 >>= λ notes.
    Ok (record {
      header = header;
      solution = solution;
      state = state;
      title = title.0;
      author = author.0;
      copyright = copyright.0;
      clues = clues.0;
      notes = notes.0;
      rest = notes.1;
    })))))

-- the fields of a file whose boards begin at `bytes`
abbrev pub boards_at : Header → List ℕ → Result Fields ReadFault
boards_at header bytes = let cells = cell_count header in
    texts_at header (take cells bytes) (take cells (drop cells bytes)) (drop cells (drop cells bytes))

-- the fields of a whole file, or its first fault
abbrev pub fields_at : List ℕ → Result Fields ReadFault
fields_at bytes = header_at bytes >>= λ header.
    (if nat_lt (length bytes) (52 + 2 * cell_count header) then Err (Short part.Boards) else boards_at header (drop 52 bytes))
