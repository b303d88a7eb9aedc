-- The bytes of a file, from its fields.
use Rattle.std.specs.Prelude.{◌≡◌, ◌<◌, ◌^◌, length, ◌≢◌, ℕ, List, [], ◌∷◌, ◌++◌}
use Rattle.byteorder.specs.Endian.{little_bytes}
use Rattle.xw_files.specs.Puz.Reading.{magic, version, Fields, cell_count}
use Rattle.xw_files.specs.declared.puz.header.Header.{Header}

-- the bytes covered by the CIB checksum, with scrambled tag 0
abbrev pub cib_bytes : Header → List ℕ
cib_bytes header = header.width ∷ header.height ∷ little_bytes 2 header.clue_count ++ little_bytes 2 header.bitmask ++ little_bytes 2 0

-- the bytes of a header with these reserved bytes
abbrev pub header_bytes : Header → List ℕ → List ℕ
header_bytes header reserved =
    little_bytes 2 header.file_sum ++ magic ++ little_bytes 2 header.cib_sum ++ header.masked ++ version ++ reserved ++ cib_bytes header

-- the text has no NUL, so a NUL can terminate it
abbrev pub HasNoNul : List ℕ → Type 0
HasNoNul [] = Unit {0}
HasNoNul (b ∷ bytes) = (b ≢ 0) × HasNoNul bytes

-- the text with its terminating NUL
abbrev pub ended : List ℕ → List ℕ
ended text = text ++ 0 ∷ []

-- the values fit the header's byte format, and width and height are not zero
pub record FitsHeader (header : Header) : Type 0 where
  pub file_sum : header.file_sum < 2 ^ 16
  pub cib_sum : header.cib_sum < 2 ^ 16
  pub clue_count : header.clue_count < 2 ^ 16
  pub bitmask : header.bitmask < 2 ^ 16
  pub masked : length header.masked ≡ 8
  pub width : 0 < header.width
  pub height : 0 < header.height

abbrev pub AllHaveNoNul : List (List ℕ) → Type 0
AllHaveNoNul [] = Unit {0}
AllHaveNoNul (text ∷ texts) = HasNoNul text × AllHaveNoNul texts

-- the texts, each with its NUL, and then the tail
abbrev pub with_nuls : List (List ℕ) → List ℕ → List ℕ
with_nuls [] tail = tail
with_nuls (text ∷ texts) tail = text ++ 0 ∷ with_nuls texts tail

-- the texts and everything after them
abbrev pub texts_bytes : Fields → List ℕ
texts_bytes fields = fields.title ++ 0 ∷ (fields.author ++ 0 ∷ (fields.copyright ++ 0 ∷ with_nuls fields.clues (fields.notes ++ 0 ∷ fields.rest)))

-- the bytes of a whole file
abbrev pub file_bytes : Fields → List ℕ → List ℕ
file_bytes fields reserved = header_bytes fields.header reserved ++ (fields.solution ++ (fields.state ++ texts_bytes fields))

-- the fields fit the file format
pub record FitsFile (fields : Fields) : Type 0 where
  pub header : FitsHeader fields.header
  pub solution : length fields.solution ≡ cell_count fields.header
  pub state : length fields.state ≡ cell_count fields.header
  pub title : HasNoNul fields.title
  pub author : HasNoNul fields.author
  pub copyright : HasNoNul fields.copyright
  pub clues : AllHaveNoNul fields.clues
  pub clue_count : length fields.clues ≡ fields.header.clue_count
  pub notes : HasNoNul fields.notes
