-- The section of rebus cells. It is reported and not read.
use Rattle.std.specs.Prelude.{◌≡◌, ℕ, Bool, List, length, nat_eq, codes}
use Rattle.std.specs.Cmp.Lexicographic.{pointwise}
use Rattle.xw_files.specs.Puz.Reading.{Fields}
use Rattle.xw_files.specs.Puz.Spelling.{FitsFile, file_bytes}
use Rattle.xw_files.specs.Puz.Sections.{Section, AreSections}

abbrev pub is_rebus : Section → Bool
is_rebus section = pointwise nat_eq section.name (codes "GRBS")

-- The bytes can be cut into the fields of a file, and these are the whole sections after its notes.
pub record HasSections (bytes : List ℕ) (sections : List Section) : Type 0 where
  pub fields : Fields
  pub reserved : List ℕ
  pub tail : List ℕ
  pub reserved_long : length reserved ≡ 16
  pub fits : FitsFile fields
  pub cut : bytes ≡ file_bytes fields reserved
  pub cut_rest : AreSections fields.rest sections tail
