-- The marks of a word, and the byte that represents them.
use Rattle.std.specs.Prelude.{ℕ, ◌%◌, Bool, false, not, ◌&&◌, nat_le, List}

-- the grade of a word, and whether it was struck
pub record Marks : Type 0 where
  pub grade : ℕ
  pub struck : Bool

-- the marks that a byte represents
abbrev pub marks_in : ℕ → Marks
marks_in byte = record { grade = byte % 128; struck = nat_le 128 byte }

-- the marks of a word that is not struck, of grade 0
abbrev pub no_marks : Marks
no_marks = record { grade = 0; struck = false }

-- the marks of words, in order, and how many there is room for
pub record MarkList : Type 0 where
  pub items : List Marks
  pub room : ℕ

-- whether a word with these marks is to be active: it is not struck, and its grade is not below the least one
abbrev pub are_left : ℕ → Marks → Bool
are_left least marks = not marks.struck && nat_le least marks.grade
