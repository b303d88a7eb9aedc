-- The words of one length without columns, as callers of a table see them, and how a `Table` represents them.
use Rattle.std.specs.Prelude.{◌≡◌, ℕ, ◌*◌, ◌%◌, ◌<◌, ◌≤◌, List, length, nat_lt, vec_capacity}
use Rattle.xw_words.specs.Dictionary.{Entry}
use Rattle.xw_words.specs.Row.{Row, entries_of, AreClearFrom}
use Rattle.xw_words.specs.Index.{word_in, IsIndex}
use Rattle.xw_words.specs.declared.table.Table.TheInside.{Inside}

-- the words of length `word_len`, and the number of words that there is reserved room for
pub record Table : Type 0 where
  pub word_len : ℕ
  pub entries : List Entry
  pub reserved : ℕ

-- a table as a row: whether there is room for one more word
abbrev pub row_with : Table → Row
row_with table = record { word_len = table.word_len; entries = table.entries; room = nat_lt (length table.entries) table.reserved }

-- the words that the representation stands for
abbrev pub table_of : Inside → Table
table_of t = record { word_len = t.word_len; entries = entries_of t.word_len t.letters.items t.active.bits t.regraded.bits t.marks.items; reserved = t.reserved }

-- the invariant of a table: letters, flags, marks and index describe the same words, and have room for `reserved` words. The row of
-- regraded words has a bit for each word that there is room for
pub record IsKeptTable (t : Inside) : Type 0 where
  pub short : t.word_len ≤ 255
  pub letters : length t.letters.items ≡ length t.active.bits * t.word_len
  pub marks : length t.marks.items ≡ length t.active.bits
  pub regraded : t.reserved ≤ length t.regraded.bits
  pub regraded_whole : length t.regraded.bits % 64 ≡ 0
  pub regraded_past : AreClearFrom (length t.active.bits) t.regraded.bits
  pub few : length t.active.bits ≤ 1048576
  pub within : length t.active.bits ≤ t.reserved
  pub reserved_few : t.reserved ≤ 1048576
  pub long : 0 < t.reserved → 2 ≤ t.word_len
  pub index : IsIndex (word_in t.word_len t.letters.items) (length t.active.bits) t.index
  pub index_heads : 0 < t.reserved → 0 < length t.index.heads
  pub index_room : t.reserved ≤ t.index.room
  pub letters_room : t.reserved * t.word_len ≤ vec_capacity t.letters
  pub marks_room : t.reserved ≤ t.marks.room
  pub active_room : t.reserved ≤ t.active.room
