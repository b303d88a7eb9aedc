-- How a `Row` represents the words of one length.
use Rattle.std.specs.Prelude.{◌≡◌, ℕ, ◌+◌, ◌*◌, ◌/◌, ◌%◌, ◌<◌, ◌≤◌, List, length}
use Rattle.xw_bits.specs.Bits.{RowOfBits}
use Rattle.xw_words.specs.Row.{Row}
use Rattle.xw_words.specs.Table.{Table, row_with}
use Rattle.xw_words.specs.Columns.{column_at, IsColumn}
use Rattle.xw_words.specs.declared.row.Row.TheInside.{Inside}

-- the words that the representation stands for
abbrev pub row_of : Inside → Row
row_of r = row_with r.table

-- the columns of the words of a table, with room for as many words as the table has
pub record AreColumnsOf (table : Table) (columns : List RowOfBits) : Type 0 where
  pub within : length table.entries ≤ table.reserved
  pub few : length columns ≤ 26 * table.word_len
  pub all : 0 < table.reserved → length columns ≡ 26 * table.word_len
  pub bits : (i : ℕ) → i < length columns → IsColumn table.entries (i / 26) (65 + i % 26) (column_at columns i).bits
  pub room : (i : ℕ) → i < length columns → table.reserved ≤ (column_at columns i).room

-- the invariant of a row
abbrev pub IsKeptRow : Inside → Type 0
IsKeptRow r = AreColumnsOf r.table r.columns.items
