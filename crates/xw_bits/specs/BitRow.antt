-- How a `BitRow` represents its bits.
use Rattle.std.specs.Prelude.{◌≡◌, ℕ, ◌+◌, ◌*◌, ◌/◌, ◌<◌, ◌≤◌, ◌^◌, ◌-◌, min, false, count_by, IfSome, vec_len, vec_capacity}
use Rattle.xw_bits.specs.Bits.{RowOfBits, words_have, bits_of}
use Rattle.xw_bits.specs.Summary.{IsSummary}
use Rattle.xw_bits.specs.declared.bit_row.BitRow.TheInside.{Inside}

-- the bits and the room that the representation stands for
abbrev pub row_of : Inside → RowOfBits
row_of r = record { bits = bits_of r.words.items r.len; room = min (64 * r.reserved) (2 ^ 57 - 1) }

-- the invariant of a row: it has exactly as many words as its bits need, every bit past the end is
-- clear, the summary is one of its words, there is room as reserved, and a cached count is right
pub record IsBitRow (r : Inside) : Type 0 where
  pub small : r.len < 2 ^ 57
  pub words_len : vec_len r.words ≡ (r.len + 63) / 64
  pub nothing_past : (i : ℕ) → r.len ≤ i → words_have r.words.items i ≡ false
  pub summary_len : vec_len r.summary ≡ (r.len + 4095) / 4096
  pub summary : IsSummary r.words.items r.summary.items
  pub within : vec_len r.words ≤ r.reserved
  pub words_room : r.reserved ≤ vec_capacity r.words
  pub summary_room : r.reserved ≤ 64 * vec_capacity r.summary
  pub counted : IfSome r.counted (λ count. count ≡ count_by (λ bit. bit) (bits_of r.words.items r.len))
