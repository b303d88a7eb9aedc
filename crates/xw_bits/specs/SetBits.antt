-- The indices of set bits.
use Rattle.std.specs.Prelude.{ℕ, ◌-◌, Bool, false, List, length, filter, slice_index_or}
use Rattle.std.specs.List.{range_with_len}

-- the indices from `from` on whose bit is set, in ascending order
unfoldable pub set_indices : List Bool → ℕ → List ℕ
set_indices bits from = filter (λ i. slice_index_or bits i false) (range_with_len from (length bits - from))
