-- A summary of words has a mark for each of them. A word without a mark is 0, so operations skip it.
use Rattle.std.specs.Prelude.{◌≡◌, ℕ, ◌≤◌, List, length, false, slice_index}
use Rattle.xw_bits.specs.Bits.{words_have}

-- A word without a mark is 0, and there is no mark past the words. A word that is 0 may still have a mark.
pub record IsSummary (words summary : List ℕ) : Type 0 where
  pub clear : (k : ℕ) → words_have summary k ≡ false → slice_index words k ≡ 0
  pub within : (k : ℕ) → length words ≤ k → words_have summary k ≡ false
