-- Letters whose held support is in a row of words.
use Rattle.std.specs.Prelude.{◌≡◌, ℕ, ◌+◌, ◌*◌, ◌<◌, ◌≤◌, true, false, Bool, List, length, slice_index, slice_index_or}
use Rattle.xw_letters.specs.LetterSet.{has}

-- the word is in the row
abbrev pub IsInRow : List Bool → ℕ → Type 0
IsInRow row word = (word < length row) × (slice_index_or row word false ≡ true)

-- the word is not in the row
abbrev pub IsLost : List Bool → ℕ → Type 0
IsLost row word = word < length row → slice_index_or row word false ≡ false

-- the row has the word held for each letter of the set from one index in the alphabet on, and below another
abbrev pub AreInRow : List Bool → List ℕ → ℕ → ℕ → ℕ → ℕ → Type 0
AreInRow row held slot set from end = (index : ℕ) → from ≤ index → index < end → has set (65 + index) ≡ true → IsInRow row (slice_index held (26 * slot + index))
