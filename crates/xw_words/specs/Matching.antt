-- Rows of bits by which a search for a pattern skips words.
use Rattle.std.specs.Prelude.{◌≡◌, ℕ, Bool, false, List, slice_index_or}
use Rattle.xw_words.specs.Dictionary.{Entry, entry_at, matches}

-- a row of bits has each word that matches the pattern, and perhaps others
abbrev pub HasFits : List ℕ → List Entry → List Bool → Type 0
HasFits pattern entries bits = (i : ℕ) → slice_index_or bits i false ≡ false → matches pattern (entry_at entries i) ≡ false
