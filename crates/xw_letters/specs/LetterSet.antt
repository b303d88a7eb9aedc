-- Sets of letters as numbers: bit 0 stands for A, bit 25 for Z.
use Rattle.std.specs.Prelude.{ℕ, ◌-◌, Bool, ◌&&◌, List, filter, drop, ◌==◌}
use Rattle.std.specs.Int.{bit_at}
use Rattle.xw_letters.specs.Letter.{alphabet, is_capital}

-- whether a set contains a letter
abbrev pub has : ℕ → ℕ → Bool
has set letter = is_capital letter && (bit_at set (letter - 65) == 1)

-- the letters of a set in alphabetical order, from an index in the alphabet on
abbrev pub letters_from : ℕ → ℕ → List ℕ
letters_from set index = filter (has set) (drop index alphabet)

-- the letters of a set in alphabetical order
abbrev pub letters_in : ℕ → List ℕ
letters_in set = filter (has set) alphabet
