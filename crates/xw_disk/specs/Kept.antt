-- The names under which a file is kept.
use Rattle.std.specs.Prelude.{ℕ, ◌==◌, ◌++◌, if◌then◌else◌, List, codes, decimal}

-- the name with this number, from 1, under which the file with this name is kept
abbrev pub kept_name : List ℕ → ℕ → List ℕ
kept_name name number = if number == 1 then name ++ codes "~" else name ++ codes "~" ++ decimal number
