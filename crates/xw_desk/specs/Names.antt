-- The format that a file's name asks for, and how the file of a session begins.
use Rattle.std.specs.Prelude.{◌≡◌, ◌≢◌, ◌-◌, ℕ, nat_eq, Bool, List, [], ◌∷◌, codes, drop, if◌then◌else◌, length, map}
use Rattle.std.specs.List.{starts_with}
use Rattle.std.specs.Char.{to_ascii_lowercase}
use Rattle.xw_files.specs.declared.kind.Kind.{Kind}
use Rattle.xw_files.specs.declared.kind.Kind.TheVariants.{Puz, Text}

-- the last four bytes of the name are this ending, in any case
abbrev pub HasEnding : List ℕ → List ℕ → Type 0
HasEnding name ending = map to_ascii_lowercase (drop (length name - 4) name) ≡ ending

-- the format is `.puz` if the last four bytes of the name are `.puz` in any case, and text otherwise
abbrev pub IsKindNamed : List ℕ → Kind → Type 0
IsKindNamed name Puz = map to_ascii_lowercase (drop (length name - 4) name) ≡ codes ".puz"
IsKindNamed name Text = map to_ascii_lowercase (drop (length name - 4) name) ≢ codes ".puz"

-- the line with which the file of a session begins, without its LF
abbrev pub session_line : List ℕ
session_line = codes "# xw session 1"

-- a byte order mark
abbrev pub mark : List ℕ
mark = 239 ∷ 187 ∷ 191 ∷ []

-- the bytes of a file without a byte order mark at their start
abbrev pub without_mark : List ℕ → List ℕ
without_mark bytes = if starts_with nat_eq bytes mark then drop 3 bytes else bytes

-- whether the bytes are the file of a session
abbrev pub is_session : List ℕ → Bool
is_session bytes = starts_with nat_eq (without_mark bytes) session_line
