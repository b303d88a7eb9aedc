-- The lines of a text.
use Rattle.std.specs.Prelude.{ℕ, Bool, List, [], ◌∷◌, ◌++◌, ◌≢◌, ◌==◌, if◌then◌else◌}

-- whether a byte is a line feed
abbrev pub is_line_feed : ℕ → Bool
is_line_feed byte = byte == 10

-- adds a byte to the front of the first line; if there is no line, the byte becomes one
abbrev pub begun : ℕ → List (List ℕ) → List (List ℕ)
begun byte [] = (byte ∷ []) ∷ []
begun byte (line ∷ lines) = (byte ∷ line) ∷ lines

-- the pieces between line feeds; the piece after the last line feed is a line unless it is empty
abbrev pub lines_of : List ℕ → List (List ℕ)
lines_of [] = []
lines_of (byte ∷ bytes) = if is_line_feed byte then [] ∷ lines_of bytes else begun byte (lines_of bytes)

-- no byte is a line feed
abbrev pub HasNoLf : List ℕ → Type 0
HasNoLf [] = Unit {0}
HasNoLf (b ∷ bytes) = (b ≢ 10) × HasNoLf bytes

-- no line has a line feed
abbrev pub AllHaveNoLf : List (List ℕ) → Type 0
AllHaveNoLf [] = Unit {0}
AllHaveNoLf (line ∷ lines) = HasNoLf line × AllHaveNoLf lines

-- the text made of the lines, each followed by a line feed, and then the rest
abbrev pub with_lfs : List (List ℕ) → List ℕ → List ℕ
with_lfs [] rest = rest
with_lfs (line ∷ lines) rest = line ++ 10 ∷ with_lfs lines rest

-- the rest as a list of lines: none if it is empty
abbrev pub last_line : List ℕ → List (List ℕ)
last_line [] = []
last_line (b ∷ bytes) = (b ∷ bytes) ∷ []
