-- Escapes in texts: an escape is a backslash and a letter, and every other byte stands for itself.
use Rattle.std.specs.Prelude.{ℕ, ◌+◌, Bool, true, false, not, ◌&&◌, ◌||◌, ◌==◌, nat_eq, List, [], ◌∷◌, ◌++◌, length, flat_map, slice_index, Option, Some, None, if◌then◌else◌}
use Rattle.std.specs.List.{range_with_len, list_any}

-- ---- what a spelling means

-- the byte of an escape, from the letter after its backslash: n, r, t, s or a backslash
abbrev pub meaning : ℕ → Option ℕ
meaning letter =
    if letter == 110 then Some 10
    else if letter == 114 then Some 13
    else if letter == 116 then Some 9
    else if letter == 115 then Some 32
    else if letter == 92 then Some 92
    else None

abbrev pub one_byte : Option ℕ → Option (List ℕ)
one_byte None = None
one_byte (Some byte) = Some (byte ∷ [])

-- the bytes that a byte adds to the text; `true` means that a backslash of an escape precedes it
abbrev pub added : Bool → ℕ → Option (List ℕ)
added true letter = one_byte (meaning letter)
added false byte = if byte == 92 then Some [] else Some (byte ∷ [])

-- the byte begins an escape
abbrev pub begins_escape : Bool → ℕ → Bool
begins_escape is_within byte = not is_within && (byte == 92)

abbrev pub joined : Option (List ℕ) → Option (List ℕ) → Option (List ℕ)
joined None rest = None
joined (Some front) None = None
joined (Some front) (Some rest) = Some (front ++ rest)

-- the text of the rest of a spelling, which starts inside an escape or not; None if an escape is invalid or incomplete
abbrev pub text_left : Bool → List ℕ → Option (List ℕ)
text_left true [] = None
text_left false [] = Some []
text_left is_within (byte ∷ bytes) = joined (added is_within byte) (text_left (begins_escape is_within byte) bytes)

-- the text of a spelling, or None if it is invalid
abbrev pub text_spelled : List ℕ → Option (List ℕ)
text_spelled spelling = text_left false spelling

-- ---- how a text is written

-- the escape letter of a byte, which for spaces and tabs depends on being at an end of the text
abbrev pub letter_for : Bool → ℕ → Option ℕ
letter_for is_end byte =
    if byte == 10 then Some 110
    else if byte == 13 then Some 114
    else if byte == 92 then Some 92
    else if is_end && (byte == 32) then Some 115
    else if is_end && (byte == 9) then Some 116
    else None

abbrev pub escaped : ℕ → Option ℕ → List ℕ
escaped byte None = byte ∷ []
escaped byte (Some letter) = 92 ∷ letter ∷ []

-- the index is that of the first or the last byte
abbrev pub is_end : List ℕ → ℕ → Bool
is_end text index = (index == 0) || (index + 1 == length text)

abbrev pub spelled_at : List ℕ → ℕ → List ℕ
spelled_at text index = escaped (slice_index text index) (letter_for (is_end text index) (slice_index text index))

-- the text with an escape for each LF, CR and backslash, and for a space or tab at an end
abbrev pub escaped_text : List ℕ → List ℕ
escaped_text text = flat_map (spelled_at text) (range_with_len 0 (length text))

-- ---- NUL, which has no escape

abbrev pub has_nul : List ℕ → Bool
has_nul text = list_any (nat_eq 0) text
