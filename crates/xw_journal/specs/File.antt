-- The file of a session, which is a journal or a saved record: its first line, and which of its lines are executed.
use Rattle.std.specs.Prelude.{ℕ, Bool, ◌&&◌, List, [], length, codes, if◌then◌else◌, nat_eq, nat_lt}
use Rattle.std.specs.List.{starts_with}
use Rattle.xw_lines.specs.Cut.{ended_lines, last_piece, lines_of, with_lfs}
use Rattle.xw_journal.specs.Group.{complete}
use Rattle.xw_journal.specs.declared.file.Form.{Form}
use Rattle.xw_journal.specs.declared.file.Form.TheVariants.{Begun, Named, Whole, Cut}

-- the first line of a file that the program writes: a comment, with its LF
abbrev pub first_line : List ℕ
first_line = codes "# xw session 1\n"

abbrev pub has_first_line : List ℕ → Bool
has_first_line bytes = starts_with nat_eq bytes first_line

-- whether the bytes are a part of the first line: its beginning, or nothing
abbrev pub is_part : List ℕ → Bool
is_part bytes = starts_with nat_eq first_line bytes && nat_lt (length bytes) (length first_line)

abbrev pub is_whole : List ℕ → Bool
is_whole bytes = nat_eq (length (last_piece bytes)) 0

-- what the bytes of a file are to a journal
abbrev pub form_of : List ℕ → Form
form_of bytes = if is_part bytes then Begun else if has_first_line bytes then Named else if is_whole bytes then Whole else Cut

-- The lines of a file that are executed. A file with the first line may have been cut while it was written: a last
-- line without an LF and a last group without an end do not count. Any other file has all its lines.
abbrev pub kept_lines : List ℕ → List (List ℕ)
kept_lines bytes = if has_first_line bytes then complete (ended_lines bytes) else lines_of bytes

-- the bytes of these lines
abbrev pub kept_bytes : List ℕ → List ℕ
kept_bytes bytes = if has_first_line bytes then with_lfs (complete (ended_lines bytes)) [] else bytes

-- whether a file was cut while it was written, so that the bytes at its end do not count
abbrev pub is_cut : List ℕ → Bool
is_cut bytes = nat_lt (length (kept_bytes bytes)) (length bytes)
