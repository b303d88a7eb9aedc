-- Groups of lines, which are executed as a whole: a comment, commands, and another comment.
use Rattle.std.specs.Prelude.{ℕ, Bool, not, ◌&&◌, List, [], ◌∷◌, ◌++◌, Option, Some, None, codes, if◌then◌else◌, bytes_eq}
use Rattle.std.specs.List.{list_any}
use Rattle.xw_commands.specs.declared.change.Change.{Change}
use Rattle.xw_answers.specs.Record.{command_lines}

-- the comment before a group
abbrev pub begin_line : List ℕ
begin_line = codes "# xw begin"

-- the comment after a group
abbrev pub end_line : List ℕ
end_line = codes "# xw end"

-- commands as a group; nothing if there are none
abbrev pub grouped : List Change → List ℕ
grouped [] = []
grouped (command ∷ commands) = codes "# xw begin\n" ++ (command_lines (command ∷ commands) ++ codes "# xw end\n")

abbrev pub begins_group : List ℕ → Bool
begins_group line = bytes_eq line begin_line

abbrev pub ends_group : List ℕ → Bool
ends_group line = bytes_eq line end_line

-- whether a group begins with this line, and none of the lines after it ends a group
abbrev pub is_open : List ℕ → List (List ℕ) → Bool
is_open line behind = begins_group line && not (list_any ends_group behind)

-- the lines before the first group without an end; all lines if each group has one
abbrev pub complete : List (List ℕ) → List (List ℕ)
complete [] = []
complete (line ∷ lines) = if is_open line lines then [] else line ∷ complete lines

-- The start of the group that is still open after a line that starts at `from`; none if the line ends a group.
abbrev pub begun_at : Option ℕ → ℕ → Option ℕ
begun_at None from = Some from
begun_at (Some begun) from = Some begun

abbrev pub open_after : Option ℕ → ℕ → List ℕ → Option ℕ
open_after begun from line = if begins_group line then begun_at begun from else if ends_group line then None else begun
