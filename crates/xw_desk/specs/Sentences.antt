-- What a failure means, in a sentence for first-time users.
use Rattle.std.specs.Prelude.{ℕ, ◌==◌, ◌&&◌, ◌++◌, Bool, true, false, List, [], Option, Some, None, codes, if◌then◌else◌}
use Rattle.std.specs.Str.{bytes_eq}
use Rattle.xw_desk.specs.declared.failure.Failure.{Failure}
use Rattle.xw_desk.specs.declared.failure.Failure.TheVariants as failures
use Rattle.xw_desk.specs.declared.location.Location.{Location}
use Rattle.xw_desk.specs.declared.location.Location.TheVariants as locations
use Rattle.xw_desk.specs.Locations.{location_text}

-- ---- the sentence for each name of a fault

-- the faults of a text file
abbrev pub said_of_text : List ℕ → Option (List ℕ)
said_of_text name =
    if bytes_eq name (codes "Header") then Some (codes "this is no puzzle file") else
    if bytes_eq name (codes "NulByte") then Some (codes "this is no puzzle file") else
    if bytes_eq name (codes "Tag") then Some (codes "a tag is expected here") else
    if bytes_eq name (codes "SizeLine") then Some (codes "the size is expected here, such as 15x15") else
    if bytes_eq name (codes "GridLine") then Some (codes "a row is missing, or its length differs from the grid's width") else
    if bytes_eq name (codes "AcrossCount") then Some (codes "the number of clues differs from the number of lights") else
    if bytes_eq name (codes "DownCount") then Some (codes "the number of clues differs from the number of lights") else None

-- the faults of a `.puz` file and of a word list
abbrev pub said_of_puz : List ℕ → Option (List ℕ)
said_of_puz name =
    if bytes_eq name (codes "Short") then Some (codes "the file is cut off") else
    if bytes_eq name (codes "NoNul") then Some (codes "the file is cut off") else
    if bytes_eq name (codes "BadSum") then Some (codes "the file is damaged: a checksum is wrong") else
    if bytes_eq name (codes "BadCell") then Some (codes "a cell is neither a letter nor a block") else
    if bytes_eq name (codes "Scrambled") then Some (codes "the solution is locked") else
    if bytes_eq name (codes "Version") then Some (codes "this version of .puz cannot be read") else
    if bytes_eq name (codes "ClueCount") then Some (codes "the number of clues differs from the number of lights") else
    if bytes_eq name (codes "Full") then Some (codes "the list has more than 1,048,576 words of one length") else None

-- why a format cannot hold a puzzle
abbrev pub said_of_puzzle : List ℕ → Option (List ℕ)
said_of_puzzle name =
    if bytes_eq name (codes "Barred") then Some (codes "a puzzle file cannot hold bars; nothing was written") else
    if bytes_eq name (codes "Field") then Some (codes "the file cannot hold one of the texts; nothing was written") else
    if bytes_eq name (codes "Circled") then Some (codes "a text file cannot hold circles; nothing was written") else None

abbrev pub said_or : Option (List ℕ) → Option (List ℕ) → Option (List ℕ)
said_or (Some said) other = Some said
said_or None other = other

abbrev pub said : List ℕ → Option (List ℕ)
said name = said_or (said_of_text name) (said_or (said_of_puz name) (said_of_puzzle name))

-- a line of a file is no command
abbrev pub said_of_line : ℕ → List ℕ → Option (List ℕ)
said_of_line number name =
    if (number == 1) && bytes_eq name (codes "Command") then Some (codes "this is no journal; nothing in it was changed") else
    if bytes_eq name (codes "Command") then Some (codes "not a session file: it has an unknown command; nothing in it was changed") else
    if bytes_eq name (codes "Arguments") then Some (codes "the arguments of the command are wrong; nothing in the file was changed") else
    if bytes_eq name (codes "LineTooLong") then Some (codes "the line has more than 4,096 bytes; nothing in the file was changed") else
    if bytes_eq name (codes "Cut") then Some (codes "the last line has no line feed, so this may not be a journal; nothing in it was changed") else None

-- ---- the line with the sentence

-- no bytes if there is no sentence
abbrev pub line_of : Option (List ℕ) → List ℕ
line_of None = []
line_of (Some said) = codes "xw: " ++ said ++ codes "\n"

-- no bytes unless it is the first empty cell of a session that no file keeps
abbrev pub unkept_line : Location → List ℕ
unkept_line (locations.Unkept cell) = codes "xw: the session is not kept; --save or --journal keeps it\n"
unkept_line location = []

abbrev pub unfilled_line : Location → List ℕ
unfilled_line location = codes "xw: the grid has empty cells, the first at " ++ location_text location ++ codes "; nothing was written\n" ++ unkept_line location

-- what the fault with this name means at this location
abbrev pub said_at : Location → List ℕ → Option (List ℕ)
said_at locations.Session name = Some (codes "this is a session; use --resume to go on with it")
said_at location name = said name

abbrev pub located_line : List ℕ → Location → List ℕ
located_line name location = if bytes_eq name (codes "NotFilled") then unfilled_line location else line_of (said_at location name)

abbrev pub sentence_line : Failure → List ℕ
sentence_line (failures.File file name) = line_of (said name.now)
sentence_line (failures.Located file name location) = located_line name.now location
sentence_line (failures.Line file number name) = line_of (said_of_line number name.now)
sentence_line failure = []

-- no bytes if the line is not due
abbrev pub sentence_if : Bool → Failure → List ℕ
sentence_if true failure = sentence_line failure
sentence_if false failure = []
