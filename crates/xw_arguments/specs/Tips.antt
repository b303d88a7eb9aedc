-- What to try in place of a word that is no argument.
use Rattle.std.specs.Prelude.{◌≡◌, ◌⊎◌, ◌++◌, ◌&&◌, ◌||◌, ◌==◌, not, Bool, true, List, [], ◌∷◌, Option, Some, None, codes, get_or, length, nat_eq, option_map, if◌then◌else◌}
use Rattle.std.specs.List.{list_any, starts_with, ends_with}
use Rattle.std.specs.Str.{bytes_eq}
use Rattle.clap.specs.Words.{Text}
use Rattle.clap.specs.declared.error.kind.ErrorKind.{ErrorKind}
use Rattle.clap.specs.declared.error.kind.ErrorKind.TheVariants.{UnknownArgument}
use Rattle.xw_arguments.specs.declared.tips.Tip.{Tip}
use Rattle.xw_arguments.specs.declared.tips.Tip.TheVariants as tips

-- ---- the text of each tip

-- an option that is spelled like the word
abbrev pub option_line : Text → Text
option_line option = codes "\n\n  tip: a similar argument exists: '" ++ option ++ codes "'\n"

abbrev pub list_line : Text → Text
list_line file = codes "\n\n  tip: to load it as the word list, use '--dict " ++ file ++ codes "'\n"

abbrev pub puzzle_line : Text → Text
puzzle_line file = codes "\n\n  tip: to start with this puzzle, use '--from " ++ file ++ codes "'\n"

abbrev pub session_line : Text → Text
session_line file = codes "\n\n  tip: to go on with this session, use '--journal " ++ file ++ codes "'\n"

abbrev pub tip_text : Tip → Text
tip_text (tips.Option option) = option_line option.now
tip_text (tips.List file) = list_line file.now
tip_text (tips.Puzzle file) = puzzle_line file.now
tip_text (tips.Session file) = session_line file.now

-- ---- which tip a word has

-- the option that a word with a single dash stands for
abbrev pub option_meant : Text → Option Text
option_meant word =
    if bytes_eq word (codes "-dict") then Some (codes "--dict") else
    if bytes_eq word (codes "-from") then Some (codes "--from") else
    if bytes_eq word (codes "-resume") then Some (codes "--resume") else
    if bytes_eq word (codes "-to") then Some (codes "--to") else
    if bytes_eq word (codes "-save") then Some (codes "--save") else
    if bytes_eq word (codes "-journal") then Some (codes "--journal") else
    if bytes_eq word (codes "-sync") then Some (codes "--sync") else
    if bytes_eq word (codes "-progress") then Some (codes "--progress") else
    if bytes_eq word (codes "-explain") then Some (codes "--explain") else None

-- the word is this option, or this option with `=` and a value
abbrev pub is_named : Text → Text → Bool
is_named word option = starts_with nat_eq word option && (length word == length option || get_or word (length option) 0 == 61)

-- the word is an option of `edit`
abbrev pub is_option : Text → Bool
is_option word =
    is_named word (codes "--dict") || is_named word (codes "--from") || is_named word (codes "--resume") || is_named word (codes "--to")
    || is_named word (codes "--save") || is_named word (codes "--journal") || is_named word (codes "--sync") || is_named word (codes "--progress") || is_named word (codes "--explain")

-- a word takes the next one as its value if it is an option without `=`, and no flag
abbrev pub has_value : Text → Bool
has_value word = starts_with nat_eq word (codes "--") && not (list_any (λ byte. byte == 61) word) && not (bytes_eq word (codes "--sync")) && not (bytes_eq word (codes "--progress")) && not (bytes_eq word (codes "--explain"))

abbrev pub is_puz : Text → Bool
is_puz name = ends_with nat_eq name (codes ".puz")

abbrev pub is_session : Text → Bool
is_session name = ends_with nat_eq name (codes ".xw")

-- the tip for a file that is given without an option
abbrev pub file_tip : Text → Text
file_tip file = if is_puz file then puzzle_line file else if is_session file then session_line file else list_line file

-- the tip for a word that is no option with a single dash: a file has one, and a word with a dash has none
abbrev pub tip_unless : Text → Option Text
tip_unless word = if starts_with nat_eq word (codes "-") then None else Some (file_tip word)

abbrev pub tip_or : Option Text → Option Text → Option Text
tip_or (Some tip) other = Some tip
tip_or None other = other

-- the tip for a word that is no argument of `edit`, if it has one
abbrev pub tip_at : Text → Option Text
tip_at word = tip_or (option_map option_line (option_meant word)) (tip_unless word)

-- A word of `edit` is an argument, after the word before it, if it is the value of that or an option. A word with a dash
-- is no value, unless it stands for standard input.
abbrev pub is_argument : Text → Text → Bool
is_argument previous word =
    if has_value previous && (not (starts_with nat_eq word (codes "-")) || bytes_eq word (codes "-")) then true else is_option word

-- the tip for the first of these words that is no argument: the error is about this word
abbrev pub tip_among : Text → List Text → Option Text
tip_among previous [] = None
tip_among previous (word ∷ words) = if is_argument previous word then tip_among word words else tip_at word

-- the tip for the words of a command line, of which the first is the program
abbrev pub tip_of : List Text → Option Text
tip_of (program ∷ subcommand ∷ words) = if bytes_eq subcommand (codes "edit") then tip_among subcommand words else None
tip_of words = None

-- only a word that is no argument has a tip
abbrev pub tip_due : ErrorKind → List Text → Option Text
tip_due UnknownArgument words = tip_of words
tip_due kind words = None

-- what is told for an error with this text: the text, with the tip that is due between two parts of it
abbrev pub HasTip : Text → Option Text → Text → Type 0
HasTip text None told = told ≡ text
HasTip text (Some tip) told = (before : Text) × (after : Text) × ((text ≡ before ++ codes "\n" ++ after) ⊎ (text ≡ before ++ after)) × (told ≡ before ++ tip ++ after)
