-- The line of a change.
use Rattle.std.specs.Prelude.{ℕ, List, [], ◌∷◌, decimal, Option, Some, None}
use Rattle.xw_commands.specs.declared.change.Change.{Change}
use Rattle.xw_commands.specs.declared.change.Change.TheVariants as changes
use Rattle.xw_commands.specs.declared.change.ChangeName.TheVariants as names
use Rattle.xw_commands.specs.declared.command.Field.{Field}
use Rattle.xw_commands.specs.declared.command.Field.TheVariants as fields
use Rattle.xw_commands.specs.declared.command.LightArg.{LightArg}
use Rattle.xw_commands.specs.declared.command.CellArg.{CellArg}
use Rattle.xw_commands.specs.Change.{change_word}
use Rattle.xw_commands.specs.Names.{direction_name, side_name, symmetry_name, switch_name, field_name, clue_name}
use Rattle.xw_answers.specs.Text.{line_of}

-- the words of a cell, a light or a field, followed by further words
abbrev pub at_spot : CellArg → List (List ℕ) → List (List ℕ)
at_spot spot rest = decimal spot.row ∷ decimal spot.col ∷ rest

abbrev pub at_light : LightArg → List (List ℕ) → List (List ℕ)
at_light named rest = decimal named.number ∷ direction_name named.direction ∷ rest

abbrev pub in_field : Field → List (List ℕ) → List (List ℕ)
in_field (fields.Text name) rest = field_name name ∷ rest
in_field (fields.Clue spot direction) rest = clue_name ∷ at_spot spot (direction_name direction ∷ rest)

abbrev number_if_any : Option ℕ → List (List ℕ)
number_if_any None = []
number_if_any (Some number) = decimal number ∷ []

-- the words of a change; a text counts as one word, even if it contains spaces
abbrev pub command_words : Change → List (List ℕ)
command_words (changes.Size width height) = change_word names.Size ∷ decimal width ∷ decimal height ∷ []
command_words (changes.Symmetry kind) = change_word names.Symmetry ∷ symmetry_name kind ∷ []
command_words (changes.Add word grade) = change_word names.Add ∷ word ∷ number_if_any grade
command_words (changes.Strike word) = change_word names.Strike ∷ word ∷ []
command_words (changes.Least grade) = change_word names.Least ∷ decimal grade ∷ []
command_words (changes.Set spot letter) = change_word names.Set ∷ at_spot spot ((letter ∷ []) ∷ [])
command_words (changes.Clear spot) = change_word names.Clear ∷ at_spot spot []
command_words (changes.Place named word) = change_word names.Place ∷ at_light named (word ∷ [])
command_words (changes.Erase named) = change_word names.Erase ∷ at_light named []
command_words (changes.Block spot) = change_word names.Block ∷ at_spot spot []
command_words (changes.Bar spot side) = change_word names.Bar ∷ at_spot spot (side_name side ∷ [])
command_words (changes.Clue named text) = change_word names.Clue ∷ at_light named (text ∷ [])
command_words (changes.Write field text) = change_word (names.Write field) ∷ text ∷ []
command_words (changes.Circle spot) = change_word names.Circle ∷ at_spot spot []
command_words (changes.Watch is_on) = change_word names.Watch ∷ switch_name is_on ∷ []
command_words (changes.Put putting field spelling) = change_word (names.Put putting) ∷ in_field field (spelling ∷ [])

-- the words with a space between them, and an LF
abbrev pub command_line : Change → List ℕ
command_line change = line_of (command_words change)
