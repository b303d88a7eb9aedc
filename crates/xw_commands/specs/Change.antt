-- The changes: their words, and the reading of their arguments.
use Rattle.std.specs.Prelude.{ℕ, List, [], ◌∷◌, ◌++◌, codes}
use Rattle.xw_commands.specs.declared.change.Change.{Change}
use Rattle.xw_commands.specs.declared.change.Change.TheVariants.{Size, Symmetry, Add, Strike, Least, Set, Clear, Place, Erase, Block, Bar, Clue, Write, Circle, Watch, Put}
use Rattle.xw_commands.specs.declared.change.ChangeName.{ChangeName}
use Rattle.xw_commands.specs.declared.change.ChangeName.TheVariants as names
use Rattle.xw_commands.specs.declared.command.TextField.TheVariants.{Title, Author, Copyright, Notes}
use Rattle.xw_commands.specs.declared.command.TextMode.{TextMode}
use Rattle.xw_commands.specs.declared.command.TextMode.TheVariants.{Instead, Behind}
use Rattle.xw_commands.specs.Names.{field_name, clue_name}
use Rattle.xw_commands.specs.Reading.{Reading, ◌>>=◌, given, reading_in, word, number, grade, grade_if_any, byte, text, symmetry, side, switch, spot, named, field}

abbrev pub mode_word : TextMode → List ℕ
mode_word Instead = codes "text"
mode_word Behind = codes "more"

-- the word of a change
abbrev pub change_word : ChangeName → List ℕ
change_word names.Size = codes "size"
change_word names.Symmetry = codes "sym"
change_word names.Add = codes "add"
change_word names.Strike = codes "strike"
change_word names.Least = codes "least"
change_word names.Set = codes "set"
change_word names.Clear = codes "clear"
change_word names.Place = codes "place"
change_word names.Erase = codes "erase"
change_word names.Block = codes "block"
change_word names.Bar = codes "bar"
change_word names.Clue = clue_name
change_word (names.Write field) = field_name field
change_word names.Circle = codes "circle"
change_word names.Watch = codes "watch"
change_word (names.Put mode) = mode_word mode

-- the word of a change with its arguments
abbrev pub change_form : ChangeName → List ℕ
change_form names.Size = change_word names.Size ++ codes " W H"
change_form names.Symmetry = change_word names.Symmetry ++ codes " KIND"
change_form names.Add = change_word names.Add ++ codes " WORD [G]"
change_form names.Strike = change_word names.Strike ++ codes " WORD"
change_form names.Least = change_word names.Least ++ codes " G"
change_form names.Set = change_word names.Set ++ codes " R C L"
change_form names.Clear = change_word names.Clear ++ codes " R C"
change_form names.Place = change_word names.Place ++ codes " N DIR WORD"
change_form names.Erase = change_word names.Erase ++ codes " N DIR"
change_form names.Block = change_word names.Block ++ codes " R C"
change_form names.Bar = change_word names.Bar ++ codes " R C SIDE"
change_form names.Clue = change_word names.Clue ++ codes " N DIR TEXT"
change_form (names.Write Title) = change_word (names.Write Title) ++ codes " TEXT"
change_form (names.Write Author) = change_word (names.Write Author) ++ codes " TEXT"
change_form (names.Write Copyright) = change_word (names.Write Copyright) ++ codes " TEXT"
change_form (names.Write Notes) = change_word (names.Write Notes) ++ codes " TEXT"
change_form names.Circle = change_word names.Circle ++ codes " R C"
change_form names.Watch = change_word names.Watch ++ codes " on, watch off"
change_form (names.Put Instead) = change_word (names.Put Instead) ++ codes " FIELD ESC"
change_form (names.Put Behind) = change_word (names.Put Behind) ++ codes " FIELD ESC"

-- the word of every change with the reading of its arguments
abbrev pub changes : List (List ℕ × Reading Change)
changes =
    (change_word names.Size, do given (Size (← number) (← number)))
    ∷ (change_word names.Symmetry, do given (Symmetry (← symmetry)))
    ∷ (change_word names.Add, do given (Add (← word) (← grade_if_any)))
    ∷ (change_word names.Strike, do given (Strike (← word)))
    ∷ (change_word names.Least, do given (Least (← grade)))
    ∷ (change_word names.Set, do given (Set (← spot) (← byte)))
    ∷ (change_word names.Clear, do given (Clear (← spot)))
    ∷ (change_word names.Place, do given (Place (← named) (← word)))
    ∷ (change_word names.Erase, do given (Erase (← named)))
    ∷ (change_word names.Block, do given (Block (← spot)))
    ∷ (change_word names.Bar, do given (Bar (← spot) (← side)))
    ∷ (change_word names.Clue, do given (Clue (← named) (← text)))
    ∷ (change_word (names.Write Title), do given (Write Title (← text)))
    ∷ (change_word (names.Write Author), do given (Write Author (← text)))
    ∷ (change_word (names.Write Copyright), do given (Write Copyright (← text)))
    ∷ (change_word (names.Write Notes), do given (Write Notes (← text)))
    ∷ (change_word names.Circle, do given (Circle (← spot)))
    ∷ (change_word names.Watch, do given (Watch (← switch)))
    ∷ (change_word (names.Put Instead), do given (Put Instead (← field) (← text)))
    ∷ (change_word (names.Put Behind), do given (Put Behind (← field) (← text)))
    ∷ []

-- the reading of the change with this word
abbrev pub change_named : List ℕ → Reading Change
change_named word = reading_in changes word
