-- The searches: their words, and the reading of their arguments.
use Rattle.std.specs.Prelude.{ℕ, List, [], ◌∷◌, ◌++◌, codes}
use Rattle.xw_commands.specs.declared.search.Search.{Search}
use Rattle.xw_commands.specs.declared.search.Search.TheVariants.{Fill, Autofill, Best}
use Rattle.xw_commands.specs.declared.search.SearchName.{SearchName}
use Rattle.xw_commands.specs.declared.search.SearchName.TheVariants as names
use Rattle.xw_commands.specs.Reading.{Reading, ◌>>=◌, given, reading_in, number, number_or_zero, lights}

-- the word of a search
abbrev pub search_word : SearchName → List ℕ
search_word names.Fill = codes "fill"
search_word names.Autofill = codes "autofill"
search_word names.Best = codes "best"

-- the word of a search with its arguments
abbrev pub search_form : SearchName → List ℕ
search_form names.Fill = search_word names.Fill ++ codes " K"
search_form names.Autofill = search_word names.Autofill ++ codes " K [SEED [N DIR]..]"
search_form names.Best = search_word names.Best ++ codes " K [SEED [N DIR]..]"

-- the word of every search with the reading of its arguments
abbrev pub searches : List (List ℕ × Reading Search)
searches =
    (search_word names.Fill, do given (Fill (← number)))
    ∷ (search_word names.Autofill, do given (Autofill (← number) (← number_or_zero) (← lights)))
    ∷ (search_word names.Best, do given (Best (← number) (← number_or_zero) (← lights)))
    ∷ []

-- the reading of the search with this word
abbrev pub search_named : List ℕ → Reading Search
search_named word = reading_in searches word
