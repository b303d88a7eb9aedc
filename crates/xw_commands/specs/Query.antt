-- The queries: their words, and the reading of their arguments.
use Rattle.std.specs.Prelude.{ℕ, List, [], ◌∷◌, ◌++◌, codes}
use Rattle.xw_commands.specs.declared.query.Query.{Query}
use Rattle.xw_commands.specs.declared.query.Query.TheVariants.{Match, Grade, Circles, Show, Lights, Words, Choices, Letters, Tally, Duplicates, Unlisted, Grades, Unmatched, Suggest, Why, Help, Tell}
use Rattle.xw_commands.specs.declared.query.QueryName.{QueryName}
use Rattle.xw_commands.specs.declared.query.QueryName.TheVariants as names
use Rattle.xw_commands.specs.declared.query.Report.{Report}
use Rattle.xw_commands.specs.declared.query.Report.TheVariants.{Cells, Counts, Texts, Stats, Longest, Record}
use Rattle.xw_commands.specs.Reading.{Reading, ◌>>=◌, given, reading_in, word, word_if_any, number, number_if_any, spot, named, lights}

abbrev pub report_word : Report → List ℕ
report_word Cells = codes "cells"
report_word Counts = codes "counts"
report_word Texts = codes "texts"
report_word Stats = codes "stats"
report_word Longest = codes "longest"
report_word Record = codes "record"

-- the word of a query
abbrev pub query_word : QueryName → List ℕ
query_word names.Match = codes "match"
query_word names.Grade = codes "grade"
query_word names.Circles = codes "circles"
query_word names.Show = codes "show"
query_word names.Lights = codes "lights"
query_word names.Words = codes "words"
query_word names.Choices = codes "choices"
query_word names.Letters = codes "letters"
query_word names.Tally = codes "tally"
query_word names.Duplicates = codes "dups"
query_word names.Unlisted = codes "unlisted"
query_word names.Grades = codes "grades"
query_word names.Unmatched = codes "unmatched"
query_word names.Suggest = codes "suggest"
query_word names.Why = codes "why"
query_word names.Help = codes "help"
query_word (names.Tell report) = report_word report

-- the word of a query with its arguments
abbrev pub query_form : QueryName → List ℕ
query_form names.Match = query_word names.Match ++ codes " PATTERN"
query_form names.Grade = query_word names.Grade ++ codes " WORD"
query_form names.Circles = query_word names.Circles
query_form names.Show = query_word names.Show
query_form names.Lights = query_word names.Lights
query_form names.Words = query_word names.Words ++ codes " N DIR [K]"
query_form names.Choices = query_word names.Choices ++ codes " N DIR K [FIRST]"
query_form names.Letters = query_word names.Letters ++ codes " R C"
query_form names.Tally = query_word names.Tally ++ codes " R C"
query_form names.Duplicates = query_word names.Duplicates
query_form names.Unlisted = query_word names.Unlisted
query_form names.Grades = query_word names.Grades ++ codes " [N DIR].."
query_form names.Unmatched = query_word names.Unmatched
query_form names.Suggest = query_word names.Suggest
query_form names.Why = query_word names.Why ++ codes " N DIR"
query_form names.Help = query_word names.Help ++ codes " [COMMAND]"
query_form (names.Tell report) = report_word report

-- the word of every query with the reading of its arguments
abbrev pub queries : List (List ℕ × Reading Query)
queries =
    (query_word names.Match, do given (Match (← word)))
    ∷ (query_word names.Grade, do given (Grade (← word)))
    ∷ (query_word names.Circles, given Circles)
    ∷ (query_word names.Show, given Show)
    ∷ (query_word names.Lights, given Lights)
    ∷ (query_word names.Words, do given (Words (← named) (← number_if_any)))
    ∷ (query_word names.Choices, do given (Choices (← named) (← number) (← word_if_any)))
    ∷ (query_word names.Letters, do given (Letters (← spot)))
    ∷ (query_word names.Tally, do given (Tally (← spot)))
    ∷ (query_word names.Duplicates, given Duplicates)
    ∷ (query_word names.Unlisted, given Unlisted)
    ∷ (query_word names.Grades, do given (Grades (← lights)))
    ∷ (query_word names.Unmatched, given Unmatched)
    ∷ (query_word names.Suggest, given Suggest)
    ∷ (query_word names.Why, do given (Why (← named)))
    ∷ (query_word names.Help, do given (Help (← word_if_any)))
    ∷ (query_word (names.Tell Cells), given (Tell Cells))
    ∷ (query_word (names.Tell Counts), given (Tell Counts))
    ∷ (query_word (names.Tell Texts), given (Tell Texts))
    ∷ (query_word (names.Tell Stats), given (Tell Stats))
    ∷ (query_word (names.Tell Longest), given (Tell Longest))
    ∷ (query_word (names.Tell Record), given (Tell Record))
    ∷ []

-- the reading of the query with this word
abbrev pub query_named : List ℕ → Reading Query
query_named word = reading_in queries word
