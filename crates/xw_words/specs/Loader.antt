-- The dictionary that a loader fills, and its invariant.
use Rattle.std.specs.Prelude.{List, [], map}
use Rattle.xw_words.specs.Dictionary.{Dictionary}
use Rattle.xw_words.specs.Bank.{IsKept, words_of}
use Rattle.xw_words.specs.Table.{Table, row_with}

-- the default for a length without a table
abbrev pub no_table : Table
no_table = record { word_len = 0; entries = []; reserved = 0 }

-- the dictionary that the tables stand for
abbrev pub words_in : List Table → Dictionary
words_in tables = words_of (map row_with tables) 0

-- the tables form a dictionary, and table n holds the words of length n
abbrev pub AreKept : List Table → Type 0
AreKept tables = IsKept (map row_with tables) 0
