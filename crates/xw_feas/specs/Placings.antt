-- How many words and letters an edit places.
use Rattle.std.specs.Prelude.{ℕ, ◌+◌, Result, Ok, Err}
use Rattle.xw_feas.specs.State.{Action, letter_set, word_placed}

-- One for a letter that is set and for a word that is placed. To clear a cell, and to write a list, as a search does to go
-- back, places none.
abbrev pub placings : Action → ℕ
placings (letter_set cell letter) = 1
placings (word_placed name word) = 1
placings other = 0

-- how many an engine has placed after an edit with this answer: a refused edit places nothing
abbrev pub placed_after : {X Y : Type 0} → ℕ → Action → Result X Y → ℕ
placed_after placed action (Ok done) = placings action + placed
placed_after placed action (Err refusal) = placed
