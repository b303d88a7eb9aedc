-- The lines of choices: for each of the first feasible words of a light what it leaves.
use Rattle.std.specs.Prelude.{ℕ, ◌+◌, ◌==◌, List, [], ◌∷◌, take, map, length, position, flat_map, codes, decimal, Option, Some, None, Result, Ok, Err, if◌then◌else◌}
use Rattle.xw_letters.specs.Letter.{folded}
use Rattle.xw_words.specs.declared.fault.WordFault.TheVariants as words
use Rattle.xw_words.specs.Dictionary.{index_of_word}
use Rattle.xw_words.specs.Word.{is_bad_letter}
use Rattle.xw_feas.specs.Board.{board_of, light_at}
use Rattle.xw_feas.specs.State.{State}
use Rattle.xw_search.specs.OfState.{feasible_words, is_entered}
use Rattle.xw_fill.specs.OfState.{words_left}
use Rattle.xw_fill.specs.Choices.{fewest_after}
use Rattle.xw_feas.specs.declared.edit.Refusal.{Refusal}
use Rattle.xw_feas.specs.declared.edit.Refusal.TheVariants as edits
use Rattle.xw_answers.specs.Text.{line_of}

abbrev pub number_or_done : Option ℕ → List ℕ
number_or_done None = codes "done"
number_or_done (Some number) = decimal number

-- a word, and the least number of feasible words of a light that is not wholly entered once the word is placed
abbrev pub choice_line : State → ℕ → List ℕ → List ℕ
choice_line engine light word = line_of (word ∷ number_or_done (fewest_after engine light word) ∷ [])

-- ---- the word to begin with

-- the index of a known word, active or struck
abbrev pub known_index : Option ℕ → Result (Option ℕ) Refusal
known_index None = Err (edits.Word words.Unknown)
known_index (Some index) = Ok (Some index)

-- the index of the word that the bytes spell, by the first byte that is not a letter
abbrev pub spelled_index : State → ℕ → Option ℕ → List ℕ → Result (Option ℕ) Refusal
spelled_index state light (Some at) bytes = Err (edits.Word (words.BadLetter (at + 1)))
spelled_index state light None bytes =
    if length bytes == length (light_at (board_of state.grid) light) then known_index (index_of_word state.words (map folded bytes)) else Err edits.PlaceLength

-- The index of the word to begin with, if one is named. The refusals are tested in this order: a byte that is not a
-- letter, another length than that of the light, a word that is not known.
abbrev pub first_index : State → ℕ → Option (List ℕ) → Result (Option ℕ) Refusal
first_index state light None = Ok None
first_index state light (Some bytes) = spelled_index state light (position is_bad_letter bytes) bytes

-- ---- the lines

-- The feasible words of a light, from an index of the dictionary on if one is given. A wholly entered light has all of
-- its words, which are the entered one or none.
abbrev pub words_from : State → ℕ → Option ℕ → List (List ℕ)
words_from state light None = feasible_words state light
words_from state light (Some index) = if is_entered state light then feasible_words state light else words_left state light index

-- the lines of at most this many words, in the order of the dictionary
abbrev pub choice_lines : State → ℕ → Option ℕ → ℕ → List ℕ
choice_lines engine light from most = flat_map (choice_line engine light) (take most (words_from engine light from))
