-- The number of words of a light that have a letter at a position.
use Rattle.std.specs.Prelude.{ℕ, ◌+◌, ◌==◌, Bool, List, slice_index, count_by, if◌then◌else◌}
use Rattle.xw_words.specs.Dictionary.{Entry}
use Rattle.xw_grid.specs.Light.{lights_of}
use Rattle.xw_feas.specs.AnswersOf.{items_where}
use Rattle.xw_feas.specs.Board.{board_of, light_at}
use Rattle.xw_feas.specs.Choices.{choices}
use Rattle.xw_feas.specs.State.{State}
use Rattle.xw_net.specs.Net.{flags_at}
use Rattle.xw_net.specs.Sums.{sum_below}
use Rattle.xw_net.specs.Support.{supports}
use Rattle.xw_net.specs.declared.net.Net.{Net}

-- the words of a light in the net
abbrev pub words_in : State → Net → ℕ → List (List ℕ)
words_in state net light = items_where (flags_at (lights_of state.grid) net light) (choices (board_of state.grid) state.words (light_at (board_of state.grid) light))

-- the number of them that have the letter at a position
abbrev pub net_tally : State → Net → ℕ → ℕ → ℕ → ℕ
net_tally state net light position letter = count_by (λ word. slice_index word position == letter) (words_in state net light)

-- how many of `n` known words, from one on, are in a row and have the letter at a position
abbrev pub row_tally : List Bool → List Entry → ℕ → ℕ → ℕ → ℕ → ℕ
row_tally row words position letter from n = sum_below (λ k. if supports row words position letter (from + k) then 1 else 0) n
