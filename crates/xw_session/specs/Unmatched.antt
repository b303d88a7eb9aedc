-- The lights that no word matches.
use Rattle.std.specs.Prelude.{ℕ, Bool, not, ◌&&◌, ◌==◌, List, [], length, if◌then◌else◌}
use Rattle.xw_feas.specs.Board.{board_of}
use Rattle.xw_feas.specs.Feasible.{base_words_at}
use Rattle.xw_feas.specs.State.{State}
use Rattle.xw_search.specs.Position.{name_at}
use Rattle.xw_search.specs.OfState.{is_entered}
use Rattle.xw_answers.specs.Text.{spelled_line}

-- the light is not wholly entered, and has no base word: no active word of its length agrees with its entries
abbrev pub is_unmatched : State → ℕ → Bool
is_unmatched engine light = not (is_entered engine light) && (length (base_words_at (board_of engine.grid) engine.words light) == 0)

-- the line of an unmatched light, with its letters; nothing for any other light
abbrev pub unmatched_line : State → ℕ → List ℕ
unmatched_line engine light = if is_unmatched engine light then spelled_line engine.grid (name_at engine light) else []
