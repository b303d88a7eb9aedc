-- Lists of the wholly entered lights of each length, linked from each light to the previous one.
use Rattle.std.specs.Prelude.{◌≡◌, ℕ, ◌<◌, Bool, true, ◌&&◌, ◌==◌, List, length, slice_index_or, Option, None}
use Rattle.xw_feas.specs.Board.{light_at}
use Rattle.xw_search.specs.Position.{Position}
use Rattle.xw_search.specs.Below.{last_below}
use Rattle.xw_search.specs.Lights.{is_entered}

abbrev pub size_of : Position → ℕ → ℕ
size_of position light = length (light_at position.board light)

abbrev pub is_entered_of_size : Position → ℕ → ℕ → Bool
is_entered_of_size position size light = is_entered position light && (size_of position light == size)

-- the last wholly entered light of this length before the given light
abbrev pub last_of_size : Position → ℕ → ℕ → Option ℕ
last_of_size position size light = last_below (is_entered_of_size position size) light

-- each wholly entered light before the given one is linked to the previous one of its length
abbrev pub AreLinked : Position → ℕ → List (Option ℕ) → Type 0
AreLinked position light earlier = (other : ℕ) → other < light → is_entered position other ≡ true → slice_index_or earlier other None ≡ last_of_size position (size_of position other) other
