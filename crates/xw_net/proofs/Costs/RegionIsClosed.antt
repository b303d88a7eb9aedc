-- Revival and stripping stay in the region: at a settled cell the only letter allowed was feasible
-- before, and still is.
use Rattle.std.proofs.Common.{◌≡◌, ℕ, ◌<◌, ◌&&◌, [], length, Some, sym, ◌∙◌, ap, subst, inl, inr}
use Rattle.std.specs.Prelude.{IsTrue, Bool, List, Contains, slice_index}
use Rattle.std.proofs.lemmas.Bool.{and_parts, eqb-true}
use Rattle.std.proofs.lemmas.List.Elements.{Contains-get_or}
use Rattle.xw_letters.specs.Letter.{is_capital}
use Rattle.xw_feas.specs.Board.{Board, board_of, light_at, entry, is_open, allows}
use Rattle.xw_feas.specs.Feasible.{may_stand, IsFeasibleLetter}
use Rattle.xw_feas.specs.Choices.{IsExact, IsWithinBase}
use Rattle.xw_feas.specs.State.{State, Action}
use Rattle.xw_net.specs.Region.{IsSettled, StandsIn, IsRegion}

-- a cell with a letter allows no other letter
entry_is : (board : Board) (cell entered letter : ℕ) → entry board cell ≡ Some entered → IsTrue (may_stand board cell letter) → entered ≡ letter
entry_is board cell entered letter holds may =
    let parts = and_parts (is_open board cell && is_capital letter) (allows (entry board cell) letter) may in
    eqb-true entered letter (sym (ap (λ e. allows e letter) holds) ∙ parts.1)

-- each letter that a settled cell allows was feasible before
pub settled_stood : (before after : State) (words letters : ℕ → ℕ → Bool) → IsExact (board_of before.grid) before.words words letters
    → (cell letter : ℕ) → IsSettled before after cell → IsTrue (may_stand (board_of after.grid) cell letter) → IsTrue (letters cell letter)
settled_stood before after words letters exact cell letter settled may =
    let is = entry_is (board_of after.grid) cell settled.0 letter settled.2 may in
    subst (λ l. IsTrue (letters cell l)) is ((exact.letters cell settled.0).1 settled.3)

-- each letter that a settled cell allows is feasible after
pub settled_feasible : (before after : State) (cell letter : ℕ) → IsSettled before after cell → IsTrue (may_stand (board_of after.grid) cell letter) → IsFeasibleLetter (board_of after.grid) after.words cell letter
settled_feasible before after cell letter settled may =
    let is = entry_is (board_of after.grid) cell settled.0 letter settled.2 may in
    subst (IsFeasibleLetter (board_of after.grid) after.words cell) is settled.4

-- so letters come back only at cells that are not settled
pub came_unsettled : (before after : State) (words letters : ℕ → ℕ → Bool) → IsExact (board_of before.grid) before.words words letters
    → (cell letter : ℕ) → IsTrue (may_stand (board_of after.grid) cell letter) → ¬ IsTrue (letters cell letter) → ¬ IsSettled before after cell
came_unsettled before after words letters exact cell letter may not_stood settled = not_stood (settled_stood before after words letters exact cell letter settled may)

-- and letters are removed only at cells that are not settled
pub lost_unsettled : (before after : State) (cell letter : ℕ) → IsTrue (may_stand (board_of after.grid) cell letter) → ¬ IsFeasibleLetter (board_of after.grid) after.words cell letter → ¬ IsSettled before after cell
lost_unsettled before after cell letter may lost settled = lost (settled_feasible before after cell letter settled may)

-- the light at an index of a board is one of its lights
pub light_stands : (state : State) (light : ℕ) → light < length (board_of state.grid).lights → StandsIn state (light_at (board_of state.grid) light)
light_stands state light in_board = Contains-get_or (board_of state.grid).lights light [] in_board

module _ (before after : State) (action : Action) (member : List ℕ → Bool) (region : IsRegion before after action member) where
  -- from a light after the edit to another
  pub region_spreads : (light k other j : ℕ) → light < length (board_of after.grid).lights → k < length (light_at (board_of after.grid) light) → other < length (board_of after.grid).lights → j < length (light_at (board_of after.grid) other)
      → slice_index (light_at (board_of after.grid) other) j ≡ slice_index (light_at (board_of after.grid) light) k → ¬ IsSettled before after (slice_index (light_at (board_of after.grid) light) k)
      → IsTrue (member (light_at (board_of after.grid) light)) → IsTrue (member (light_at (board_of after.grid) other))
  region_spreads light k other j in_board below in_board' below' meets unsettled has =
      let first = light_at (board_of after.grid) light in
      let second = light_at (board_of after.grid) other in
      region.spreads first second (slice_index first k) has (inr (light_stands after light in_board)) (inr (light_stands after other in_board'))
      (Contains-get_or first k 0 below) (subst (Contains second) meets (Contains-get_or second j 0 below')) unsettled

  -- from a removed light to one after the edit
  pub gone_spreads : (light k other j : ℕ) → light < length (board_of before.grid).lights → ¬ StandsIn after (light_at (board_of before.grid) light) → k < length (light_at (board_of before.grid) light) → other < length (board_of after.grid).lights → j < length (light_at (board_of after.grid) other)
      → slice_index (light_at (board_of after.grid) other) j ≡ slice_index (light_at (board_of before.grid) light) k → ¬ IsSettled before after (slice_index (light_at (board_of before.grid) light) k)
      → IsTrue (member (light_at (board_of after.grid) other))
  gone_spreads light k other j in_board gone below in_board' below' meets unsettled =
      let first = light_at (board_of before.grid) light in
      let second = light_at (board_of after.grid) other in
      let stood = light_stands before light in_board in
      region.spreads first second (slice_index first k) (region.gone first stood gone) (inl stood) (inr (light_stands after other in_board'))
      (Contains-get_or first k 0 below) (subst (Contains second) meets (Contains-get_or second j 0 below')) unsettled

  pub revival_spreads_gone : (words letters : ℕ → ℕ → Bool) → IsExact (board_of before.grid) before.words words letters
      → (light k other j letter : ℕ) → light < length (board_of before.grid).lights → ¬ StandsIn after (light_at (board_of before.grid) light) → k < length (light_at (board_of before.grid) light) → other < length (board_of after.grid).lights → j < length (light_at (board_of after.grid) other)
      → slice_index (light_at (board_of after.grid) other) j ≡ slice_index (light_at (board_of before.grid) light) k
      → IsTrue (may_stand (board_of after.grid) (slice_index (light_at (board_of before.grid) light) k) letter) → ¬ IsTrue (letters (slice_index (light_at (board_of before.grid) light) k) letter)
      → IsTrue (member (light_at (board_of after.grid) other))
  revival_spreads_gone words letters exact light k other j letter in_board gone below in_board' below' meets may not_stood =
      gone_spreads light k other j in_board gone below in_board' below' meets (came_unsettled before after words letters exact _ letter may not_stood)

  -- if a letter is removed at a cell of a light of the region, the other lights there are in the
  -- region
  pub stripping_spreads : (light k other j letter : ℕ) → light < length (board_of after.grid).lights → k < length (light_at (board_of after.grid) light) → other < length (board_of after.grid).lights → j < length (light_at (board_of after.grid) other)
      → slice_index (light_at (board_of after.grid) other) j ≡ slice_index (light_at (board_of after.grid) light) k
      → IsTrue (may_stand (board_of after.grid) (slice_index (light_at (board_of after.grid) light) k) letter) → ¬ IsFeasibleLetter (board_of after.grid) after.words (slice_index (light_at (board_of after.grid) light) k) letter
      → IsTrue (member (light_at (board_of after.grid) light)) → IsTrue (member (light_at (board_of after.grid) other))
  stripping_spreads light k other j letter in_board below in_board' below' meets may lost has =
      region_spreads light k other j in_board below in_board' below' meets (lost_unsettled before after _ letter may lost) has

  -- so the region is closed under the removal of allowed letters that are not feasible
  pub region_closed : (words' letters' : ℕ → ℕ → Bool) → IsWithinBase (board_of after.grid) after.words words' letters'
      → (light k other j letter : ℕ) → light < length (board_of after.grid).lights → k < length (light_at (board_of after.grid) light) → other < length (board_of after.grid).lights → j < length (light_at (board_of after.grid) other)
      → slice_index (light_at (board_of after.grid) other) j ≡ slice_index (light_at (board_of after.grid) light) k
      → IsTrue (letters' (slice_index (light_at (board_of after.grid) light) k) letter) → ¬ IsFeasibleLetter (board_of after.grid) after.words (slice_index (light_at (board_of after.grid) light) k) letter
      → IsTrue (member (light_at (board_of after.grid) light)) → IsTrue (member (light_at (board_of after.grid) other))
  region_closed words' letters' within light k other j letter in_board below in_board' below' meets stands lost has =
      stripping_spreads light k other j letter in_board below in_board' below' meets (within.letters _ letter stands) lost has
