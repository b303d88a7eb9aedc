-- The named lights of a call, and fills of all lights.
use Rattle.std.proofs.Common.{◌≡◌, ℕ, zero, suc, ◌<◌, ◌≢◌, Bool, true, false, cond, List, [], ◌∷◌, length, get_or, Option, Some, None, refl, sym, ◌∙◌, ap, subst, arith, inl, inr}
use Rattle.std.specs.Prelude.{Result, Ok, Err, IfOk}
use Rattle.std.proofs.lemmas.Bool.{cases_Bool, false≢true, true≢false}
use Rattle.xw_feas.specs.Board.{board_of, light_at}
use Rattle.xw_feas.specs.State.{State}
use Rattle.xw_feas.specs.WellFormed.{IsLaidOut}
use Rattle.xw_search.specs.Position.{Position, position_of, placed, with_entries, holding, filled_in}
use Rattle.xw_search.specs.FeasibleWords.{feasible_words}
use Rattle.xw_fill.specs.Filling.{IsFilling, HasFill}
use Rattle.xw_search.specs.declared.filling.Filling.{Filling}
use Rattle.xw_search.specs.declared.filling.Filling.TheVariants.{Filled, NoFill, Limit}
use Rattle.xw_search.specs.Lights.{light_count, spelling}
use Rattle.xw_fill.specs.Search.{chosen, found_in, end_of, end_by, end_in, unentered_count}
use Rattle.xw_fill.specs.Fill.{IsFill}
use Rattle.xw_search.proofs.FillLemmas.{has_words}
use Rattle.xw_fill.proofs.FillLemmas.{fill_is_feasible, found_is_fill, reached-start}
use Rattle.xw_search.proofs.PlacingLemmas.{length-entries_with, entries_with-other}
use Rattle.xw_fill.proofs.SearchLemmas.{chosen-Some}
use Rattle.xw_search.proofs.Shaped.{IsShaped, shaped}
use Rattle.xw_search.specs.NamedFill.{is_in_named, entry_in, IsFillOf, IsInLights, IsAutofilled}
use Rattle.xw_search.proofs.NamedFills.{in_named-from, in_named-gives}
use Rattle.xw_search.proofs.Naming.{fill_same}

-- ---- fills of all lights

-- what the search of `fill` leaves: the number of entries, and the entries in no light
pub record IsOutside (before after : Position) : Type 0 where
  pub long : length after.board.entries ≡ length before.board.entries
  pub same : (cell : ℕ) → ((light k : ℕ) → light < light_count before → k < length (light_at before.board light) → get_or (light_at before.board light) k 0 ≢ cell) → entry_in after.board.entries cell ≡ entry_in before.board.entries cell

outside_itself : (position : Position) → IsOutside position position
outside_itself position = record { long = refl; same = λ cell none. refl }

-- placing a word, and then a further search
outside_placed : (position after : Position) (light : ℕ) (word : List ℕ) → light < light_count position → IsOutside (placed position light word) after → IsOutside position after
outside_placed position after light word in_grid rest = record {
  long = rest.long ∙ length-entries_with position.board.entries (light_at position.board light) word;
  same = λ cell none. rest.same cell none ∙ entries_with-other position.board.entries (light_at position.board light) word cell (λ k below. none light k in_grid below);
}

outside_first : (position : Position) (light : ℕ) (found : List ℕ → Bool) (end : List ℕ → Position) (words : List (List ℕ)) → ((word : List ℕ) → IsOutside position (end word)) → IsOutside position (end_of found end position words)
outside_first position light found end [] each = outside_itself position
outside_first position light found end (word ∷ words) each = split (outside_first position light found end words each) (found word) where
  split : IsOutside position (end_of found end position words) → (b : Bool) → IsOutside position (cond b (end word) (end_of found end position words))
  split rest true = each word
  split rest false = rest

pub end_outside : (fuel : ℕ) (position : Position) → IsOutside position (end_in fuel position)
unfolding end_in
end_outside zero position = outside_itself position
end_outside (suc fuel) position = split (λ light word. end_outside fuel (placed position light word)) (chosen position) refl where
  split : ((light : ℕ) (word : List ℕ) → IsOutside (placed position light word) (end_in fuel (placed position light word))) → (o : Option ℕ) → chosen position ≡ o → IsOutside position (end_by (found_in fuel) (end_in fuel) position o)
  split further None e = outside_itself position
  split further (Some light) e =
      outside_first position light (λ word. found_in fuel (placed position light word)) (λ word. end_in fuel (placed position light word)) (feasible_words position light)
      (λ word. outside_placed position (end_in fuel (placed position light word)) light word (chosen-Some position light e).0 (further light word))

-- a fill is a fill of all lights, if it leaves the entries in no light
all_from_fill : (position : Position) (entries : List (Option ℕ)) → IsShaped position.board → IsFill position entries → IsOutside position (holding position entries) → IsFillOf (λ light. true) position entries
all_from_fill position entries is fill outside = record {
  letters = fill.letters;
  kept = fill.kept;
  elsewhere = λ cell never. outside.same cell (λ light k in_grid below at. true≢false (sym (in_named-from (λ light. true) position light k in_grid refl below) ∙ ap (is_in_named (λ light. true) position) at ∙ never));
  entered = λ light in_grid named. fill.entered light in_grid;
  words = λ light in_grid not_before whole. fill.words light in_grid not_before;
  distinct = λ light other before in_grid whole whole_other. fill.distinct light other before in_grid;
  alive = λ light in_grid why. has_words (holding position entries) light (spelling (holding position entries) light) (fill_is_feasible (holding position entries) entries shaped_then again light in_grid);
} where
  shaped_then : IsShaped (with_entries position.board entries)
  shaped_then = record { entries = outside.long ∙ is.entries; short = is.short; cells_open = is.cells_open; distinct = is.distinct; cross_once = is.cross_once }

  again : IsFill (holding position entries) entries
  again = record {
    letters = fill.letters;
    kept = λ cell letter e. e;
    entered = fill.entered;
    words = λ light in_grid not_entered. absurd (false≢true (sym not_entered ∙ fill.entered light in_grid));
    distinct = fill.distinct;
  }

-- the same for entries that differ from the position in lights alone
pub all_from_laid : (position : Position) (entries : List (Option ℕ)) → IsLaidOut position.board → IsInLights position entries → IsFill position entries → IsFillOf (λ light. true) position entries
all_from_laid position entries laid inside fill = all_from_fill position entries (shaped position.board laid) fill (record {
  long = inside.long;
  same = λ cell none. inside.elsewhere cell (outside cell none);
}) where
  outside : (cell : ℕ) → ((light k : ℕ) → light < light_count position → k < length (light_at position.board light) → get_or (light_at position.board light) k 0 ≢ cell) → is_in_named (λ light. true) position cell ≡ false
  outside cell none = elim (cases_Bool (is_in_named (λ light. true) position cell)) [
    | inl within ↦ let there = in_named-gives (λ light. true) position cell within in absurd (none there.0 there.1 there.2 there.4 there.5)
    | inr not_within ↦ not_within
  ]

-- a fill of all lights is a fill
pub fill_from_all : (position : Position) (entries : List (Option ℕ)) → IsFillOf (λ light. true) position entries → IsFill position entries
fill_from_all position entries is = record {
  letters = is.letters;
  kept = is.kept;
  entered = λ light in_grid. is.entered light in_grid refl;
  words = λ light in_grid not_before. is.words light in_grid not_before (is.entered light in_grid refl);
  distinct = λ light other before in_grid. is.distinct light other before in_grid (is.entered light (omega (arith, before, in_grid)) refl) (is.entered other in_grid refl);
}

-- what `fill` answers is an answer for all lights
pub filled_all : (limit : ℕ) (before after : State) (filling : Filling) → IsLaidOut (board_of before.grid) → IsFilling limit before after filling → HasFill before after filling → IsAutofilled (λ light. true) before after filling
filled_all limit before after Filled laid found has_it =
    let position = position_of before in
    let end_is = found_is_fill (unentered_count position) position position.board.entries (shaped position.board laid) (reached-start position laid.letters) found.1 in
    let outside = subst (IsOutside position) end_is.1 (end_outside (unentered_count position) position) in
    (end_is.0, all_from_fill position end_is.0 (shaped position.board laid) end_is.2 outside, found.2 ∙ ap (λ (p : Position). filled_in before p.board.entries) end_is.1)
filled_all limit before after NoFill laid found has_it = (λ entries is. has_it entries (fill_from_all (position_of before) entries is), found.2)
filled_all limit before after Limit laid found has_it = found.1

pub filled_ok : {Fault : Type 0} (limit : ℕ) (before after : State) (result : Result Filling Fault) → IsLaidOut (board_of before.grid) → IfOk result (IsFilling limit before after) → IfOk result (HasFill before after) → IfOk result (IsAutofilled (λ light. true) before after)
filled_ok limit before after (Ok filling) laid found has_it = filled_all limit before after filling laid found has_it
filled_ok limit before after (Err fault) laid found has_it = tt

-- ---- the same lights

-- an answer for some lights is one for the same lights
pub autofilled_same : (f g : ℕ → Bool) (before after : State) (filling : Filling) → ((light : ℕ) → light < light_count (position_of before) → f light ≡ g light) → IsAutofilled f before after filling → IsAutofilled g before after filling
autofilled_same f g before after Filled same is = (is.0, fill_same f g (position_of before) same is.0 is.1, is.2)
autofilled_same f g before after NoFill same is = (λ entries fill. is.0 entries (fill_same g f (position_of before) (λ light in_grid. sym (same light in_grid)) entries fill), is.1)
autofilled_same f g before after Limit same is = is

pub if_ok_same : {Fault : Type 0} (f g : ℕ → Bool) (before after : State) (result : Result Filling Fault) → ((light : ℕ) → light < light_count (position_of before) → f light ≡ g light) → IfOk result (IsAutofilled f before after) → IfOk result (IsAutofilled g before after)
if_ok_same f g before after (Ok filling) same is = autofilled_same f g before after filling same is
if_ok_same f g before after (Err fault) same is = is
