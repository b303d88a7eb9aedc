-- Worked examples: one light of three cells, and a list that has only the word ACE.
use Rattle.std.proofs.Common.{◌≡◌, ℕ, zero, suc, true, false, [], ◌∷◌, Option, Some, None, set, refl, sym}
use Rattle.std.proofs.lemmas.Bool.{true≢false}
use Rattle.xw_search.specs.FeasibleWords.{is_feasible_word, feasible_words}
use Rattle.xw_search.specs.Position.{Position}
use Rattle.xw_fill.specs.Reason.{entry_in, leaves_none, IsReason}

-- the position with these entries
abbrev with_three : Option ℕ → Option ℕ → Option ℕ → Position
with_three first second third = record {
  board = record { lights = (0 ∷ 1 ∷ 2 ∷ []) ∷ []; open_cells = true ∷ true ∷ true ∷ []; entries = first ∷ second ∷ third ∷ [] };
  words = record { rows = [] ∷ [] ∷ [] ∷ (record { word = 65 ∷ 67 ∷ 69 ∷ []; active = true; struck = false; grade = 50; regraded = false } ∷ []) ∷ []; least = 0 };
}

-- A and B are entered
abbrev dead : Position
dead = with_three (Some 65) (Some 66) None

-- no word begins with AB
ab_leaves_none : leaves_none dead 0 dead.board.entries ≡ true
unfolding is_feasible_word feasible_words
ab_leaves_none = refl

-- A alone leaves ACE
a_leaves_some : leaves_none dead 0 (Some 65 ∷ None ∷ None ∷ []) ≡ false
unfolding is_feasible_word feasible_words
a_leaves_some = refl

-- a light that is wholly entered has its word, so B leaves it no word only while another cell is empty
all_leave_some : leaves_none dead 0 (Some 65 ∷ Some 66 ∷ Some 69 ∷ []) ≡ false
unfolding is_feasible_word feasible_words
all_leave_some = refl

-- B is a reason
b_is_reason : IsReason dead 0 (None ∷ Some 66 ∷ None ∷ [])
unfolding is_feasible_word feasible_words
b_is_reason = record {
  part = record { long = refl; kept = kept };
  dead = refl;
  minimal = minimal;
  least = λ h. absurd (true≢false (sym h));
} where
  kept : (cell letter : ℕ) → entry_in (None ∷ Some 66 ∷ None ∷ []) cell ≡ Some letter → entry_in dead.board.entries cell ≡ Some letter
  kept zero letter h = cc
  kept (suc zero) letter h = h
  kept (suc (suc zero)) letter h = cc
  kept (suc (suc (suc cell))) letter h = cc

  minimal : (cell letter : ℕ) → entry_in (None ∷ Some 66 ∷ None ∷ []) cell ≡ Some letter → leaves_none dead 0 (set (None ∷ Some 66 ∷ None ∷ []) cell None) ≡ false
  minimal zero letter h = cc
  minimal (suc zero) letter h = refl
  minimal (suc (suc zero)) letter h = cc
  minimal (suc (suc (suc cell))) letter h = cc
