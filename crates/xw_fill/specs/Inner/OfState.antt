-- The inner definitions about a position, under the same names, for the position of a state.
use Rattle.std.specs.Prelude.{ℕ, Bool}
use Rattle.xw_feas.specs.State.{State}
use Rattle.xw_search.specs.Position.{position_of}
use Rattle.xw_fill.specs.Inner.EnteredSince

-- ---- notes of wholly entered lights

abbrev pub AreEntered : State → (ℕ → Bool) → Type 0
AreEntered state = EnteredSince.AreEntered (position_of state)

abbrev pub AreOnlyEntered : State → (ℕ → Bool) → Type 0
AreOnlyEntered state = EnteredSince.AreOnlyEntered (position_of state)

abbrev pub SpellApart : State → (ℕ → Bool) → Type 0
SpellApart state = EnteredSince.SpellApart (position_of state)
