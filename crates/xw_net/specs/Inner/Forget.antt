-- Supports that a light has to forget after an edit.
use Rattle.std.specs.Prelude.{◌≡◌, ℕ, ◌+◌, ◌-◌, ◌*◌, ◌^◌, ◌<◌, true, false, ◌&&◌, ◌==◌, nat_le, nat_lt, List, length, slice_index, Option, Some, None, if◌then◌else◌}
use Rattle.xw_letters.specs.Letter.{is_capital}
use Rattle.xw_words.specs.Dictionary.{Entry}
use Rattle.xw_grid.specs.declared.lights.Light.{Light}
use Rattle.xw_feas.specs.Board.{Board, light_at}
use Rattle.xw_feas.specs.Flags.{set_has}
use Rattle.xw_net.specs.Marks.{IsPositionIn, slot_at}
use Rattle.xw_net.specs.Renumber.{same_before}
use Rattle.xw_net.specs.Change.{Fields}

-- the value for no support
abbrev pub nowhere : ℕ
nowhere = 2 ^ 32 - 1

-- the support, forgotten if its index is at least `first`
abbrev pub cut : ℕ → ℕ → ℕ
cut first held = if nat_le first held then nowhere else held

-- the support, forgotten if its index is at least `first`; nothing is forgotten if `first` is `nowhere`
abbrev pub lose : ℕ → ℕ → ℕ
lose first held = if nat_lt first nowhere then cut first held else held

-- the least index of a support that a light has to forget: 0 for a new light, the index of the
-- changed word if that is the last known word of the light's length, and else `nowhere`
abbrev pub lost_from : Option (ℕ × ℕ) → Option ℕ → ℕ → ℕ → ℕ
lost_from word None size known = 0
lost_from None (Some other) size known = nowhere
lost_from (Some word) (Some other) size known = if (word.0 == size) && nat_le known (word.1 + 1) then word.1 else nowhere

-- no letter became pending
abbrev pub KeepsFewer : List ℕ → List ℕ → Type 0
KeepsFewer pending pending' = (slot letter : ℕ) → set_has pending' slot letter ≡ true → set_has pending slot letter ≡ true

module _ (board : Board) (light : ℕ) where
  -- `change` was applied to each support of the light
  abbrev pub ChangesHeld : (ℕ → ℕ) → List ℕ → List ℕ → Type 0
  ChangesHeld change held held' =
      (position letter : ℕ) → position < length (light_at board light) → is_capital letter ≡ true
      → slice_index held' (26 * slot_at board light position + (letter - 65)) ≡ change (slice_index held (26 * slot_at board light position + (letter - 65)))

  -- the supports at the slots of other lights stay
  abbrev pub KeepsHeld : List ℕ → List ℕ → Type 0
  KeepsHeld held held' =
      (slot letter : ℕ) → ((position : ℕ) → position < length (light_at board light) → slot_at board light position ≡ slot → ⊥) → is_capital letter ≡ true
      → slice_index held' (26 * slot + (letter - 65)) ≡ slice_index held (26 * slot + (letter - 65))

-- the least index of a support that a light of the board has to forget after an edit
abbrev pub lost_at : Fields → Board → List Light → (ℕ → List Entry) → ℕ → ℕ
lost_at change board lights entries light =
    lost_from change.word (same_before change.before lights light) (length (light_at board light)) (length (entries (length (light_at board light))))

-- no light of the board has to forget a support
abbrev pub ForgetNone : Fields → Board → List Light → (ℕ → List Entry) → Type 0
ForgetNone change board lights entries = (light : ℕ) → light < length board.lights → length lights ≡ length board.lights → lost_at change board lights entries light ≡ nowhere

-- each light forgot its supports from its least index on, and has nothing pending if it had to
-- forget any
pub record Forgets (board : Board) (first : ℕ → ℕ) (held held' pending pending' : List ℕ) : Type 0 where
  pub held_len : length held' ≡ length held
  pub pending_len : length pending' ≡ length pending
  pub cuts : (light position letter : ℕ) → IsPositionIn board light position → is_capital letter ≡ true
      → slice_index held' (26 * slot_at board light position + (letter - 65)) ≡ lose (first light) (slice_index held (26 * slot_at board light position + (letter - 65)))
  pub less : (slot letter : ℕ) → set_has pending' slot letter ≡ true → set_has pending slot letter ≡ true
  pub cleared : (light position letter : ℕ) → IsPositionIn board light position → first light < nowhere → set_has pending' (slot_at board light position) letter ≡ false
