-- Matching the lights after an edit with those before that have the same cells.
use Rattle.std.proofs.Common.{◌≡◌, ℕ, ◌<◌, ◌≤◌, true, false, List, length, get_or, Some, None, refl, sym, ◌∙◌, ap, subst, arith}
use Rattle.std.specs.Prelude.{Option, slice_get, option_and_then}
use Rattle.std.proofs.lemmas.List.Quantifiers.{position-Some}
use Rattle.std.proofs.lemmas.Option.{get_or_from_slice_get, slice_get_within}
use Rattle.xw_grid.specs.declared.lights.Light.{Light}
use Rattle.xw_grid.specs.Grid.{Grid}
use Rattle.xw_grid.specs.Light.{lights_of, no_light, have_same_cells, index_with_cells}
use Rattle.xw_grid.proofs.LightLemmas.{size_of_light}
use Rattle.xw_grid.proofs.OrderLemmas.{same_index}
use Rattle.xw_grid.proofs.LookupLemmas.{alike}
use Rattle.std.proofs.lemmas.Bool.{cases_eq}
use Rattle.std.proofs.lemmas.List.{length-replicate}
use Rattle.std.proofs.Common.{◌+◌, inl, inr}
use Rattle.xw_bits.specs.Bits.{RowOfBits}
use Rattle.xw_net.specs.Room.{size_at, row_at, HaveBits, HaveRoom, HasRoom}
use Rattle.xw_net.specs.Renumber.{AreLights, same_before, bits_from, room_from, AreRowsMoved, IsRenumbered}
use Rattle.xw_net.specs.declared.net.Net.{Net}

-- the light before that matches one after
pub record IsFound (before after : List Light) (light other : ℕ) : Type 0 where
  pub in_after : light < length after
  pub in_before : other < length before
  pub fits : have_same_cells (get_or after light no_light) (get_or before other no_light) ≡ true

pub found_before : (before after : List Light) (light other : ℕ) → same_before before after light ≡ Some other → IsFound before after light other
found_before before after light other h = split (slice_get after light) refl h where
  split : (o : Option Light) → slice_get after light ≡ o → option_and_then (index_with_cells before) o ≡ Some other → IsFound before after light other
  split None at g = cc
  split (Some this) at g =
      let first = position-Some (have_same_cells this) before other no_light g in
      record {
        in_after = slice_get_within after light this at;
        in_before = first.0;
        fits = ap (λ l. have_same_cells l (get_or before other no_light)) (get_or_from_slice_get after light this no_light at) ∙ first.1;
      }

pub other_there : (before after : List Light) (light other : ℕ) → same_before before after light ≡ Some other → other < length before
other_there before after light other h = (found_before before after light other h).in_before

-- no two lights after match the same light before
pub same_once : (before after : List Light) → AreLights after → (i j other : ℕ) → same_before before after i ≡ Some other → same_before before after j ≡ Some other → i ≡ j
same_once before after are i j other hi hj = once are.grid after are.are hi hj where
  once : (grid : Grid) (ls : List Light) → ls ≡ lights_of grid → same_before before ls i ≡ Some other → same_before before ls j ≡ Some other → i ≡ j
  once grid ls e gi gj =
      let fi = found_before before (lights_of grid) i other (subst (λ ys. same_before before ys i ≡ Some other) e gi) in
      let fj = found_before before (lights_of grid) j other (subst (λ ys. same_before before ys j ≡ Some other) e gj) in
      let ai = alike (get_or (lights_of grid) i no_light) (get_or before other no_light) (size_of_light grid i no_light fi.in_after) fi.fits in
      let aj = alike (get_or (lights_of grid) j no_light) (get_or before other no_light) (size_of_light grid j no_light fj.in_after) fj.fits in
      same_index grid i j no_light fi.in_after fj.in_after (ai.0 ∙ sym aj.0) (ai.1 ∙ sym aj.1)

pub ruleset moving_steps = (other_there, same_once)

-- the row of a light is an old one or new
abbrev pub IsFrom : List RowOfBits → ℕ → Option ℕ → RowOfBits → Type 0
IsFrom rows known same row = (row.bits ≡ bits_from rows known same) × (room_from rows known same ≤ row.room)

from_stays : (old-rows rows : List RowOfBits) (n : ℕ) (same : Option ℕ) (row : RowOfBits) → ((other : ℕ) → same ≡ Some other → row_at rows other ≡ row_at old-rows other) → IsFrom rows n same row → IsFrom old-rows n same row
from_stays old-rows rows n None row h is = is
from_stays old-rows rows n (Some other) row h is = subst (λ r. (row.bits ≡ r.bits) × (r.room ≤ row.room)) (h other refl) is

-- the rows of the first lights are moved or filled, and the others are unchanged
module _ (before after : List Light) (known : ℕ → ℕ) (old-rows old-spare : List RowOfBits) where
  pub record IsMovedTo (rows spare : List RowOfBits) (n : ℕ) : Type 0 where
    pub done : (k : ℕ) → k < n → IsFrom old-rows (known k) (same_before before after k) (row_at spare k)
    pub left : (k : ℕ) → n ≤ k → row_at spare k ≡ row_at old-spare k
    pub kept : (other : ℕ) → ((k : ℕ) → k < n → same_before before after k ≡ Some other → ⊥) → row_at rows other ≡ row_at old-rows other

  -- one more row is moved or filled
  pub moved_more : (rows spare rows' spare' : List RowOfBits) (light : ℕ) → AreLights after → IsMovedTo rows spare light
      → IsFrom rows (known light) (same_before before after light) (row_at spare' light)
      → ((other : ℕ) → (other ≡ light → ⊥) → row_at spare' other ≡ row_at spare other)
      → ((other : ℕ) → (same_before before after light ≡ Some other → ⊥) → row_at rows' other ≡ row_at rows other)
      → IsMovedTo rows' spare' (light + 1)
  moved_more rows spare rows' spare' light are so_far here others stays = record {
    done = λ k lt. elim (cases_eq k light) [
      | inl e ↦ subst (λ m. IsFrom old-rows (known m) (same_before before after m) (row_at spare' m)) (sym e) (from_stays old-rows rows (known light) (same_before before after light) (row_at spare' light) (λ other is. so_far.kept other (λ j below found. absurd (omega (arith, below, same_once before after are j light other found is)))) here)
      | inr apart ↦ subst (IsFrom old-rows (known k) (same_before before after k)) (sym (others k apart)) (so_far.done k (omega arith))
    ];
    left = λ k le. others k (λ e. absurd (omega arith)) ∙ so_far.left k (omega arith);
    kept = λ other none. stays other (none light (omega arith)) ∙ so_far.kept other (λ k below. none k (omega arith));
  }

-- a light that stays has the same number of cells
pub same_size : (before after : List Light) → AreLights after → (light other : ℕ) → same_before before after light ≡ Some other → size_at after light ≡ size_at before other
same_size before after are light other h = size are.grid after are.are h where
  size : (grid : Grid) (ls : List Light) → ls ≡ lights_of grid → same_before before ls light ≡ Some other → size_at ls light ≡ size_at before other
  size grid ls e g =
      let found = found_before before (lights_of grid) light other (subst (λ ys. same_before before ys light ≡ Some other) e g) in
      let same = alike (get_or (lights_of grid) light no_light) (get_or before other no_light) (size_of_light grid light no_light found.in_after) found.fits in
      ap (λ ys. size_at ys light) e ∙ same.2

-- its row has a bit for each known word, and room for them
module _ (before after : List Light) (are : AreLights after) (counts : ℕ → ℕ) (old new : List RowOfBits) (moved : AreRowsMoved before after counts old new) where
  pub moved_bits : HaveBits before counts old → HaveBits after counts new
  moved_bits have light in_after = ap length (moved.bits light in_after) ∙ split (same_before before after light) refl where
    split : (same : Option ℕ) → same_before before after light ≡ same → length (bits_from old (counts (size_at after light)) same) ≡ counts (size_at after light)
    split None is = length-replicate (counts (size_at after light)) false
    split (Some other) is = have other (other_there before after light other is) ∙ ap counts (sym (same_size before after are light other is))

  pub moved_room : HaveRoom before counts old → HaveRoom after counts new
  moved_room have light in_after = split (same_before before after light) refl (moved.room light in_after) where
    split : (same : Option ℕ) → same_before before after light ≡ same → room_from old (counts (size_at after light)) same ≤ (row_at new light).room → counts (size_at after light) ≤ (row_at new light).room
    split None is room = room
    split (Some other) is room =
        let there = have other (other_there before after light other is) in
        let sizes : counts (size_at after light) ≡ counts (size_at before other) = ap counts (same_size before after are light other is) in
        omega (arith, there, room, sizes)

pub room_after : (before after : List Light) → AreLights after → (counts : ℕ → ℕ) (old new : Net) → IsRenumbered before after counts old new → HasRoom before counts old → HasRoom after counts new
room_after before after are counts old new is room = record {
  rows = moved_room before after are counts old.rows.items new.rows.items is.rows room.rows;
  base = moved_room before after are counts old.base.items new.base.items is.base room.base;
}
