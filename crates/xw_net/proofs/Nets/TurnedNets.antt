-- A net switches to the lights after an edit.
use Rattle.std.proofs.Common.{◌≡◌, ℕ, zero, suc, ◌<◌, Bool, true, false, List, [], ◌∷◌, ◌++◌, length, replicate, get_or, Some, None, refl, sym, ◌∙◌, ap, subst, inl, inr, arith}
use Rattle.std.specs.Prelude.{Option, vec_len}
use Rattle.std.proofs.lemmas.Bool.{cases_lt, both_ways}
use Rattle.std.proofs.lemmas.List.{get_or_past, length-replicate, get_or-replicate}
use Rattle.std.proofs.lemmas.Option.{slice_get_past}
use Rattle.xw_bits.specs.Bits.{RowOfBits}
use Rattle.xw_grid.specs.declared.lights.Light.{Light}
use Rattle.xw_grid.specs.Grid.{Grid}
use Rattle.xw_grid.specs.Light.{lights_of, no_light}
use Rattle.xw_grid.proofs.LightLemmas.{size_of_light}
use Rattle.xw_grid.proofs.OrderLemmas.{same_index}
use Rattle.xw_grid.proofs.LookupLemmas.{alike}
use Rattle.xw_net.specs.Room.{size_at, row_at, HasRoom}
use Rattle.xw_net.specs.Renumber.{AreLights, same_before, bits_from, flag_from, AreRowsMoved, AreFlagsMoved, IsRenumbered}
use Rattle.xw_net.specs.Nets.{bits_at, word_stands}
use Rattle.xw_net.specs.Fit.{lacking, IsNear, AreNear, IsAtRest, HasRoomBetween, IsTurned, Follows}
use Rattle.xw_net.specs.declared.net.Net.{Net}
use Rattle.xw_net.specs.declared.room.Spare.{Spare}
use Rattle.xw_net.proofs.Nets.RenumberedLights.{found_before, other_there, same_size}

-- no two lights of a grid have the same cells
pub same_self : (lights : List Light) → AreLights lights → (light other : ℕ) → same_before lights lights light ≡ Some other → other ≡ light
same_self lights are light other h = itself are.grid lights are.are h where
  itself : (grid : Grid) (ls : List Light) → ls ≡ lights_of grid → same_before ls ls light ≡ Some other → other ≡ light
  itself grid ls e g =
      let found = found_before (lights_of grid) (lights_of grid) light other (subst (λ ys. same_before ys ys light ≡ Some other) e g) in
      let like = alike (get_or (lights_of grid) light no_light) (get_or (lights_of grid) other no_light) (size_of_light grid light no_light found.in_after) found.fits in
      sym (same_index grid light other no_light found.in_after found.in_before like.0 like.1)

only_false : (choice : ℕ) → get_or ([] ++ false ∷ []) choice false ≡ false
only_false zero = refl
only_false (suc choice) = refl

pub none_marked : (count light : ℕ) → get_or (replicate count false) light false ≡ false
none_marked count light = elim (cases_lt light count) [
  | inl below ↦ get_or-replicate count light false false below
  | inr past ↦ get_or_past (replicate count false) light false (omega (arith, past, length-replicate count false))
]

module _ (before after : List Light) (are : AreLights after) (counts : ℕ → ℕ) where
  module _ (old new : List RowOfBits) (moved : AreRowsMoved before after counts old new) where
    pub turned_row : (light other : ℕ) → light < length after → same_before before after light ≡ Some other → (row_at new light).bits ≡ (row_at old other).bits
    turned_row light other lt at = moved.bits light lt ∙ ap (bits_from old (counts (size_at after light))) at

    pub turned_near : (word : Option (ℕ × ℕ)) → AreNear before counts word old → AreNear after counts word new
    turned_near word near light lt = split (same_before before after light) refl where
      split : (o : Option ℕ) → same_before before after light ≡ o → IsNear (counts (size_at after light)) (lacking word (size_at after light)) (row_at new light).bits
      split None at =
          let many : length (row_at new light).bits ≡ counts (size_at after light) = ap length (moved.bits light lt ∙ ap (bits_from old (counts (size_at after light))) at) ∙ length-replicate (counts (size_at after light)) false in
          (omega (arith, many), omega (arith, many))
      split (Some other) at =
          let had = near other (other_there before after light other at) in
          let many = ap length (turned_row light other lt at) in
          let size = same_size before after are light other at in
          (omega (arith, had.0, many, ap counts size), omega (arith, had.1, many, ap counts size, ap (lacking word) size))

  pub turned_flag : (old new : List Bool) → AreFlagsMoved before after old new → (light other : ℕ) → light < length after → same_before before after light ≡ Some other → get_or new light false ≡ get_or old other false
  turned_flag old new moved light other lt at = moved.flags light lt ∙ ap (flag_from old) at

  pub turned_lights : (old new : Net) → IsRenumbered before after counts old new → (light choice : ℕ) → word_stands new light choice ≡ true → light < length after
  unfolding word_stands
  turned_lights old new is light choice stands = elim (cases_lt light (length after)) [
    | inl below ↦ below
    | inr past ↦
        let no_row = slice_get_past new.rows.items light (omega (arith, past, is.rows.long)) in
        let no_flag = get_or_past new.entered.items light false (omega (arith, past, is.entered.long)) in
        absurd (both_ways _ (ap (λ o. get_or (bits_at o ++ get_or new.entered.items light false ∷ []) choice false) no_row ∙ ap (λ e. get_or ([] ++ e ∷ []) choice false) no_flag ∙ only_false choice) stands)
  ]

-- if the lights stay, the net is unchanged
turned_none : (before after : List Light) (net : Net) (spare : Option Spare) → AreLights after → after ≡ before → spare ≡ None → IsTurned before after net (record net { spare = spare })
unfolding word_stands
turned_none before after net spare are same none = subst (λ ls. IsTurned ls after net (record net { spare = spare })) same (record {
  rows = λ light other lt at. ap (λ l. (row_at net.rows.items l).bits) (sym (same_self after are light other at));
  base = λ light other lt at. ap (λ l. (row_at net.base.items l).bits) (sym (same_self after are light other at));
  entered = λ light other lt at. ap (λ l. get_or net.entered.items l false) (sym (same_self after are light other at));
  lights = λ had. had;
  rest = ap (λ s. record net { spare = s }) none;
})

-- if the lights stay, a net that had room has it without spare arrays
room_kept : (before after : List Light) (counts : ℕ → ℕ) (net : Net) (spare : Option Spare) → after ≡ before → HasRoomBetween before after counts net spare → HasRoom after counts net
room_kept before after counts net None same room = room.1
room_kept before after counts net (Some spare) same room = subst (λ ls. HasRoom ls counts net) (sym same) room.0

pub follows_kept : (before after : List Light) (counts : ℕ → ℕ) (word : Option (ℕ × ℕ)) (net : Net) → after ≡ before → AreLights after → IsAtRest before (vec_len net.letters) net → AreNear before counts word net.rows.items → AreNear before counts word net.base.items
    → HasRoomBetween before after counts net net.spare → Follows before after counts word net (record net { spare = None })
follows_kept before after counts word net same are rest rows base room =
    let had = subst (λ ls. IsAtRest ls (vec_len net.letters) net) (sym same) rest in
    let has = room_kept before after counts net net.spare same room in
    record {
      rest = record {
        few_cells = had.few_cells;
        rows = had.rows;
        base = had.base;
        entered = had.entered;
        letters = had.letters;
        held = had.held;
        restart = had.restart;
        pending = had.pending;
        queue = had.queue;
        queued_long = had.queued_long;
        is_queued = had.is_queued;
        taken = had.taken;
        marked_long = had.marked_long;
        is_marked = had.is_marked;
      };
      rows = subst (λ ls. AreNear ls counts word net.rows.items) (sym same) rows;
      base = subst (λ ls. AreNear ls counts word net.base.items) (sym same) base;
      room = record { rows = has.rows; base = has.base };
      turned = turned_none before after net None are same refl;
    }
