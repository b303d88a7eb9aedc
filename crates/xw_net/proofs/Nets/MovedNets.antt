-- A settled net is adapted to the lights and the known words after an edit.
use Rattle.std.proofs.Common.{◌≡◌, ℕ, zero, suc, ◌<◌, ◌≤◌, Bool, true, false, cond, ltb, List, [], ◌∷◌, ◌++◌, length, get_or, Some, None, refl, sym, ◌∙◌, ap, inl, inr, arith}
use Rattle.std.specs.Prelude.{Option, slice_get, unwrap_or}
use Rattle.std.proofs.lemmas.Bool.{cases_lt, ltb-true}
use Rattle.std.proofs.lemmas.Option.{unwrap_or-slice_get}
use Rattle.xw_bits.specs.Bits.{RowOfBits}
use Rattle.xw_words.specs.Dictionary.{known_words}
use Rattle.xw_grid.specs.declared.lights.Light.{Light}
use Rattle.xw_grid.specs.Light.{lights_of}
use Rattle.xw_feas.specs.Board.{board_of, light_at}
use Rattle.xw_feas.specs.State.{State}
use Rattle.xw_feas.proofs.BoardLemmas.{length-lights}
use Rattle.xw_feas.proofs.FormedLemmas.{length-light_at}
use Rattle.xw_net.specs.declared.net.Net.{Net}
use Rattle.xw_net.specs.Room.{size_at, row_at, no_row, counts_of, HaveBits}
use Rattle.xw_net.specs.Renumber.{same_before}
use Rattle.xw_net.specs.Revival.{same_light}
use Rattle.xw_net.specs.Marks.{known}
use Rattle.xw_net.specs.Nets.{bits_at, word_stands}
use Rattle.xw_net.specs.Filled.{IsFilled}
use Rattle.xw_net.specs.Spread.{bits_in}
use Rattle.xw_net.specs.Fit.{fitted, AreNear, AreFitted, IsAtRest, IsTurned}
use Rattle.xw_net.specs.Opened.{IsMoved}
use Rattle.xw_net.proofs.Nets.RenumberedLights.{other_there}

pub row_bits : (rows : List RowOfBits) (light : ℕ) → bits_in rows light ≡ (row_at rows light).bits
row_bits rows light = at_row (slice_get rows light) ∙ ap (λ (r : RowOfBits). r.bits) (unwrap_or-slice_get rows light no_row) where
  at_row : (o : Option RowOfBits) → bits_at o ≡ (unwrap_or o no_row).bits
  at_row None = refl
  at_row (Some row) = refl

pub fitted_full : (known : ℕ) (bits : List Bool) → length bits ≡ known → fitted known bits ≡ bits
fitted_full known bits full = split (ltb (length bits) known) refl where
  split : (b : Bool) → ltb (length bits) known ≡ b → cond b (bits ++ false ∷ []) bits ≡ bits
  split false is = refl
  split true is = let below = ltb-true (length bits) known is in absurd (omega (arith, below, full))

-- a row that lacks no bit is whole, and needs no further bit
pub near_whole : (lights : List Light) (counts : ℕ → ℕ) (rows : List RowOfBits) → AreNear lights counts None rows → HaveBits lights counts rows
near_whole lights counts rows near light lt = let is = near light lt in omega (arith, is.0, is.1)

pub near_fitted : (lights : List Light) (counts : ℕ → ℕ) (rows : List RowOfBits) → AreNear lights counts None rows → AreFitted lights counts rows rows
near_fitted lights counts rows near light lt = sym (fitted_full (counts (size_at lights light)) (row_at rows light).bits (near_whole lights counts rows near light lt))

get_or_past_one : (bits : List Bool) (index : ℕ) → get_or (bits ++ false ∷ []) index false ≡ get_or bits index false
get_or_past_one [] zero = refl
get_or_past_one [] (suc index) = refl
get_or_past_one (b ∷ bits) zero = refl
get_or_past_one (b ∷ bits) (suc index) = get_or_past_one bits index

pub fitted_bit : (known : ℕ) (bits : List Bool) (index : ℕ) → get_or (fitted known bits) index false ≡ get_or bits index false
fitted_bit known bits index = split (ltb (length bits) known) where
  split : (b : Bool) → get_or (cond b (bits ++ false ∷ []) bits) index false ≡ get_or bits index false
  split false = refl
  split true = get_or_past_one bits index

module _ (was now : State) (cells : ℕ) (old mid new : Net) (turned : IsTurned (lights_of was.grid) (lights_of now.grid) old mid)
    (rows : AreFitted (lights_of now.grid) (counts_of (known_words now.words)) mid.rows.items new.rows.items)
    (others : (light : ℕ) → length (lights_of now.grid) ≤ light → row_at new.rows.items light ≡ row_at mid.rows.items light)
    (base : AreFitted (lights_of now.grid) (counts_of (known_words now.words)) mid.base.items new.base.items)
    (rest : new ≡ record mid { rows = new.rows; base = new.base }) (at_rest : IsAtRest (lights_of now.grid) cells new)
    (filled : IsFilled (board_of was.grid) was.words old) where
  in_lights : (light : ℕ) → light < length (board_of now.grid).lights → light < length (lights_of now.grid)
  in_lights light in_board = omega (arith, in_board, length-lights now.grid)

  in_before : (light other : ℕ) → same_light was.grid now.grid light ≡ Some other → other < length (board_of was.grid).lights
  in_before light other at = let there = other_there (lights_of was.grid) (lights_of now.grid) light other at in omega (arith, there, length-lights was.grid)

  -- if the number of known words stays, the bits stay
  kept_bits : (all all-mid all-new : List RowOfBits) → AreFitted (lights_of now.grid) (counts_of (known_words now.words)) all-mid all-new
      → ((light other : ℕ) → light < length (lights_of now.grid) → same_before (lights_of was.grid) (lights_of now.grid) light ≡ Some other → (row_at all-mid light).bits ≡ (row_at all other).bits)
      → ((other : ℕ) → other < length (board_of was.grid).lights → length (bits_in all other) ≡ length (known_words was.words (length (light_at (board_of was.grid) other))))
      → (light other : ℕ) → light < length (board_of now.grid).lights → same_light was.grid now.grid light ≡ Some other → known (board_of now.grid) now.words light ≡ known (board_of was.grid) was.words other
      → bits_in all-new light ≡ bits_in all other
  kept_bits all all-mid all-new fits turns whole light other in_board at many =
      let lt = in_lights light in_board in
      let sizes : length (known_words now.words (size_at (lights_of now.grid) light)) ≡ known (board_of now.grid) now.words light = ap (λ n. length (known_words now.words n)) (sym (length-light_at now.grid light lt)) in
      let full : length (row_at all other).bits ≡ length (known_words now.words (size_at (lights_of now.grid) light)) = sym (ap length (row_bits all other)) ∙ whole other (in_before light other at) ∙ sym many ∙ sym sizes in
      row_bits all-new light ∙ fits light lt ∙ ap (fitted (length (known_words now.words (size_at (lights_of now.grid) light)))) (turns light other lt at)
      ∙ fitted_full (length (known_words now.words (size_at (lights_of now.grid) light))) (row_at all other).bits full ∙ sym (row_bits all other)

  -- an added bit is clear
  kept_bit : (all all-mid all-new : List RowOfBits) → AreFitted (lights_of now.grid) (counts_of (known_words now.words)) all-mid all-new
      → ((light other : ℕ) → light < length (lights_of now.grid) → same_before (lights_of was.grid) (lights_of now.grid) light ≡ Some other → (row_at all-mid light).bits ≡ (row_at all other).bits)
      → (light other index : ℕ) → light < length (board_of now.grid).lights → same_light was.grid now.grid light ≡ Some other → get_or (bits_in all-new light) index false ≡ get_or (bits_in all other) index false
  kept_bit all all-mid all-new fits turns light other index in_board at =
      let lt = in_lights light in_board in
      ap (λ bits. get_or bits index false) (row_bits all-new light ∙ fits light lt ∙ ap (fitted (length (known_words now.words (size_at (lights_of now.grid) light)))) (turns light other lt at))
      ∙ fitted_bit (length (known_words now.words (size_at (lights_of now.grid) light))) (row_at all other).bits index
      ∙ ap (λ bits. get_or bits index false) (sym (row_bits all other))

  same_rest : new ≡ record old { rows = new.rows; base = new.base; entered = mid.entered; queue = mid.queue; chain = mid.chain; spare = None }
  same_rest = rest ∙ ap (λ (n : Net). record n { rows = new.rows; base = new.base }) turned.rest

  stays_in : (light choice : ℕ) → word_stands new light choice ≡ true → light < length (board_of now.grid).lights
  unfolding word_stands
  stays_in light choice stands = elim (cases_lt light (length (lights_of now.grid))) [
    | inl below ↦ omega (arith, below, length-lights now.grid)
    | inr past ↦
        let row_same : bits_in new.rows.items light ≡ bits_in mid.rows.items light = row_bits new.rows.items light ∙ ap (λ (r : RowOfBits). r.bits) (others light past) ∙ sym (row_bits mid.rows.items light) in
        let flags = ap (λ (n : Net). get_or n.entered.items light false) rest in
        let had = turned.lights (λ l k h. let lt = filled.settled.ready.sound.within.lights l k h in omega (arith, lt, length-lights was.grid)) light choice
        (ap (λ bits. get_or (bits ++ get_or mid.entered.items light false ∷ []) choice false) (sym row_same) ∙ ap (λ e. get_or (bits_in new.rows.items light ++ e ∷ []) choice false) (sym flags) ∙ stands) in
        omega (arith, had, length-lights now.grid)
  ]

  pub moved_net : IsMoved was now old new
  moved_net = record {
    rows = kept_bits old.rows.items mid.rows.items new.rows.items rows turned.rows filled.whole.bits;
    base = kept_bits old.base.items mid.base.items new.base.items base turned.base filled.whole.base.bits;
    base_at = kept_bit old.base.items mid.base.items new.base.items base turned.base;
    entered = λ light other in_board at. ap (λ (n : Net). get_or n.entered.items light false) rest ∙ turned.entered light other (in_lights light in_board) at;
    lights = stays_in;
    letters = ap (λ (n : Net). n.letters.items) same_rest;
    held = ap (λ (n : Net). n.held.items) same_rest;
    restart = ap (λ (n : Net). n.restart.items) same_rest;
    pending = ap (λ (n : Net). n.pending.items) same_rest;
    queue = at_rest.queue;
    is_queued = at_rest.is_queued;
    taken = at_rest.taken;
    is_marked = at_rest.is_marked;
  }
