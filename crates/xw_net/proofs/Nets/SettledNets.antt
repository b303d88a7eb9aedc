-- A net that is `IsFilled` is settled as its callers see it.
use Rattle.std.proofs.Common.{◌≡◌, ℕ, ◌+◌, ◌<◌, ◌≤◌, Bool, true, false, cond, List, [], ◌∷◌, length, get_or, length-append, refl, sym, ap, ◌∙◌, subst, arith}
use Rattle.std.specs.Prelude.{count_by, vec_len}
use Rattle.std.specs.Coded.{le_prop}
use Rattle.std.proofs.Math.Logic.{∥∥₁_elim}
use Rattle.std.proofs.lemmas.List.Sums.{sum_by-append}
use Rattle.std.proofs.lemmas.List.{length-map}
use Rattle.std.proofs.lemmas.List.FromFn.{length-map-range_with_len, get_or-map-range_with_len}
use Rattle.xw_words.specs.Dictionary.{Dictionary, Entry, known_words}
use Rattle.xw_grid.specs.declared.lights.Light.{Light}
use Rattle.xw_grid.specs.Grid.{Grid}
use Rattle.xw_grid.specs.Light.{lights_of}
use Rattle.xw_feas.specs.Board.{Board, board_of, light_at}
use Rattle.xw_feas.specs.Flags.{flag_at, standing_count}
use Rattle.xw_feas.proofs.BoardLemmas.{length-lights}
use Rattle.xw_feas.proofs.FormedLemmas.{length-light_at}
use Rattle.xw_net.specs.Nets.{bits_for, word_stands, letter_stands}
use Rattle.xw_net.specs.Filled.{IsWholeNet, IsQuiet, IsFilled}
use Rattle.xw_net.specs.Layout.{layout_of}
use Rattle.xw_net.specs.Room.{size_at, HasRoom}
use Rattle.xw_net.specs.Net.{row_flags, flags_of, flags_at, sets_of, IsSettledOn, IsSettledOver, StandsFor, known_counts}
use Rattle.xw_net.specs.declared.net.Net.{Net}

-- the flags of a light are its bits, and the flag of its entered word
pub flags_are : (lights : List Light) (net : Net) (light : ℕ) → light < length lights → flags_at lights net light ≡ row_flags net light
unfolding flags_of
flags_are lights net light lt = get_or-map-range_with_len (row_flags net) 0 (length lights) light light [] lt (omega arith)

pub length-flags : (lights : List Light) (net : Net) → length (flags_of lights net) ≡ length lights
unfolding flags_of
length-flags lights net = length-map-range_with_len (row_flags net) 0 (length lights)

flag_is : (lights : List Light) (net : Net) (light choice : ℕ) → light < length lights → word_stands net light choice ≡ flag_at (flags_of lights net) light choice
unfolding word_stands
flag_is lights net light choice lt = sym (ap (λ (flags : List Bool). get_or flags choice false) (flags_are lights net light lt))

pub filled_settled : (grid : Grid) (dictionary : Dictionary) (net : Net) → IsFilled (board_of grid) dictionary net → IsSettledOn (layout_of grid) dictionary net
unfolding sets_of letter_stands
filled_settled grid dictionary net filled = record {
  rows = record {
    lights = length-flags (lights_of grid) net ∙ sym (length-lights grid);
    choices = λ light lt.
        let within : light < length (lights_of grid) = omega (arith, lt, length-lights grid) in
        let entered = get_or net.entered.items light false in
        ap (λ (flags : List Bool). length flags) (flags_are (lights_of grid) net light within)
        ∙ length-append (bits_for net light) (entered ∷ [])
        ∙ ap (λ n. n + 1) (filled.whole.bits light lt ∙ sym (length-map (known_words dictionary (length (light_at (board_of grid) light))) (λ (word : Entry). word.word)));
    cells = omega (arith, filled.whole.shaped.letters);
  };
  exact = record {
    words = λ light choice lt.
        let within : light < length (lights_of grid) = omega (arith, lt, length-lights grid) in
        let is = flag_is (lights_of grid) net light choice within in
        ((λ stands. (filled.exact.words light choice lt).0 (is ∙ stands)), (λ both. sym is ∙ (filled.exact.words light choice lt).1 both));
    letters = λ cell letter. filled.exact.letters cell letter;
  };
  filled = filled;
}

-- a net between edits has room for its lights and the known words
pub whole_room : (grid : Grid) (dictionary : Dictionary) (net : Net) → IsWholeNet (board_of grid) (known_words dictionary) net → IsQuiet net → HasRoom (lights_of grid) (known_counts dictionary) net
whole_room grid dictionary net whole quiet = record {
  rows = λ light lt. omega (arith, whole.room light (in_board light lt), long light lt);
  base = λ light lt. omega (arith, whole.base_room light (in_board light lt), long light lt);
} where
  in_board : (light : ℕ) → light < length (lights_of grid) → light < length (board_of grid).lights
  in_board light lt = omega (arith, lt, length-lights grid)

  long : (light : ℕ) → light < length (lights_of grid) → length (known_words dictionary (length (light_at (board_of grid) light))) ≡ known_counts dictionary (size_at (lights_of grid) light)
  long light lt = ap (known_counts dictionary) (length-light_at grid light lt)

pub filled_room : (grid : Grid) (dictionary : Dictionary) (net : Net) → IsFilled (board_of grid) dictionary net → HasRoom (lights_of grid) (known_counts dictionary) net
filled_room grid dictionary net filled = whole_room grid dictionary net filled.whole filled.quiet

-- each light of the grid has its row and its flag
pub stands_shaped : (lights : List Light) (net : Net) (light : ℕ) → StandsFor lights net → light < length lights → (light < length net.rows.items) × (light < length net.entered.items)
stands_shaped lights net light stands lt =
    (∥∥₁_elim stands.settled le_prop (λ settled. omega (arith, lt, in_board, settled.filled.whole.shaped.rows)), ∥∥₁_elim stands.settled le_prop (λ settled. omega (arith, lt, in_board, settled.filled.whole.shaped.entered))) where
      in_board : length (board_of stands.state.grid).lights ≡ length lights
      in_board = length-lights stands.state.grid ∙ ap (λ (ls : List Light). length ls) stands.are_lights

-- there are a row and a flag for each light, and no more bits than known words
pub over_shaped : (board : Board) (dictionary : Dictionary) (net : Net) (light : ℕ) → IsSettledOver board dictionary net → light < length board.lights
    → (light < length net.rows.items) × (light < length net.entered.items) × (length (bits_for net light) ≤ length (known_words dictionary (length (light_at board light))))
over_shaped board dictionary net light over lt = (shaped.0, shaped.1, bits) where
  under : light < length (board_of over.grid).lights
  under = subst (λ (b : Board). light < length b.lights) (sym over.is_board) lt

  stands : StandsFor (lights_of over.grid) net
  stands = record { state = record { grid = over.grid; words = dictionary }; are_lights = refl; settled = over.settled }

  shaped : (light < length net.rows.items) × (light < length net.entered.items)
  shaped = stands_shaped (lights_of over.grid) net light stands (omega (arith, under, length-lights over.grid))

  bits : length (bits_for net light) ≤ length (known_words dictionary (length (light_at board light)))
  bits = subst (λ (b : Board). length (bits_for net light) ≤ length (known_words dictionary (length (light_at b light)))) over.is_board
      (∥∥₁_elim over.settled le_prop (λ settled. omega (arith, settled.filled.whole.bits light under)))

-- there is a row for each light
pub stands_rows : (lights : List Light) (net : Net) → StandsFor lights net → (length lights ≤ vec_len net.rows) × (length lights ≤ vec_len net.base)
stands_rows lights net stands =
    (∥∥₁_elim stands.settled le_prop (λ settled. omega (arith, in_board, settled.filled.whole.shaped.rows)), ∥∥₁_elim stands.settled le_prop (λ settled. omega (arith, in_board, settled.filled.whole.chained.base))) where
      in_board : length (board_of stands.state.grid).lights ≡ length lights
      in_board = length-lights stands.state.grid ∙ ap (λ (ls : List Light). length ls) stands.are_lights

-- the number of set flags
pub count_flags : (lights : List Light) (net : Net) (light : ℕ) → light < length lights
    → standing_count (flags_at lights net light) ≡ count_by (λ bit. bit) (bits_for net light) + cond (get_or net.entered.items light false) 1 0
count_flags lights net light lt =
    ap (λ (flags : List Bool). standing_count flags) (flags_are lights net light lt)
    ∙ sum_by-append (λ (bit : Bool). cond bit 1 0) (bits_for net light) (get_or net.entered.items light false ∷ [])
    ∙ ap (λ n. count_by (λ bit. bit) (bits_for net light) + n) (last (get_or net.entered.items light false)) where
      last : (b : Bool) → count_by (λ bit. bit) (b ∷ []) ≡ cond b 1 0
      last true = refl
      last false = refl
