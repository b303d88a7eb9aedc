-- An empty net has no words and no letters.
use Rattle.std.proofs.Common.{◌≡◌, ℕ, ◌+◌, ◌-◌, ◌*◌, ◌^◌, ◌<◌, ◌≤◌, ◌++◌, Bool, true, false, List, [], ◌∷◌, length, get_or, sym, ap, ◌∙◌, inl, inr, arith}
use Rattle.std.specs.Prelude.{replicate}
use Rattle.std.proofs.lemmas.Bool.{cases_lt}
use Rattle.std.proofs.lemmas.List.{get_or-replicate, get_or_past, length-replicate, replicate_more}
use Rattle.std.proofs.lemmas.List.Elements.{All-get_or}
use Rattle.std.proofs.lemmas.Nat.{mul-le}
use Rattle.xw_bits.specs.Bits.{RowOfBits}
use Rattle.xw_letters.specs.Letter.{is_capital}
use Rattle.xw_words.specs.Dictionary.{Dictionary, IsDictionary, known_words, most_words}
use Rattle.xw_letters.proofs.LetterSetLemmas.{has-none, capital_is_letter}
use Rattle.xw_letters.specs.LetterSet.{has}
use Rattle.xw_grid.specs.Grid.{Grid, IsGrid}
use Rattle.xw_grid.specs.Light.{lights_of}
use Rattle.xw_feas.specs.Board.{board_of, light_at}
use Rattle.xw_feas.proofs.BoardLemmas.{length-open_cells, length-lights, light_in_board}
use Rattle.xw_feas.proofs.FormedLemmas.{length-light_at}
use Rattle.xw_net.specs.Marks.{IsPositionIn, cell_at, slot_at}
use Rattle.xw_net.specs.Room.{counts_of, size_at, no_row, AreFalse, HaveRoom, HasRoom}
use Rattle.xw_net.specs.Inner.Blank.{IsBlank}
use Rattle.xw_net.specs.Nets.{bits_for, word_stands, held_in, pending_in, queued_in}
use Rattle.xw_net.specs.Spread.{bits_in}
use Rattle.xw_net.specs.Worklist.{is_marked}
use Rattle.xw_net.specs.Filled.{HasRowRoom, IsFresh}
use Rattle.xw_net.specs.declared.net.Net.{Net}
use Rattle.xw_net.proofs.Lists.QuietNets.{all_false}
use Rattle.xw_net.proofs.Nets.RowRoom.{bits_are}
use Rattle.xw_net.proofs.Nets.SlotsApart.{side_small}

abbrev far_on : ℕ
far_on = 2 ^ 32 - 1

abbrev none : ℕ
none = 0

all_zero : (n i : ℕ) → get_or (replicate n none) i none ≡ none
all_zero n i = elim (cases_lt i n) [
  | inl lt ↦ get_or-replicate n i none none lt
  | inr le ↦ get_or_past (replicate n none) i none (omega (arith, length-replicate n none))
]

-- no word has the index that stands for no support
pub held_far : (grid : Grid) → IsGrid grid → (held : List ℕ) → held ≡ replicate (52 * length grid.squares) far_on
    → (light position letter : ℕ) → IsPositionIn (board_of grid) light position → is_capital letter ≡ true → most_words ≤ get_or held (26 * slot_at (board_of grid) light position + (letter - 65)) 0
held_far grid is_grid held is light position letter here capital =
    let cell : cell_at (board_of grid) light position < length (board_of grid).open_cells =
    All-get_or (λ cell. cell < length (board_of grid).open_cells) (light_at (board_of grid) light) position 0 here.1 (light_in_board grid light is_grid (omega (arith, here.0, length-lights grid))) in
    let code = capital_is_letter letter capital in
    let within : 26 * slot_at (board_of grid) light position + (letter - 65) < 52 * length grid.squares = omega (arith, cell, length-open_cells grid, side_small (light_at (board_of grid) light), code.0, code.1) in
    let there : get_or held (26 * slot_at (board_of grid) light position + (letter - 65)) 0 ≡ far_on =
    ap (λ (indices : List ℕ). get_or indices (26 * slot_at (board_of grid) light position + (letter - 65)) 0) is
    ∙ get_or-replicate (52 * length grid.squares) (26 * slot_at (board_of grid) light position + (letter - 65)) far_on none within in
    omega (arith, there)

module _ (grid : Grid) (is_grid : IsGrid grid) (dictionary : Dictionary) (is_dictionary : IsDictionary dictionary) (net : Net)
    (blank : IsBlank (lights_of grid) (counts_of (known_words dictionary)) (length grid.squares) net) (room : HasRoom (lights_of grid) (counts_of (known_words dictionary)) net) where
  in_lights : (light : ℕ) → light < length (board_of grid).lights → light < length (lights_of grid)
  in_lights light lt = omega (arith, lt, length-lights grid)

  few : length (board_of grid).open_cells < 2 ^ 32
  few = omega (arith, length-open_cells grid, is_grid.squares, mul-le grid.width grid.height 255 255 is_grid.wide.1 is_grid.high.1)

  long_bits : (rows : List RowOfBits) → AreFalse (lights_of grid) (counts_of (known_words dictionary)) rows → (light : ℕ) → light < length (board_of grid).lights
      → length (bits_in rows light) ≡ length (known_words dictionary (length (light_at (board_of grid) light)))
  long_bits rows are light lt =
      let within = in_lights light lt in
      ap (λ (bits : List Bool). length bits) (bits_are rows light ∙ are.bits light within)
      ∙ length-replicate (counts_of (known_words dictionary) (size_at (lights_of grid) light)) false
      ∙ ap (λ n. length (known_words dictionary n)) (sym (length-light_at grid light within))

  all_bits : (light : ℕ) → (k : ℕ) × (bits_for net light ≡ replicate k false)
  all_bits light = elim (cases_lt light (length (lights_of grid))) [
    | inl lt ↦ (counts_of (known_words dictionary) (size_at (lights_of grid) light), bits_are net.rows.items light ∙ blank.rows.bits light lt)
    | inr le ↦ (0, bits_are net.rows.items light ∙ ap (λ (r : RowOfBits). r.bits) (get_or_past net.rows.items light no_row (omega (arith, blank.rows.long, le))))
  ]

  no_entry : (light : ℕ) → get_or net.entered.items light false ≡ false
  no_entry light = ap (λ (flags : List Bool). get_or flags light false) blank.entered ∙ all_false (length (lights_of grid)) light

  no_word : (light choice : ℕ) → word_stands net light choice ≡ false
  unfolding word_stands
  no_word light choice =
      let bits = all_bits light in
      ap (λ (b : List Bool). get_or (b ++ get_or net.entered.items light false ∷ []) choice false) bits.1
      ∙ ap (λ flag. get_or (replicate bits.0 false ++ flag ∷ []) choice false) (no_entry light)
      ∙ ap (λ (b : List Bool). get_or b choice false) (replicate_more bits.0 false)
      ∙ all_false (bits.0 + 1) choice

  far : (light position letter : ℕ) → IsPositionIn (board_of grid) light position → is_capital letter ≡ true → most_words ≤ held_in net (slot_at (board_of grid) light position) letter
  unfolding held_in
  far light position letter here capital = held_far grid is_grid net.held.items blank.held light position letter here capital

  not_pending : (slot letter : ℕ) → pending_in net slot letter ≡ false
  unfolding pending_in
  not_pending slot letter = ap (λ (sets : List ℕ). has (get_or sets slot 0) letter) blank.pending ∙ ap (λ s. has s letter) (all_zero (2 * length grid.squares) slot) ∙ has-none letter

  not_queued : (light : ℕ) → queued_in net light ≡ false
  unfolding queued_in
  not_queued light = ap (λ (flags : List Bool). get_or flags light false) blank.queue.marks ∙ all_false (length (lights_of grid)) light

  not_marked : (light : ℕ) → is_marked net.chain.marks light ≡ false
  unfolding is_marked
  not_marked light = ap (λ (flags : List Bool). get_or flags light false) blank.chain.marks ∙ all_false (length (lights_of grid)) light

  row_room : (rows : List RowOfBits) → HaveRoom (lights_of grid) (counts_of (known_words dictionary)) rows → HasRowRoom (board_of grid) (known_words dictionary) rows
  row_room rows have light lt =
      let within = in_lights light lt in
      omega (arith, have light within, ap (λ n. length (known_words dictionary n)) (length-light_at grid light within))

  pub blank_fresh : IsFresh (board_of grid) (known_words dictionary) net
  blank_fresh = record {
    whole = record {
      shaped = record {
        few_cells = few;
        rows = omega (arith, length-lights grid, blank.rows.long);
        entered = omega (arith, length-lights grid, ap (λ (f : List Bool). length f) blank.entered, length-replicate (length (lights_of grid)) false);
        letters = omega (arith, length-open_cells grid, ap (λ (f : List ℕ). length f) blank.letters, length-replicate (length grid.squares) none);
        held = omega (arith, length-open_cells grid, ap (λ (f : List ℕ). length f) blank.held, length-replicate (52 * length grid.squares) far_on);
        restart = omega (arith, length-open_cells grid, ap (λ (f : List ℕ). length f) blank.restart, length-replicate (2 * length grid.squares) none);
        pending = omega (arith, length-open_cells grid, ap (λ (f : List ℕ). length f) blank.pending, length-replicate (2 * length grid.squares) none);
        queue = omega (arith, length-lights grid, ap (λ (f : List Bool). length f) blank.queue.marks, length-replicate (length (lights_of grid)) false);
      };
      chained = record {
        base = omega (arith, length-lights grid, blank.base.long);
        chain = omega (arith, length-lights grid, ap (λ (f : List Bool). length f) blank.chain.marks, length-replicate (length (lights_of grid)) false);
      };
      bits = long_bits net.rows.items blank.rows;
      base = record {
        rows = omega (arith, length-lights grid, blank.base.long);
        bits = long_bits net.base.items blank.base;
      };
      room = row_room net.rows.items room.rows;
      base_room = row_room net.base.items room.base;
    };
    past = λ light choice beyond. no_word light choice;
    held = far;
    pending = not_pending;
    quiet = record { queue = blank.queue.lights; queued = not_queued; taken = blank.chain.lights; marked = not_marked };
  }
