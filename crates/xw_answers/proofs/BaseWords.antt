-- The words that match the pattern of a light are its base words.
use Rattle.std.proofs.Common.{◌≡◌, ℕ, suc, ◌-◌, ◌<◌, ◌≤◌, Bool, true, false, cond, not, ◌&&◌, ◌||◌, le-leb, List, [], ◌∷◌, map, length, get_or, Some, None, refl, sym, ◌∙◌, ap, subst, arith}
use Rattle.std.specs.Prelude.{Option, Ok, Err, is_some, unwrap_or, filter, nat_le, ◌==◌, slice_get, position, if◌then◌else◌}
use Rattle.std.proofs.lemmas.Bool.{ne_eqb, leb-true, and_parts}
use Rattle.std.proofs.lemmas.List.{length-map, get_or-map}
use Rattle.std.specs.Option.{option_and_then}
use Rattle.std.proofs.lemmas.Option.{slice_get_within, slice_get-get_or, get_or_from_slice_get}
use Rattle.xw_text.proofs.Position.{position_is_none}
use Rattle.xw_letters.specs.Letter.{IsLetter, folded}
use Rattle.xw_words.specs.declared.fault.WordFault.TheVariants.{Length}
use Rattle.xw_words.specs.Word.{fits, is_stand_in, is_bad_in_pattern, is_word_length, judged}
use Rattle.xw_words.specs.Dictionary.{Dictionary, Entry, known_words, answer_on, matches, matching_in, matching_answer}
use Rattle.xw_grid.specs.declared.cell.Cell.{Cell}
use Rattle.xw_grid.specs.declared.cell.Square.{Square}
use Rattle.xw_grid.specs.declared.cell.Square.TheVariants.{Block, Open}
use Rattle.xw_grid.specs.declared.cell.LightName.{LightName}
use Rattle.xw_grid.specs.declared.lights.Light.{Light}
use Rattle.xw_grid.specs.Grid.{Grid, IsGrid, IsSquare, is_inside, index_of, letter_in, entry}
use Rattle.xw_grid.specs.Light.{lights_of, no_light, cells_of}
use Rattle.xw_grid.proofs.LightLemmas.{length-line, get_or-line, size_of_light}
use Rattle.xw_grid.proofs.LightTableLemmas.{light_inside}
use Rattle.xw_feas.specs.Board.{board_of, light_at, allows, agrees, is_wholly_entered, spelled, entry as board_entry}
use Rattle.xw_feas.specs.Feasible.{base_words, base_words_at}
use Rattle.xw_feas.proofs.BoardLemmas.{entry-square, length-lights, light_at-board}
use Rattle.xw_feas.proofs.LightsLemmas.{found_by_name}
use Rattle.xw_answers.specs.Text.{letter_or_dot, pattern, pattern_of, light_of}
use Rattle.xw_answers.proofs.LightTexts.{light_short}

-- ---- the letters of cells

folded_letter : (code : ℕ) → IsLetter code → folded code ≡ code
folded_letter code is = ap (λ b. cond b (code - 32) code) (not_above (nat_le 97 code) refl) where
  not_above : (b : Bool) → nat_le 97 code ≡ b → nat_le 97 code ≡ false
  not_above false e = e
  not_above true e = let above : 97 ≤ code = leb-true 97 code e in absurd (omega (arith, is.1))

-- a byte of a pattern matches the letters that the entry allows
stands_for : (e : Option ℕ) (letter : ℕ) → ((x : ℕ) → e ≡ Some x → IsLetter x) → is_stand_in (folded (letter_or_dot e)) letter ≡ allows e letter
stands_for None letter good = refl
stands_for (Some x) letter good =
    let is = good x refl in
    ap (λ c. (c == 46) || (c == letter)) (folded_letter x is) ∙ ap (λ b. b || (x == letter)) (ne_eqb x 46 (λ e. absurd (omega (arith, e, is.0))))

good_byte : (e : Option ℕ) → ((x : ℕ) → e ≡ Some x → IsLetter x) → is_bad_in_pattern (letter_or_dot e) ≡ false
good_byte None good = refl
good_byte (Some x) good =
    let is = good x refl in
    ap (λ b. not (((b && nat_le x 90) || (nat_le 97 x && nat_le x 122)) || (x == 46))) (le-leb 65 x is.0)
    ∙ ap (λ b. not ((b || (nat_le 97 x && nat_le x 122)) || (x == 46))) (le-leb x 90 is.1)

square_letter : (found : Option Square) (letter : ℕ) → ((square : Square) → found ≡ Some square → IsSquare square) → letter_in found ≡ Some letter → IsLetter letter
square_letter None letter good e = cc
square_letter (Some Block) letter good e = cc
square_letter (Some (Open None)) letter good e = cc
square_letter (Some (Open (Some x))) letter good e = let same : x ≡ letter = cc in subst IsLetter same (good (Open (Some x)) refl)

letter_there : (e : Option ℕ) → is_some e ≡ true → letter_or_dot e ≡ unwrap_or e 65
letter_there None some = cc
letter_there (Some x) some = refl

module _ (grid : Grid) (is : IsGrid grid) where
  abbrev byte : Cell → ℕ
  byte cell = letter_or_dot (entry grid cell)

  module _ (cell : Cell) (inside : is_inside grid cell ≡ true) where
    at_index : entry grid cell ≡ letter_in (slice_get grid.squares (index_of grid cell))
    at_index = ap (λ b. letter_in (if b then slice_get grid.squares (index_of grid cell) else None)) inside

    entry_letter : (letter : ℕ) → entry grid cell ≡ Some letter → IsLetter letter
    entry_letter letter e =
        square_letter (slice_get grid.squares (index_of grid cell)) letter
        (λ square found. subst IsSquare (get_or_from_slice_get grid.squares (index_of grid cell) square Block found) (is.letters (index_of grid cell) Block (slice_get_within grid.squares (index_of grid cell) square found)))
        (sym at_index ∙ e)

    byte_stands : (letter : ℕ) → is_stand_in (folded (byte cell)) letter ≡ allows (board_entry (board_of grid) (index_of grid cell)) letter
    byte_stands letter =
        stands_for (entry grid cell) letter entry_letter
        ∙ ap (λ e. allows e letter) (at_index ∙ sym (entry-square grid (index_of grid cell)))

  pattern_fits : (cells : List Cell) (word : List ℕ) → ((k : ℕ) (d : Cell) → k < length cells → is_inside grid (get_or cells k d) ≡ true)
      → fits (map folded (map byte cells)) word ≡ agrees (board_of grid) (map (index_of grid) cells) word
  pattern_fits [] [] inside = refl
  pattern_fits [] (letter ∷ word) inside = refl
  pattern_fits (cell ∷ cells) [] inside = refl
  pattern_fits (cell ∷ cells) (letter ∷ word) inside =
      ap (λ b. b && fits (map folded (map byte cells)) word) (byte_stands cell (inside 0 cell (omega arith)) letter)
      ∙ ap (λ b. allows (board_entry (board_of grid) (index_of grid cell)) letter && b) (pattern_fits cells word (λ k d below. inside (suc k) d (omega arith)))

  -- the pattern of cells that all have letters
  pattern_spells : (cells : List Cell) → ((k : ℕ) (d : Cell) → k < length cells → is_inside grid (get_or cells k d) ≡ true) → is_wholly_entered (board_of grid) (map (index_of grid) cells) ≡ true
      → map byte cells ≡ spelled (board_of grid) (map (index_of grid) cells)
  pattern_spells [] inside entered = refl
  pattern_spells (cell ∷ cells) inside entered =
      let e = board_entry (board_of grid) (index_of grid cell) in
      let both = and_parts (is_some e) (is_wholly_entered (board_of grid) (map (index_of grid) cells)) entered in
      let here : byte cell ≡ letter_or_dot e = ap letter_or_dot (at_index cell (inside 0 cell (omega arith)) ∙ sym (entry-square grid (index_of grid cell))) in
      rw (here ∙ letter_there e both.0, pattern_spells cells (λ k d below. inside (suc k) d (omega arith)) both.1) refl

  module _ (light : ℕ) (within : light < length (lights_of grid)) where
    abbrev found : Light
    found = get_or (lights_of grid) light no_light

    cells_inside : (k : ℕ) (d : Cell) → k < length (cells_of found) → is_inside grid (get_or (cells_of found) k d) ≡ true
    cells_inside k d below =
        let there : k < found.size = omega (arith, below, length-line found.name.direction found.start found.size) in
        ap (is_inside grid) (get_or-line found.name.direction found.start found.size k d there) ∙ light_inside grid light no_light within k there

    good_pattern : position is_bad_in_pattern (pattern grid found) ≡ None
    good_pattern =
        position_is_none is_bad_in_pattern (pattern grid found) 0 (λ k below.
        let there : k < length (cells_of found) = omega (arith, below, length-map (cells_of found) byte) in
        ap is_bad_in_pattern (get_or-map byte (cells_of found) k found.start 0 there)
        ∙ good_byte (entry grid (get_or (cells_of found) k found.start)) (entry_letter (get_or (cells_of found) k found.start) (cells_inside k found.start there)))

    word_length : is_word_length (length (pattern grid found)) ≡ true
    word_length =
        let long : length (pattern grid found) ≡ found.size = length-map (cells_of found) byte ∙ length-line found.name.direction found.start found.size in
        let several = size_of_light grid light no_light within in
        let short = (light_short grid light is within).0 in
        ap is_word_length long ∙ ap (λ b. b && nat_le found.size 255) (le-leb 2 found.size several) ∙ le-leb found.size 255 short

    -- the pattern of a wholly entered light is its word
    pub entered_pattern : is_wholly_entered (board_of grid) (light_at (board_of grid) light) ≡ true → pattern grid found ≡ spelled (board_of grid) (light_at (board_of grid) light)
    entered_pattern entered =
        let cells : light_at (board_of grid) light ≡ map (index_of grid) (cells_of found) = light_at-board grid light no_light within in
        pattern_spells (cells_of found) cells_inside (ap (is_wholly_entered (board_of grid)) (sym cells) ∙ entered) ∙ ap (spelled (board_of grid)) (sym cells)

    pub base_words_match : (words : Dictionary) → is_wholly_entered (board_of grid) (light_at (board_of grid) light) ≡ false
        → matching_answer words (pattern grid found) ≡ Ok (base_words_at (board_of grid) words light)
    base_words_match words not_entered =
        let board = board_of grid in
        let within_board : light < length board.lights = omega (arith, within, length-lights grid) in
        let cells : light_at board light ≡ map (index_of grid) (cells_of found) = light_at-board grid light no_light within in
        let bytes = map folded (pattern grid found) in
        let long : length bytes ≡ length (light_at board light) = length-map (pattern grid found) folded ∙ length-map (cells_of found) byte ∙ sym (length-map (cells_of found) (index_of grid)) ∙ ap length (sym cells) in
        let test : matches bytes ≡ (λ (entry : Entry). entry.active && agrees board (light_at board light) entry.word) =
        λ i. λ entry. ap (λ b. entry.active && b) (pattern_fits (cells_of found) entry.word cells_inside ∙ ap (λ cs. agrees board cs entry.word) (sym cells)) i in
        ap (λ bad. answer_on (λ entries pat. Ok (matching_in entries pat)) words (judged bad (length (pattern grid found)) bytes)) good_pattern
        ∙ ap (λ b. answer_on (λ entries pat. Ok (matching_in entries pat)) words (if b then Ok bytes else Err Length)) word_length
        ∙ ap (λ n. Ok (matching_in (known_words words n) bytes)) long
        ∙ ap (λ (passes : Entry → Bool). Ok (map (λ (entry : Entry). entry.word) (filter passes (known_words words (length (light_at board light)))))) test
        ∙ sym (ap Ok (get_or-map (base_words board words) board.lights light [] [] within_board ∙ ap (λ b. cond b (spelled board (light_at board light) ∷ []) (map (λ (entry : Entry). entry.word) (filter (λ (entry : Entry). entry.active && agrees board (light_at board light) entry.word) (known_words words (length (light_at board light)))))) not_entered))

-- the pattern of the light with the name of the light at an index
pub named_pattern : (grid : Grid) (light : ℕ) (name : LightName) → light < length (lights_of grid) → name ≡ (get_or (lights_of grid) light no_light).name
    → pattern_of grid (light_of grid name) ≡ pattern grid (get_or (lights_of grid) light no_light)
named_pattern grid light name within is =
    ap (λ n. pattern_of grid (light_of grid n)) is
    ∙ ap (λ index. pattern_of grid (option_and_then (slice_get (lights_of grid)) index)) (found_by_name grid light no_light within)
    ∙ ap (pattern_of grid) (slice_get-get_or (lights_of grid) light no_light within)
