-- A grid stays a grid after every line.
use Rattle.std.proofs.Common.{◌≡◌, ℕ, ◌+◌, ◌<◌, ◌*◌, zero, suc, Bool, true, false, not, ◌&&◌, eqb, List, [], ◌∷◌, length, map, drop, get_or, set, Some, None, refl, sym, ◌∙◌, ap, subst, length-set, arith}
use Rattle.std.specs.Prelude.{Option, Result, Ok, Err, nat_le, position, if◌then◌else◌, slice_index_or, All}
use Rattle.std.proofs.lemmas.Bool.{eqb-true}
use Rattle.std.proofs.lemmas.Bool.Decides.{nat_tests}
use Rattle.std.proofs.lemmas.List.{length-map, length-replicate, get_or-drop, get_or-replicate}
use Rattle.std.proofs.lemmas.List.Elements.{All-head, All-tail, All-set, All-map}
use Rattle.xw_letters.specs.Letter.{IsLetter, is_letter, folded, letter_of}
use Rattle.xw_words.specs.Word.{is_bad_letter}
use Rattle.xw_words.specs.Dictionary.{Dictionary}
use Rattle.xw_words.specs.declared.fault.WordFault.{WordFault}
use Rattle.xw_words.proofs.DictionaryLemmas.{letters_folded}
use Rattle.xw_grid.specs.declared.cell.Cell.{Cell}
use Rattle.xw_grid.specs.declared.cell.Square.{Square}
use Rattle.xw_grid.specs.declared.cell.Square.TheVariants as squares
use Rattle.xw_grid.specs.declared.cell.Symmetry.{Symmetry}
use Rattle.xw_grid.specs.declared.cell.Symmetry.TheVariants as kinds
use Rattle.xw_grid.specs.declared.cell.Side.{Side}
use Rattle.xw_grid.specs.declared.cell.Side.TheVariants.{Right, Below}
use Rattle.xw_grid.specs.declared.fault.GridFault.{GridFault}
use Rattle.xw_grid.specs.declared.fault.GridFault.TheVariants as grids
use Rattle.xw_grid.specs.declared.lights.Light.{Light}
use Rattle.xw_grid.specs.Grid.{Grid, IsGrid, IsSquare, is_inside, is_edge, is_barred, is_block, cells, index_of}
use Rattle.xw_grid.specs.Edit.{blank, with_entry, set_entry, is_occupied, with_orbit, with_edges, bars_with, toggle_block, toggle_bar, set_symmetry, turned, square_of}
use Rattle.xw_grid.specs.Orbit.{is_in_orbit}
use Rattle.xw_grid.specs.Light.{lights_of, no_light, cells_of}
use Rattle.xw_grid.proofs.GridLemmas.{length-cells}
use Rattle.xw_feas.specs.declared.edit.Refusal.{Refusal}
use Rattle.xw_feas.specs.State.{State, with_grid, with_words, by_fault, with_letters, spelled_in, placed_in, then_write, write_list}
use Rattle.xw_search.specs.Position.{square_with, squares_with, filled_in}
use Rattle.xw_session.specs.Erase.{emptied}

-- ---- squares

square_set : (grid : Grid) (k : ℕ) (square : Square) → IsGrid grid → IsSquare square → IsGrid (record grid { squares = set grid.squares k square })
square_set grid k square is good = record {
  wide = is.wide;
  high = is.high;
  squares = length-set grid.squares k square ∙ is.squares;
  letters = All-set IsSquare grid.squares k square good is.letters;
  right = is.right;
  below = is.below;
  turned = is.turned;
}

letters_set : (cells : List Cell) (grid : Grid) (letters : List ℕ) → All IsLetter letters → IsGrid grid → IsGrid (with_letters grid cells letters)
letters_set [] grid letters good is = is
letters_set (cell ∷ cells) grid [] good is = is
letters_set (cell ∷ cells) grid (letter ∷ letters) good is =
    letters_set cells (with_entry grid cell (Some letter)) letters (All-tail IsLetter letter letters good)
    (square_set grid (index_of grid cell) (squares.Open (Some letter)) is (All-head IsLetter letter letters good))

cells_emptied : (cells : List Cell) (grid next : Grid) → IsGrid grid → write_list (emptied cells) grid ≡ Ok next → IsGrid next
cells_emptied [] grid next is e = let same : grid ≡ next = cc in subst IsGrid same is
cells_emptied (cell ∷ cells) grid next is e =
    by_tests (is_inside grid cell) (is_block grid cell) (cells_emptied cells (with_entry grid cell None) next (square_set grid (index_of grid cell) (squares.Open None) is tt)) e where
      by_tests : (a b : Bool) → (write_list (emptied cells) (with_entry grid cell None) ≡ Ok next → IsGrid next) → then_write (write_list (emptied cells)) (if not a then Err grids.OutOfGrid else if b then Err grids.OnBlock else Ok (with_entry grid cell None)) ≡ Ok next → IsGrid next
      by_tests true false rest h = rest h
      by_tests true true rest h = cc
      by_tests false b rest h = cc

turned_good : (blocked : Bool) (square : Square) → IsSquare square → IsSquare (turned blocked square)
turned_good true square good = tt
turned_good false squares.Block good = tt
turned_good false (squares.Open entered) good = good

pub square_good : (xs : List Square) (n : ℕ) → All IsSquare xs → IsSquare (get_or xs n squares.Block)
square_good [] n all = tt
square_good (x ∷ xs) zero all = All-head IsSquare x xs all
square_good (x ∷ xs) (suc n) all = square_good xs n (All-tail IsSquare x xs all)

module _ (grid : Grid) (is : IsGrid grid) where
  orbit_good : (cell : Cell) (blocked : Bool) → IsGrid (with_orbit grid cell blocked)
  orbit_good cell blocked = record {
    wide = is.wide;
    high = is.high;
    squares = length-map (cells grid) value ∙ length-cells grid;
    letters = All-map IsSquare value (cells grid) (λ k d within. by_test (is_in_orbit grid cell (get_or (cells grid) k d)) (get_or (cells grid) k d));
    right = is.right;
    below = is.below;
    turned = is.turned;
  }
    where
      value : Cell → Square
      value other = if is_in_orbit grid cell other then turned blocked (square_of grid other) else square_of grid other

      by_test : (b : Bool) (other : Cell) → IsSquare (if b then turned blocked (square_of grid other) else square_of grid other)
      by_test true other = turned_good blocked (square_of grid other) (square_good grid.squares (index_of grid other) is.letters)
      by_test false other = square_good grid.squares (index_of grid other) is.letters

  edges_good : (right below : List Bool) → length right ≡ grid.width * grid.height → length below ≡ grid.width * grid.height → IsGrid (record grid { right = right; below = below })
  edges_good right below a b = record { wide = is.wide; high = is.high; squares = is.squares; letters = is.letters; right = a; below = b; turned = is.turned }

  symmetry_good : (kind : Symmetry) → (kind ≡ kinds.Quarter → grid.width ≡ grid.height) → IsGrid (record grid { symmetry = kind })
  symmetry_good kind square = record { wide = is.wide; high = is.high; squares = is.squares; letters = is.letters; right = is.right; below = is.below; turned = square }

pub blank_good : (width height : ℕ) → (nat_le 1 width && nat_le width 255) && (nat_le 1 height && nat_le height 255) ≡ true → IsGrid (blank width height)
blank_good width height sizes = record {
  wide = (grind (arith, nat_tests), grind (arith, nat_tests));
  high = (grind (arith, nat_tests), grind (arith, nat_tests));
  squares = length-replicate (width * height) (squares.Open None);
  letters = λ k d within.
      let below : k < width * height = omega (arith, within, length-replicate (width * height) (squares.Open None)) in
      subst IsSquare (sym (get_or-replicate (width * height) k (squares.Open None) d below)) tt;
  right = length-replicate (width * height) false;
  below = length-replicate (width * height) false;
  turned = λ e. cc;
}

-- ---- edits

letter_folded : (byte : ℕ) → is_letter byte ≡ true → IsLetter (folded byte)
letter_folded byte is = (grind (arith, nat_tests), grind (arith, nat_tests))

pub letter_good : (byte letter : ℕ) → letter_of byte ≡ Some letter → IsLetter letter
letter_good byte letter e =
    elim (is_letter byte) as (λ b. is_letter byte ≡ b → (if b then Some (folded byte) else None) ≡ Some letter → IsLetter letter) [
      | true ↦ λ is e. let same : folded byte ≡ letter = cc in subst IsLetter same (letter_folded byte is)
      | false ↦ λ is e. cc
    ] refl e

module _ (engine next : State) (is : IsGrid engine.grid) where
  to_grid : (grid : Grid) → IsGrid grid → with_grid engine (Ok grid) ≡ Ok next → IsGrid next.grid
  to_grid grid good e = let same : record engine { grid = grid } ≡ next = cc in subst (λ (p : State). IsGrid p.grid) same good

  by_two : (a b : Bool) (one other : GridFault) (grid : Grid) → IsGrid grid → with_grid engine (by_fault (if not a then Err one else if b then Err other else Ok grid)) ≡ Ok next → IsGrid next.grid
  by_two true false one other grid good e = to_grid grid good e
  by_two true true one other grid good e = cc
  by_two false b one other grid good e = cc

  pub with_words_good : (words : Result Dictionary WordFault) → with_words engine words ≡ Ok next → IsGrid next.grid
  with_words_good (Ok words) e = let same : record engine { words = words } ≡ next = cc in subst (λ (p : State). IsGrid p.grid) same is
  with_words_good (Err fault) e = cc

  pub with_letter_good : (cell : Cell) (letter : Option ℕ) → IsSquare (squares.Open letter) → with_grid engine (by_fault (set_entry engine.grid cell letter)) ≡ Ok next → IsGrid next.grid
  with_letter_good cell letter good e = by_two (is_inside engine.grid cell) (is_block engine.grid cell) grids.OutOfGrid grids.OnBlock (with_entry engine.grid cell letter) (square_set engine.grid (index_of engine.grid cell) (squares.Open letter) is good) e

  by_length : (a : Bool) (one : Refusal) (grid : Grid) → IsGrid grid → with_grid engine (if a then Ok grid else Err one) ≡ Ok next → IsGrid next.grid
  by_length true one grid good e = to_grid grid good e
  by_length false one grid good e = cc

  by_spelling : (light : Light) (bad : Option ℕ) (bytes : List ℕ) → position is_bad_letter bytes ≡ bad → with_grid engine (spelled_in engine.grid light bad bytes) ≡ Ok next → IsGrid next.grid
  by_spelling light (Some at) bytes found e = cc
  by_spelling light None bytes found e =
      by_length _ _ (with_letters engine.grid (cells_of light) (map folded bytes)) (letters_set (cells_of light) engine.grid (map folded bytes) (letters_folded bytes found) is) e

  pub with_word_good : (index : Option ℕ) (bytes : List ℕ) → with_grid engine (placed_in engine.grid index bytes) ≡ Ok next → IsGrid next.grid
  with_word_good None bytes e = cc
  with_word_good (Some index) bytes e = by_spelling (slice_index_or (lights_of engine.grid) index no_light) (position is_bad_letter bytes) bytes refl e

  by_list : (cells : List Cell) (written : Result Grid GridFault) → write_list (emptied cells) engine.grid ≡ written → with_grid engine (by_fault written) ≡ Ok next → IsGrid next.grid
  by_list cells (Ok grid) made e = to_grid grid (cells_emptied cells engine.grid grid is made) e
  by_list cells (Err fault) made e = cc

  pub emptied_good : (cells : List Cell) → with_grid engine (by_fault (write_list (emptied cells) engine.grid)) ≡ Ok next → IsGrid next.grid
  emptied_good cells e = by_list cells (write_list (emptied cells) engine.grid) refl e

  pub with_orbit_good : (cell : Cell) → with_grid engine (by_fault (toggle_block engine.grid cell)) ≡ Ok next → IsGrid next.grid
  with_orbit_good cell e =
      by_two (is_inside engine.grid cell) (not (is_block engine.grid cell) && is_occupied engine.grid cell) grids.OutOfGrid grids.Occupied (with_orbit engine.grid cell (not (is_block engine.grid cell)))
      (orbit_good engine.grid is cell (not (is_block engine.grid cell))) e

  by_edge : (a b : Bool) (grid : Grid) → IsGrid grid → with_grid engine (by_fault (if not a then Err grids.OutOfGrid else if not b then Err grids.Border else Ok grid)) ≡ Ok next → IsGrid next.grid
  by_edge true true grid good e = to_grid grid good e
  by_edge true false grid good e = cc
  by_edge false b grid good e = cc

  pub with_bar_good : (cell : Cell) (side : Side) → with_grid engine (by_fault (toggle_bar engine.grid cell side)) ≡ Ok next → IsGrid next.grid
  with_bar_good cell side e =
      let now = not (is_barred engine.grid cell side) in
      by_edge (is_inside engine.grid cell) (is_edge engine.grid cell side) (with_edges engine.grid cell side now)
      (edges_good engine.grid is (bars_with engine.grid cell side now Right) (bars_with engine.grid cell side now Below)
      (length-map (cells engine.grid) _ ∙ length-cells engine.grid) (length-map (cells engine.grid) _ ∙ length-cells engine.grid)) e

  by_square : (kind : Symmetry) (a : Bool) → (a ≡ false → kind ≡ kinds.Quarter → engine.grid.width ≡ engine.grid.height) → with_grid engine (by_fault (if a then Err grids.NotSquare else Ok (record engine.grid { symmetry = kind }))) ≡ Ok next → IsGrid next.grid
  by_square kind false square e = to_grid (record engine.grid { symmetry = kind }) (symmetry_good engine.grid is kind (square refl)) e
  by_square kind true square e = cc

  not_not : (b : Bool) → not b ≡ false → b ≡ true
  not_not true e = refl
  not_not false e = cc

  pub with_symmetry_good : (kind : Symmetry) → with_grid engine (by_fault (set_symmetry engine.grid kind)) ≡ Ok next → IsGrid next.grid
  with_symmetry_good kinds.None e = by_square kinds.None false (λ _ e. cc) e
  with_symmetry_good kinds.Half e = by_square kinds.Half false (λ _ e. cc) e
  with_symmetry_good kinds.LeftRight e = by_square kinds.LeftRight false (λ _ e. cc) e
  with_symmetry_good kinds.UpDown e = by_square kinds.UpDown false (λ _ e. cc) e
  with_symmetry_good kinds.Quarter e =
      by_square kinds.Quarter (not (eqb engine.grid.width engine.grid.height)) (λ same _. eqb-true engine.grid.width engine.grid.height (not_not (eqb engine.grid.width engine.grid.height) same)) e

-- ---- entries

pub length-filled : (xs : List Square) (entries : List (Option ℕ)) → length (squares_with xs entries) ≡ length xs
length-filled [] entries = refl
length-filled (x ∷ xs) entries = ap suc (length-filled xs (drop 1 entries))

-- a square after the entries were replaced
pub square_now : (xs : List Square) (entries : List (Option ℕ)) (k : ℕ) (d : Square) → k < length xs → get_or (squares_with xs entries) k d ≡ square_with (get_or xs k squares.Block) (get_or entries k None)
square_now [] entries k d within = absurd (omega (arith, within))
square_now (x ∷ xs) entries zero d within = refl
square_now (x ∷ xs) entries (suc k) d within =
    let next : 1 + k ≡ suc k = omega arith in
    square_now xs (drop 1 entries) k d (omega (arith, within)) ∙ ap (square_with (get_or xs k squares.Block)) (get_or-drop 1 entries k None ∙ ap (λ n. get_or entries n None) next)

with_good : (square : Square) (entry : Option ℕ) → ((letter : ℕ) → entry ≡ Some letter → IsLetter letter) → IsSquare (square_with square entry)
with_good squares.Block entry good = tt
with_good (squares.Open entered) None good = tt
with_good (squares.Open entered) (Some letter) good = good letter refl

pub filled_good : (engine : State) (entries : List (Option ℕ)) → IsGrid engine.grid → ((cell letter : ℕ) → get_or entries cell None ≡ Some letter → IsLetter letter) → IsGrid (filled_in engine entries).grid
filled_good engine entries is good = record {
  wide = is.wide;
  high = is.high;
  squares = length-filled engine.grid.squares entries ∙ is.squares;
  letters = λ k d within.
      let there : k < length engine.grid.squares = omega (arith, within, length-filled engine.grid.squares entries) in
      subst IsSquare (sym (square_now engine.grid.squares entries k d there)) (with_good (get_or engine.grid.squares k squares.Block) (get_or entries k None) (good k));
  right = is.right;
  below = is.below;
  turned = is.turned;
}
