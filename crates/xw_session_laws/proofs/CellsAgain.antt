-- The cell commands of a record, cell by cell.
use Rattle.std.proofs.Common.{◌≡◌, ℕ, ◌+◌, ◌*◌, ◌<◌, ◌≤◌, zero, suc, Bool, true, false, not, ◌&&◌, ◌||◌, eqb, leb, le-leb, ◌-◌, List, [], ◌∷◌, ◌++◌, length, map, take, drop, get_or, set, replicate, flat_map, Some, None, refl, sym, ◌∙◌, ap, append_assoc, append-nil, zero-add, add-one, drop-cons, length-set, arith}
use Rattle.std.specs.Prelude.{Ok, Err, slice_get, is_some, if◌then◌else◌}
use Rattle.std.specs.Option.{option_and_then}
use Rattle.std.specs.List.{range_with_len}
use Rattle.std.proofs.Math.Seq.{set-append_seam, get_or-append_seam}
use Rattle.std.proofs.lemmas.Bool.Decides.{nat_tests}
use Rattle.std.proofs.lemmas.List.{take_more, take_all, length-take-le, length-drop, length-append, length-map, length-replicate, set-get_or, get_or-map, get_or-replicate, get_or_default, same_lists, drop_all}
use Rattle.std.proofs.lemmas.List.Elements.{All-get_or}
use Rattle.std.proofs.lemmas.Option.{slice_get-get_or}
use Rattle.xw_letters.specs.Letter.{IsLetter, letter_of}
use Rattle.xw_grid.specs.declared.cell.Cell.{Cell}
use Rattle.xw_grid.specs.declared.cell.Square.{Square}
use Rattle.xw_grid.specs.declared.cell.Square.TheVariants.{Block, Open}
use Rattle.xw_grid.specs.declared.cell.Symmetry.TheVariants as kinds
use Rattle.xw_grid.specs.declared.fault.GridFault.TheVariants.{OutOfGrid, OnBlock, Occupied}
use Rattle.xw_grid.specs.Grid.{Grid, IsGrid, IsSquare, is_inside, index_of, cell_at, cells, is_block_square, letter_in, square_at, is_block, entry, same_cell}
use Rattle.xw_grid.specs.Edit.{with_entry, is_occupied, with_orbit, turned, square_of}
use Rattle.xw_grid.specs.Orbit.{moved_by, moved as orbit_moved, is_in_orbit}
use Rattle.xw_grid.specs.Clue.{ClueMap}
use Rattle.xw_feas.specs.State.{with_grid as state_with_grid, by_fault}
use Rattle.xw_grid.proofs.GridLemmas.{cell_at-inside, index_of-cell_at, same_cell-cell_at, get_set, length-cells, get_or-map-cells}
use Rattle.xw_commands.specs.declared.change.Change.{Change}
use Rattle.xw_commands.specs.declared.change.Change.TheVariants as changes
use Rattle.xw_answers.specs.declared.record.Part.TheVariants.{Letters, Blocks}
use Rattle.xw_session.specs.State.{SessionState}
use Rattle.xw_session.specs.Reply.{moved, with_letter}
use Rattle.xw_answers.specs.Record.{spot_of, letter_commands, block_commands, cell_commands, part_commands}
use Rattle.xw_session_laws.specs.Replay.{state_left, replayed, bared, with_grid}
use Rattle.xw_session_laws.proofs.Replaying.{replayed_both, next_done}

-- ---- one cell after another

-- if the commands of each cell lead from one state to the next, all of them lead from the first to the last
cells_from : (grid : Grid) (made : Cell → List Change) (after : ℕ → SessionState) (k n : ℕ)
    → ((i : ℕ) → i < k + n → replayed (after i) (made (cell_at grid i)) ≡ Some (after (i + 1)))
    → replayed (after k) (flat_map made (map (cell_at grid) (range_with_len k n))) ≡ Some (after (k + n))
cells_from grid made after k zero step = let same : k ≡ k + 0 = omega arith in ap (λ i. Some (after i)) same
cells_from grid made after k (suc n) step =
    let rest = flat_map made (map (cell_at grid) (range_with_len (k + 1) n)) in
    let last : k + 1 + n ≡ k + suc n = omega arith in
    replayed_both (after k) (made (cell_at grid k)) rest
    ∙ ap (option_and_then (λ mid. replayed mid rest)) (step k (omega arith))
    ∙ cells_from grid made after (k + 1) n (λ i within. step i (omega (arith, within)))
    ∙ ap (λ i. Some (after i)) last

pub each_cell_again : (grid : Grid) (made : Cell → List Change) (after : ℕ → SessionState)
    → ((i : ℕ) → i < grid.width * grid.height → replayed (after i) (made (cell_at grid i)) ≡ Some (after (i + 1)))
    → replayed (after 0) (flat_map made (cells grid)) ≡ Some (after (grid.width * grid.height))
each_cell_again grid made after step =
    cells_from grid made after 0 (grid.width * grid.height) (λ i within. step i (omega (arith, within)))
    ∙ ap (λ i. Some (after i)) (zero-add (grid.width * grid.height))

-- ---- the first elements of one list, followed by those of another

abbrev pub mixed : {X : Type 0} → List X → List X → ℕ → List X
mixed xs ys k = take k xs ++ drop k ys

module _ {X : Type 0} (xs ys : List X) (long : length xs ≡ length ys) (k : ℕ) (d : X) (within : k < length xs) where
  front_long : length (take k xs) ≡ k
  front_long = length-take-le k xs (omega (arith, within))

  rest_is : drop k ys ≡ get_or ys k d ∷ drop (k + 1) ys
  rest_is = let there : k < length ys = omega (arith, within, long) in rw add-one (drop-cons ys k d there)

  -- one more element from the first list
  pub mixed_more : mixed xs ys (k + 1) ≡ set (mixed xs ys k) k (get_or xs k d)
  mixed_more =
      let rest = drop (k + 1) ys in
      let seam : set (take k xs ++ get_or ys k d ∷ rest) k (get_or xs k d) ≡ take k xs ++ get_or xs k d ∷ rest =
      ap (λ n. set (take k xs ++ get_or ys k d ∷ rest) n (get_or xs k d)) (sym front_long) ∙ set-append_seam (take k xs) (get_or ys k d) rest (get_or xs k d) in
      ap (λ front. front ++ rest) (take_more xs k d within) ∙ append_assoc (take k xs) (get_or xs k d ∷ []) rest
      ∙ sym (ap (λ zs. set (take k xs ++ zs) k (get_or xs k d)) rest_is ∙ seam)

  -- the next element
  pub mixed_next : get_or (mixed xs ys k) k d ≡ get_or ys k d
  mixed_next =
      ap (λ zs. get_or (take k xs ++ zs) k d) rest_is
      ∙ ap (λ n. get_or (take k xs ++ get_or ys k d ∷ drop (k + 1) ys) n d) (sym front_long)
      ∙ get_or-append_seam (take k xs) (get_or ys k d) (drop (k + 1) ys) d

  pub mixed_same : get_or ys k d ≡ get_or xs k d → mixed xs ys (k + 1) ≡ mixed xs ys k
  mixed_same same = mixed_more ∙ ap (set (mixed xs ys k) k) (sym same ∙ sym mixed_next) ∙ set-get_or (mixed xs ys k) k d

  pub length-mixed : length (mixed xs ys k) ≡ length xs
  length-mixed = length-append (take k xs) (drop k ys) ∙ (omega (arith, front_long, length-drop k ys, long, within))

pub mixed_all : {X : Type 0} (xs ys : List X) (k : ℕ) → length xs ≡ length ys → k ≡ length xs → mixed xs ys k ≡ xs
mixed_all xs ys k long all =
    let past : length xs ≤ k = omega (arith, all) in
    let none : length ys ≤ k = omega (arith, all, long) in
    ap (λ zs. take k xs ++ zs) (drop_all k ys none) ∙ append-nil (take k xs) ∙ take_all k xs past

-- ---- letters

-- the square of a cell, by its index
pub square_is : (grid : Grid) (k : ℕ) → is_inside grid (cell_at grid k) ≡ true → k < length grid.squares → square_at grid (cell_at grid k) ≡ Some (get_or grid.squares k Block)
square_is grid k inside within =
    ap (λ b. if b then slice_get grid.squares (index_of grid (cell_at grid k)) else None) inside
    ∙ ap (slice_get grid.squares) (index_of-cell_at grid k)
    ∙ slice_get-get_or grid.squares k Block within

abbrev pub with_squares : SessionState → Grid → List Square → SessionState
with_squares state grid squares = with_grid state (record grid { squares = squares })

letter_chosen : (letter : ℕ) (a b c d : Bool) → a ≡ true → b ≡ true → c ≡ false → (if (a && b) || (c && d) then Some (if c then letter - 32 else letter) else None) ≡ Some letter
letter_chosen letter true true false d p q r = refl
letter_chosen letter true true true d p q r = cc
letter_chosen letter true false c d p q r = cc
letter_chosen letter false b c d p q r = cc

pub letter_is : (letter : ℕ) → IsLetter letter → letter_of letter ≡ Some letter
letter_is letter is =
    let high : leb 97 letter ≡ false = grind (arith, nat_tests, is.1) in
    letter_chosen letter (leb 65 letter) (leb letter 90) (leb 97 letter) (leb letter 122) (le-leb 65 letter is.0) (le-leb letter 90 is.1) high

pub entered : (state : SessionState) (inside blocks : Bool) (grid : Grid) → inside ≡ true → blocks ≡ false
    → state_left (moved state (state_with_grid state.engine (by_fault (if not inside then Err OutOfGrid else if blocks then Err OnBlock else Ok grid)))) ≡ Some (with_grid state grid)
entered state true false grid p q = refl
entered state true true grid p q = cc
entered state false blocks grid p q = cc

module _ (state : SessionState) (grid : Grid) (is : IsGrid grid) where
  abbrev pub bare : List Square
  bare = map bared grid.squares

  as_long : length grid.squares ≡ length bare
  as_long = sym (length-map grid.squares bared)

  abbrev lettered : ℕ → SessionState
  lettered k = with_squares state grid (mixed grid.squares bare k)

  module _ (k : ℕ) (below : k < grid.width * grid.height) where
    within : k < length grid.squares
    within = omega (arith, below, is.squares)

    inside : is_inside grid (cell_at grid k) ≡ true
    inside = cell_at-inside grid k is below

    bare_at : get_or bare k Block ≡ bared (get_or grid.squares k Block)
    bare_at = get_or-map bared grid.squares k Block Block within

    nothing_due : get_or bare k Block ≡ get_or grid.squares k Block → Some (lettered k) ≡ Some (lettered (k + 1))
    nothing_due same = ap (λ squares. Some (with_squares state grid squares)) (sym (mixed_same grid.squares bare as_long k Block within same))

    letter_step : (square : Square) → get_or grid.squares k Block ≡ square → IsSquare square → replayed (lettered k) (letter_commands (cell_at grid k) (letter_in (Some square))) ≡ Some (lettered (k + 1))
    letter_step Block e good = nothing_due (bare_at ∙ ap bared e ∙ sym e)
    letter_step (Open None) e good = nothing_due (bare_at ∙ ap bared e ∙ sym e)
    letter_step (Open (Some letter)) e good =
        let squares = mixed grid.squares bare k in
        let now = record grid { squares = squares } in
        let cell = cell_at grid k in
        let there : k < length squares = omega (arith, within, length-mixed grid.squares bare as_long k Block within) in
        let open_now : square_at now cell ≡ Some (Open None) = square_is now k inside there ∙ ap Some (mixed_next grid.squares bare as_long k Block within ∙ bare_at ∙ ap bared e) in
        let more : set squares (index_of grid cell) (Open (Some letter)) ≡ mixed grid.squares bare (k + 1) =
        ap (λ n. set squares n (Open (Some letter))) (index_of-cell_at grid k) ∙ ap (set squares k) (sym e) ∙ sym (mixed_more grid.squares bare as_long k Block within) in
        next_done (lettered k) (lettered (k + 1)) (changes.Set (spot_of cell) letter) []
        (ap (λ found. state_left (with_letter (lettered k) (spot_of cell) found)) (letter_is letter good)
        ∙ entered (lettered k) (is_inside grid cell) (is_block now cell) (with_entry now cell (Some letter)) inside (ap is_block_square open_now)
        ∙ ap (λ squares. Some (with_squares state grid squares)) more)

    letters_at : replayed (lettered k) (letter_commands (cell_at grid k) (entry grid (cell_at grid k))) ≡ Some (lettered (k + 1))
    letters_at =
        ap (λ square. replayed (lettered k) (letter_commands (cell_at grid k) (letter_in square))) (square_is grid k inside within)
        ∙ letter_step (get_or grid.squares k Block) refl (All-get_or IsSquare grid.squares k Block within is.letters)

  pub letters_again : (clues : ClueMap) (circles : List Cell) → replayed (with_squares state grid bare) (part_commands grid clues circles Letters) ≡ Some (with_grid state grid)
  letters_again clues circles =
      each_cell_again grid (cell_commands grid clues circles Letters) lettered (λ k below. letters_at k below)
      ∙ ap (λ squares. Some (with_squares state grid squares)) (mixed_all grid.squares bare (grid.width * grid.height) as_long (sym is.squares))

-- ---- blocks, without symmetry

toggled : (state : SessionState) (inside blocks occupied : Bool) (to : Bool → Grid) → inside ≡ true → blocks ≡ false → occupied ≡ false
    → state_left (moved state (state_with_grid state.engine (by_fault (if not inside then Err OutOfGrid else if not blocks && occupied then Err Occupied else Ok (to (not blocks)))))) ≡ Some (with_grid state (to true))
toggled state true false false to p q r = refl
toggled state true false true to p q r = cc
toggled state true true occupied to p q r = cc
toggled state false blocks occupied to p q r = cc

pub four_times : (t : Bool) → (t || (t || (t || (t || false)))) ≡ t
four_times true = refl
four_times false = refl

-- the orbit of a cell is the cell alone
block_alone : (grid : Grid) (k : ℕ) → grid.symmetry ≡ kinds.None → is_inside grid (cell_at grid k) ≡ true → length grid.squares ≡ grid.width * grid.height
    → map (λ other. if is_in_orbit grid (cell_at grid k) other then turned true (square_of grid other) else square_of grid other) (cells grid) ≡ set grid.squares k Block
block_alone grid k alone inside long =
    let cell = cell_at grid k in
    let value : Cell → Square = λ other. if is_in_orbit grid cell other then turned true (square_of grid other) else square_of grid other in
    let size : length (map value (cells grid)) ≡ grid.width * grid.height = length-map (cells grid) value ∙ length-cells grid in
    same_lists (map value (cells grid)) (set grid.squares k Block) (size ∙ sym long ∙ sym (length-set grid.squares k Block)) (λ j d within.
    let here : j < grid.width * grid.height = omega (arith, within, size) in
    let there : j < length grid.squares = omega (arith, here, long) in
    let one : moved_by grid.symmetry grid.width grid.height cell ≡ cell = ap (λ kind. moved_by kind grid.width grid.height cell) alone in
    let two : orbit_moved grid (orbit_moved grid cell) ≡ cell = ap (orbit_moved grid) one ∙ one in
    let three : orbit_moved grid (orbit_moved grid (orbit_moved grid cell)) ≡ cell = ap (orbit_moved grid) two ∙ one in
    let t = same_cell (cell_at grid j) cell in
    let tests : is_in_orbit grid cell (cell_at grid j) ≡ eqb j k =
    ap (λ c. t || (same_cell (cell_at grid j) c || (same_cell (cell_at grid j) (orbit_moved grid (orbit_moved grid cell)) || (same_cell (cell_at grid j) (orbit_moved grid (orbit_moved grid (orbit_moved grid cell))) || false)))) one
    ∙ ap (λ c. t || (t || (same_cell (cell_at grid j) c || (same_cell (cell_at grid j) (orbit_moved grid (orbit_moved grid (orbit_moved grid cell))) || false)))) two
    ∙ ap (λ c. t || (t || (t || (same_cell (cell_at grid j) c || false)))) three
    ∙ four_times t ∙ same_cell-cell_at grid j cell inside ∙ ap (eqb j) (index_of-cell_at grid k) in
    let at : square_of grid (cell_at grid j) ≡ get_or grid.squares j d = ap (λ n. get_or grid.squares n Block) (index_of-cell_at grid j) ∙ get_or_default grid.squares j Block d there in
    get_or-map-cells grid value j d here
    ∙ ap (λ b. if b then Block else square_of grid (cell_at grid j)) tests
    ∙ ap (λ square. if eqb j k then Block else square) at
    ∙ sym (get_set grid.squares k Block j d there))

module _ (state : SessionState) (grid : Grid) (is : IsGrid grid) where
  abbrev free : List Square
  free = replicate (grid.width * grid.height) (Open None)

  free_long : length (map bared grid.squares) ≡ length free
  free_long = length-map grid.squares bared ∙ is.squares ∙ sym (length-replicate (grid.width * grid.height) (Open None))

  abbrev standing : ℕ → Grid
  standing k = record grid { squares = mixed (map bared grid.squares) free k; symmetry = kinds.None }

  module _ (k : ℕ) (below : k < grid.width * grid.height) where
    cell_inside : is_inside grid (cell_at grid k) ≡ true
    cell_inside = cell_at-inside grid k is below

    there : k < length (map bared grid.squares)
    there = omega (arith, below, is.squares, length-map grid.squares bared)

    target_at : get_or (map bared grid.squares) k Block ≡ bared (get_or grid.squares k Block)
    target_at = get_or-map bared grid.squares k Block Block (omega (arith, below, is.squares))

    free_at : get_or free k Block ≡ Open None
    free_at = get_or-replicate (grid.width * grid.height) k (Open None) Block below

    block_step : (square : Square) → get_or grid.squares k Block ≡ square → replayed (with_grid state (standing k)) (if is_block_square (Some square) then changes.Block (spot_of (cell_at grid k)) ∷ [] else []) ≡ Some (with_grid state (standing (k + 1)))
    block_step (Open entered) e =
        ap (λ squares. Some (with_squares state (record grid { symmetry = kinds.None }) squares)) (sym (mixed_same (map bared grid.squares) free free_long k Block there (free_at ∙ sym (target_at ∙ ap bared e))))
    block_step Block e =
        let now = standing k in
        let cell = cell_at grid k in
        let long : length now.squares ≡ grid.width * grid.height = length-mixed (map bared grid.squares) free free_long k Block there ∙ length-map grid.squares bared ∙ is.squares in
        let open_now : square_at now cell ≡ Some (Open None) = square_is now k cell_inside (omega (arith, long, below)) ∙ ap Some (mixed_next (map bared grid.squares) free free_long k Block there ∙ free_at) in
        let vacant : is_occupied now cell ≡ false = ap (λ square. let t = is_some (letter_in square) in t || (t || (t || (t || false)))) open_now in
        let more : set now.squares k Block ≡ mixed (map bared grid.squares) free (k + 1) =
        ap (set now.squares k) (sym (target_at ∙ ap bared e)) ∙ sym (mixed_more (map bared grid.squares) free free_long k Block there) in
        next_done (with_grid state now) (with_grid state (standing (k + 1))) (changes.Block (spot_of cell)) []
        (toggled (with_grid state now) (is_inside grid cell) (is_block now cell) (is_occupied now cell) (with_orbit now cell) cell_inside (ap is_block_square open_now) vacant
        ∙ ap (λ squares. Some (with_squares state (record grid { symmetry = kinds.None }) squares)) (block_alone now k refl cell_inside long ∙ more))

    blocks_at : replayed (with_grid state (standing k)) (block_commands grid (cell_at grid k)) ≡ Some (with_grid state (standing (k + 1)))
    blocks_at =
        ap (λ square. replayed (with_grid state (standing k)) (if is_block_square square then changes.Block (spot_of (cell_at grid k)) ∷ [] else [])) (square_is grid k cell_inside (omega (arith, below, is.squares)))
        ∙ block_step (get_or grid.squares k Block) refl

  pub blocks_again : (clues : ClueMap) (circles : List Cell)
      → replayed (with_grid state (record grid { squares = replicate (grid.width * grid.height) (Open None); symmetry = kinds.None })) (part_commands grid clues circles Blocks)
      ≡ Some (with_grid state (record grid { squares = map bared grid.squares; symmetry = kinds.None }))
  blocks_again clues circles =
      each_cell_again grid (cell_commands grid clues circles Blocks) (λ k. with_grid state (standing k)) (λ k below. blocks_at k below)
      ∙ ap (λ squares. Some (with_squares state (record grid { symmetry = kinds.None }) squares)) (mixed_all (map bared grid.squares) free (grid.width * grid.height) free_long (sym (length-map grid.squares bared ∙ is.squares)))
