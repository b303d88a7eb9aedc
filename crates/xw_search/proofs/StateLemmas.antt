-- How letter edits change a state and its position.
use Rattle.std.proofs.Common.{◌≡◌, ℕ, zero, suc, ◌<◌, Bool, true, false, cond, List, [], ◌∷◌, map, length, get_or, set, drop, Option, None, refl, sym, ◌∙◌, ap, subst, arith, length-set}
use Rattle.std.specs.Prelude.{slice_get}
use Rattle.std.proofs.lemmas.Bool.{false≢true}
use Rattle.std.proofs.lemmas.List.{map-set, length-map}
use Rattle.xw_grid.specs.declared.cell.Cell.{Cell}
use Rattle.xw_grid.specs.declared.cell.Square.{Square}
use Rattle.xw_grid.specs.declared.cell.Square.TheVariants.{Block, Open}
use Rattle.xw_grid.specs.declared.lights.Light.{Light}
use Rattle.std.proofs.lemmas.List.Elements.{All-set}
use Rattle.xw_grid.specs.Grid.{Grid, IsSquare, IsGrid, is_inside, is_open, is_open_square, index_of}
use Rattle.xw_grid.specs.Light.{lights_of, cells_of, no_light}
use Rattle.xw_grid.specs.Edit.{with_entry}
use Rattle.xw_grid.proofs.LightLemmas.{inside_from_open, length-line}
use Rattle.xw_feas.specs.Board.{board_of, square_is_open, square_entry, indices_of, light_at}
use Rattle.xw_feas.specs.State.{State}
use Rattle.xw_feas.proofs.BoardLemmas.{length-lights, light_at-board}
use Rattle.xw_grid.proofs.ChangeLemmas.{SameShape-entry, same_opens}
use Rattle.xw_feas.specs.Snapshot.{IsTwin, CanSave}
use Rattle.xw_feas.proofs.SnapshotLemmas.{CanSave-twin}
use Rattle.xw_search.specs.Position.{position_of, with_entries, squares_with, square_with, filled_in, DiffersInEntries}

-- ---- lights by index and by name

pub in_grid_light : (grid : Grid) (light : ℕ) → light < length (board_of grid).lights → light < length (lights_of grid)
in_grid_light grid light below = rw (← length-lights grid) below

pub ruleset light_steps = (length-lights)

-- ---- entries of squares

squares_with-same : (squares : List Square) → squares_with squares (map square_entry squares) ≡ squares
squares_with-same [] = refl
squares_with-same (Block ∷ squares) = ap (λ rest. Block ∷ rest) (squares_with-same squares)
squares_with-same (Open entered ∷ squares) = ap (λ rest. Open entered ∷ rest) (squares_with-same squares)

squares_with-opens : (before now : List Square) → map square_is_open now ≡ map square_is_open before → squares_with before (map square_entry now) ≡ now
squares_with-opens [] [] h = refl
squares_with-opens [] (square ∷ now) h = let long : suc (length (map square_is_open now)) ≡ 0 = ap length h in absurd (omega arith)
squares_with-opens (square ∷ before) [] h = let long : 0 ≡ suc (length (map square_is_open before)) = ap length h in absurd (omega arith)
squares_with-opens (Block ∷ before) (Block ∷ now) h = ap (λ rest. Block ∷ rest) (squares_with-opens before now (ap (λ flags. drop 1 flags) h))
squares_with-opens (Open old ∷ before) (Open new ∷ now) h = ap (λ rest. Open new ∷ rest) (squares_with-opens before now (ap (λ flags. drop 1 flags) h))
squares_with-opens (Block ∷ before) (Open new ∷ now) h = absurd (false≢true (sym (ap (λ flags. get_or flags 0 false) h)))
squares_with-opens (Open old ∷ before) (Block ∷ now) h = absurd (false≢true (ap (λ flags. get_or flags 0 true) h))

square_with-twice : (square : Square) (first second : Option ℕ) → square_with (square_with square first) second ≡ square_with square second
square_with-twice Block first second = refl
square_with-twice (Open entered) first second = refl

squares_with-twice : (squares : List Square) (first second : List (Option ℕ)) → squares_with (squares_with squares first) second ≡ squares_with squares second
squares_with-twice [] first second = refl
squares_with-twice (square ∷ squares) first second = rw (square_with-twice square, squares_with-twice squares) refl

-- ---- states that differ in entries

pub DiffersInEntries-itself : (state : State) → DiffersInEntries state state
unfolding board_of
DiffersInEntries-itself state = ap (λ squares. record state { grid = record (state.grid) { squares = squares } }) (sym (squares_with-same state.grid.squares))

pub DiffersInEntries-then : (first second third : State) → DiffersInEntries first second → DiffersInEntries second third → DiffersInEntries first third
DiffersInEntries-then first second third a b =
    b
    ∙ ap (λ state. filled_in state (board_of third.grid).entries) a
    ∙ ap (λ squares. record first { grid = record (first.grid) { squares = squares } }) (squares_with-twice first.grid.squares (board_of second.grid).entries (board_of third.grid).entries)

pub DiffersInEntries-back : (start first second : State) → DiffersInEntries start first → DiffersInEntries start second → DiffersInEntries first second
DiffersInEntries-back start first second a b =
    b
    ∙ ap (λ squares. record start { grid = record (start.grid) { squares = squares } }) (sym (squares_with-twice start.grid.squares (board_of first.grid).entries (board_of second.grid).entries))
    ∙ ap (λ state. filled_in state (board_of second.grid).entries) (sym a)

-- such states with the same position are equal
pub same_state : (start now : State) → DiffersInEntries start now → position_of now ≡ position_of start → now ≡ start
same_state start now differs same = differs ∙ ap (λ position. filled_in start position.board.entries) same ∙ sym (DiffersInEntries-itself start)

-- ---- an entry of the grid

opens_set : (squares : List Square) (at : ℕ) (letter : Option ℕ) → is_open_square (slice_get squares at) ≡ true → map square_is_open (set squares at (Open letter)) ≡ map square_is_open squares
opens_set [] at letter h = refl
opens_set (Block ∷ squares) zero letter h = absurd (false≢true h)
opens_set (Open entered ∷ squares) zero letter h = refl
opens_set (square ∷ squares) (suc at) letter h = ap (λ rest. square_is_open square ∷ rest) (opens_set squares at letter h)

pub IsGrid-entry : (grid : Grid) (cell : Cell) (letter : Option ℕ) → IsSquare (Open letter) → IsGrid grid → IsGrid (with_entry grid cell letter)
IsGrid-entry grid cell letter good is = record {
  wide = is.wide;
  high = is.high;
  letters = All-set IsSquare grid.squares (index_of grid cell) (Open letter) good is.letters;
  squares = length-set grid.squares (index_of grid cell) (Open letter) ∙ is.squares;
  right = is.right;
  below = is.below;
  turned = is.turned;
}

pub entry_board : (grid : Grid) (cell : Cell) (letter : Option ℕ) → IsGrid grid → is_open grid cell ≡ true → board_of (with_entry grid cell letter) ≡ with_entries (board_of grid) (set (board_of grid).entries (index_of grid cell) letter)
unfolding board_of
entry_board grid cell letter is open_cell =
    let shape = SameShape-entry grid cell letter is open_cell in
    let inside = inside_from_open grid cell open_cell in
    let was : is_open_square (slice_get grid.squares (index_of grid cell)) ≡ true = ap (λ b. is_open_square (cond b (slice_get grid.squares (index_of grid cell)) None)) (sym inside) ∙ open_cell in
    let opens = opens_set grid.squares (index_of grid cell) letter was in
    let entries : map square_entry (set grid.squares (index_of grid cell) (Open letter)) ≡ set (map square_entry grid.squares) (index_of grid cell) letter = map-set square_entry grid.squares (index_of grid cell) (Open letter) in
    λ i. record { lights = map (indices_of grid) (shape.lights i); open_cells = opens i; entries = entries i }

-- a grid that differs only in its squares and has the same open cells
pub differs_in_squares : (state : State) (grid : Grid) → grid ≡ record (state.grid) { squares = grid.squares } → (board_of grid).open_cells ≡ (board_of state.grid).open_cells → DiffersInEntries state (record state { grid = grid })
unfolding board_of
differs_in_squares state grid squares opens =
    ap (λ g. record state { grid = g }) squares
    ∙ ap (λ s. record state { grid = record (state.grid) { squares = s } }) (sym (squares_with-opens state.grid.squares grid.squares opens))

-- ---- placing a word

-- the length of a light
pub light_size : (grid : Grid) (light : ℕ) (found : Light) → light < length (lights_of grid) → found ≡ get_or (lights_of grid) light no_light → length (light_at (board_of grid) light) ≡ found.size
light_size grid light found in_grid is =
    ap length (light_at-board grid light no_light in_grid ∙ ap (indices_of grid) (sym is))
    ∙ length-map (cells_of found) (index_of grid)
    ∙ length-line found.name.direction found.start found.size

-- ---- clearing a cell

-- changing entries keeps the open cells
open_with : (squares : List Square) (entries : List (Option ℕ)) (at : ℕ) → is_open_square (slice_get (squares_with squares entries) at) ≡ is_open_square (slice_get squares at)
open_with [] entries at = refl
open_with (Block ∷ squares) entries zero = refl
open_with (Open entered ∷ squares) entries zero = refl
open_with (square ∷ squares) entries (suc at) = open_with squares (drop 1 entries) at

pub filled_open : (state : State) (entries : List (Option ℕ)) (cell : Cell) → is_open (filled_in state entries).grid cell ≡ is_open state.grid cell
filled_open state entries cell = by_test (is_inside state.grid cell) where
  by_test : (b : Bool) → is_open_square (cond b (slice_get (squares_with state.grid.squares entries) (index_of state.grid cell)) None) ≡ is_open_square (cond b (slice_get state.grid.squares (index_of state.grid cell)) None)
  by_test true = open_with state.grid.squares entries (index_of state.grid cell)
  by_test false = refl

pub differs_open : (before now : State) (cell : Cell) → DiffersInEntries before now → is_open now.grid cell ≡ is_open before.grid cell
differs_open before now cell differs = ap (λ s. is_open s.grid cell) differs ∙ filled_open before (board_of now.grid).entries cell

-- ---- states that differ in entries

length-squares_with : (squares : List Square) (entries : List (Option ℕ)) → length (squares_with squares entries) ≡ length squares
length-squares_with [] entries = refl
length-squares_with (square ∷ squares) entries = ap suc (length-squares_with squares (drop 1 entries))

pub filled_twin : (state : State) (entries : List (Option ℕ)) → IsTwin state (filled_in state entries)
filled_twin state entries = record {
  shape = record {
    lights = same_opens state.grid (is_open (filled_in state entries).grid) (filled_open state entries);
    opens = filled_open state entries;
    cells = length-squares_with state.grid.squares entries;
  };
  words = refl;
}

-- states that differ only in entries are twins
pub IsTwin-entries : (before now : State) → DiffersInEntries before now → IsTwin before now
IsTwin-entries before now differs = subst (IsTwin before) (sym differs) (filled_twin before (board_of now.grid).entries)

pub CanSave-entries : (before now : State) → DiffersInEntries before now → CanSave before now
CanSave-entries before now differs = CanSave-twin before now (IsTwin-entries before now differs)
