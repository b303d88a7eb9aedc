-- What writing a list of cells does to a state.
use Rattle.std.proofs.Common.{◌≡◌, ℕ, zero, suc, ◌<◌, true, false, cond, List, [], ◌∷◌, map, length, get_or, set, Option, None, refl, sym, ◌∙◌, ap, arith, inl, inr}
use Rattle.std.specs.Prelude.{◌⊎◌, All, Contains, slice_get}
use Rattle.std.proofs.lemmas.Bool.{cases_eq}
use Rattle.std.proofs.lemmas.List.{ext_get_or, length-set, get_or-set_same, get_or-set_other}
use Rattle.std.proofs.lemmas.List.Elements.{All-head, All-tail}
use Rattle.xw_grid.specs.declared.cell.Cell.{Cell}
use Rattle.xw_grid.specs.declared.cell.Square.{Square}
use Rattle.xw_grid.specs.declared.cell.Square.TheVariants.{Block, Open}
use Rattle.xw_grid.specs.Grid.{Grid, is_open, index_of, letter_in, entry as grid_entry}
use Rattle.xw_grid.specs.Light.{lights_of}
use Rattle.xw_grid.proofs.LightLemmas.{inside_from_open}
use Rattle.xw_feas.specs.Board.{board_of, square_is_open, square_entry, indices_of}
use Rattle.xw_feas.specs.State.{State}
use Rattle.xw_search.specs.Position.{position_of, holding, squares_with, filled_in, DiffersInEntries}
use Rattle.xw_search.proofs.StateLemmas.{DiffersInEntries-itself, IsTwin-entries}
use Rattle.xw_fill.specs.Reason.{entry_in}
use Rattle.xw_search.specs.Writing.{entries_of, written_in}

-- ---- states that differ in entries

opens_with : (squares : List Square) (entries : List (Option ℕ)) → map square_is_open (squares_with squares entries) ≡ map square_is_open squares
opens_with [] entries = refl
opens_with (Block ∷ squares) entries = ap (λ rest. false ∷ rest) (opens_with squares _)
opens_with (Open entered ∷ squares) entries = ap (λ rest. true ∷ rest) (opens_with squares _)

-- a state that differs from the start only in entries has the start's position with these entries
pub position_at : (start now : State) → DiffersInEntries start now → position_of now ≡ holding (position_of start) (entries_of now)
unfolding board_of
position_at start now differs =
    let twin = IsTwin-entries start now differs in
    let lights : map (indices_of now.grid) (lights_of now.grid) ≡ map (indices_of start.grid) (lights_of start.grid) =
    ap (λ (s : State). map (indices_of s.grid) (lights_of now.grid)) differs ∙ ap (map (indices_of start.grid)) twin.shape.lights in
    let opens : map square_is_open now.grid.squares ≡ map square_is_open start.grid.squares =
    ap (λ (s : State). map square_is_open s.grid.squares) differs ∙ opens_with start.grid.squares (entries_of now) in
    λ i. record { board = record { lights = lights i; open_cells = opens i; entries = entries_of now }; words = twin.words i }

-- such a state with the same entries is the start
pub same_entries : (start now : State) → DiffersInEntries start now → entries_of now ≡ entries_of start → now ≡ start
same_entries start now differs same = differs ∙ ap (filled_in start) same ∙ sym (DiffersInEntries-itself start)

-- ---- the entry of an open cell

entry_square : (squares : List Square) (k : ℕ) → letter_in (slice_get squares k) ≡ get_or (map square_entry squares) k None
entry_square [] k = refl
entry_square (square ∷ squares) zero = refl
entry_square (square ∷ squares) (suc k) = entry_square squares k

pub entry_of_open : (grid : Grid) (cell : Cell) → is_open grid cell ≡ true → grid_entry grid cell ≡ entry_in (board_of grid).entries (index_of grid cell)
unfolding board_of
entry_of_open grid cell opens =
    ap (λ b. letter_in (cond b (slice_get grid.squares (index_of grid cell)) None)) (inside_from_open grid cell opens)
    ∙ entry_square grid.squares (index_of grid cell)

-- ---- the entries after a list was written

-- the list has the wanted entry of each of its cells, and it has every cell whose entry differs from the wanted one
pub written_is : (list : List (ℕ × Option ℕ)) (now to : List (Option ℕ)) → length now ≡ length to → All (λ written. written.1 ≡ entry_in to written.0) list
    → ((cell : ℕ) → cell < length to → (entry_in now cell ≡ entry_in to cell) ⊎ Contains (map (λ written. written.0) list) cell)
    → written_in now list ≡ to
written_is [] now to long sound all = ext_get_or None now to long (λ cell below. elim (all cell (omega (arith, long, below))) [
  | inl same ↦ same
  | inr there ↦ absurd (omega (arith, there.1))
])
written_is (first ∷ list) now to long sound all =
    let holds = All-head (λ written. written.1 ≡ entry_in to written.0) first list sound in
    written_is list (set now first.0 first.1) to (length-set now first.0 first.1 ∙ long) (All-tail (λ written. written.1 ≡ entry_in to written.0) first list sound)
    (λ cell below. by_cell cell below holds (cases_eq cell first.0) (all cell below)) where
      later : (cell : ℕ) → (cell ≡ first.0 → ⊥) → Contains (first.0 ∷ map (λ written. written.0) list) cell → Contains (map (λ written. written.0) list) cell
      later cell apart (zero, below, is) = absurd (apart (sym is))
      later cell apart (suc k, below, is) = (k, omega (arith, below), is)

      by_cell : (cell : ℕ) → cell < length to → first.1 ≡ entry_in to first.0 → (cell ≡ first.0) ⊎ (cell ≡ first.0 → ⊥) → (entry_in now cell ≡ entry_in to cell) ⊎ Contains (first.0 ∷ map (λ written. written.0) list) cell
          → (entry_in (set now first.0 first.1) cell ≡ entry_in to cell) ⊎ Contains (map (λ written. written.0) list) cell
      by_cell cell below holds (inl here) either =
          inl (ap (entry_in (set now first.0 first.1)) here ∙ get_or-set_same now first.0 first.1 None (omega (arith, long, below, here)) ∙ holds ∙ sym (ap (entry_in to) here))
      by_cell cell below holds (inr apart) (inl same) = inl (get_or-set_other now first.0 cell first.1 None apart ∙ same)
      by_cell cell below holds (inr apart) (inr there) = inr (later cell apart there)
