-- Lemmas about the cells whose letters differ.
use Rattle.std.proofs.Common.{◌≡◌, ℕ, suc, ◌+◌, ◌-◌, ◌*◌, ◌<◌, true, false, cond, not, ◌&&◌, List, [], ◌∷◌, map, get_or, refl, sym, ◌∙◌, ap, arith}
use Rattle.std.specs.Prelude.{bytes_eq}
use Rattle.std.specs.List.{range_with_len}
use Rattle.std.proofs.lemmas.List.Elements.{filter_agree}
use Rattle.xw_grid.specs.Grid.{Grid, IsGrid, cell_at, index_of, is_open as grid_is_open, is_open_square}
use Rattle.std.specs.Prelude.{slice_get, None}
use Rattle.xw_grid.proofs.GridLemmas.{cell_at-inside, index_of-cell_at}
use Rattle.xw_feas.specs.Board.{board_of, is_open}
use Rattle.xw_feas.specs.Feasible.{Answers}
use Rattle.xw_feas.specs.Changes.{letters_of, letters_at, cells_that_differ, changes, changed_sets, spelled_out}
use Rattle.xw_feas.proofs.BoardLemmas.{is_open-square}

-- a cell of the grid is open if and only if it is open on the board
pub open_index : (grid : Grid) (index : ℕ) → IsGrid grid → index < grid.width * grid.height → grid_is_open grid (cell_at grid index) ≡ is_open (board_of grid) index
open_index grid index is within =
    let inside = cell_at-inside grid index is within in
    ap (λ b. is_open_square (cond b (slice_get grid.squares (index_of grid (cell_at grid index))) None)) inside
    ∙ ap (λ n. is_open_square (slice_get grid.squares n)) (index_of-cell_at grid index)
    ∙ sym (is_open-square grid index)

-- one more cell of the iteration
cells_that_differ-more : (grid : Grid) (before after : ℕ → List ℕ) (index : ℕ) → index < grid.width * grid.height → cells_that_differ grid before after index ≡ cond (is_open (board_of grid) index && not (bytes_eq (before index) (after index))) (index ∷ cells_that_differ grid before after (index + 1)) (cells_that_differ grid before after (index + 1))
cells_that_differ-more grid before after index below =
    let left : grid.width * grid.height - index ≡ suc (grid.width * grid.height - (index + 1)) = omega arith in
    rw left refl

pub changes-here : (grid : Grid) (before after : List ℕ) (index : ℕ) → index < grid.width * grid.height → is_open (board_of grid) index ≡ true → bytes_eq (letters_at before index) (letters_at after index) ≡ false → changed_sets grid before after index ≡ (cell_at grid index, get_or after index 0) ∷ changed_sets grid before after (index + 1)
changes-here grid before after index below is apart =
    let rest = cells_that_differ grid (letters_at before) (letters_at after) (index + 1) in
    let one : cond (is_open (board_of grid) index && not (bytes_eq (letters_at before index) (letters_at after index))) (index ∷ rest) rest ≡ index ∷ rest = rw (is, apart) refl in
    ap (map (λ p. (cell_at grid p, get_or after p 0))) (cells_that_differ-more grid (letters_at before) (letters_at after) index below ∙ one)

pub changes-not : (grid : Grid) (before after : List ℕ) (index : ℕ) → index < grid.width * grid.height → (is_open (board_of grid) index && not (bytes_eq (letters_at before index) (letters_at after index))) ≡ false → changed_sets grid before after index ≡ changed_sets grid before after (index + 1)
changes-not grid before after index below none =
    let rest = cells_that_differ grid (letters_at before) (letters_at after) (index + 1) in
    let same : cond (is_open (board_of grid) index && not (bytes_eq (letters_at before index) (letters_at after index))) (index ∷ rest) rest ≡ rest = rw none refl in
    ap (map (λ p. (cell_at grid p, get_or after p 0))) (cells_that_differ-more grid (letters_at before) (letters_at after) index below ∙ same)

spelled-cells : (grid : Grid) (sets : List ℕ) (answers : Answers) → ((index : ℕ) → letters_of answers index ≡ letters_at sets index) → (indices : List ℕ) → spelled_out (map (λ p. (cell_at grid p, get_or sets p 0)) indices) ≡ map (λ p. (cell_at grid p, letters_of answers p)) indices
spelled-cells grid sets answers same [] = refl
spelled-cells grid sets answers same (index ∷ indices) =
    ap (λ ls. (cell_at grid index, ls) ∷ spelled_out (map (λ p. (cell_at grid p, get_or sets p 0)) indices)) (sym (same index))
    ∙ ap (λ rest. (cell_at grid index, letters_of answers index) ∷ rest) (spelled-cells grid sets answers same indices)

-- the changed sets from the first cell on are the changes of the answers
pub changes_told : (grid : Grid) (before after : List ℕ) (answers_before answers_after : Answers) → ((index : ℕ) → letters_of answers_before index ≡ letters_at before index) → ((index : ℕ) → letters_of answers_after index ≡ letters_at after index) → spelled_out (changed_sets grid before after 0) ≡ changes grid answers_before answers_after
changes_told grid before after answers_before answers_after first second =
    spelled-cells grid after answers_after second (cells_that_differ grid (letters_at before) (letters_at after) 0)
    ∙ ap (map (λ p. (cell_at grid p, letters_of answers_after p)))
    (filter_agree (λ index. is_open (board_of grid) index && not (bytes_eq (letters_at before index) (letters_at after index))) (λ index. is_open (board_of grid) index && not (bytes_eq (letters_of answers_before index) (letters_of answers_after index)))
    (λ index. ap (λ ls. is_open (board_of grid) index && not (bytes_eq ls (letters_at after index))) (sym (first index)) ∙ ap (λ ls. is_open (board_of grid) index && not (bytes_eq (letters_of answers_before index) ls)) (sym (second index)))
    (range_with_len 0 (grid.width * grid.height - 0)))
