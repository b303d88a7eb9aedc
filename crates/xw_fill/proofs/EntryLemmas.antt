-- The lists of entered cells, and what writing them does to the entries.
use Rattle.std.proofs.Common.{◌≡◌, ℕ, zero, suc, ◌+◌, ◌*◌, ◌<◌, ◌≤◌, true, false, List, [], ◌∷◌, ◌++◌, map, take, drop, length, get_or, set, Option, Some, None, refl, sym, ◌∙◌, ap, subst, arith, inl, inr}
use Rattle.std.specs.Prelude.{◌⊎◌, All, Contains, is_some}
use Rattle.std.specs.List.Sorted.{IsPermutation}
use Rattle.std.proofs.lemmas.Bool.{cases_eq, false≢true}
use Rattle.std.proofs.lemmas.List.{length-map, get_or-map, take_more, take_more_set, length-set, get_or-set_same, get_or-set_other}
use Rattle.std.proofs.lemmas.List.Elements.{All-nil, All-head, All-tail, All-drop, All-push, All-map, All-weaker, Contains-push, Contains-append_left}
use Rattle.std.proofs.lemmas.List.Sorted.{All-permutation, Contains-permutation}
use Rattle.xw_letters.specs.Letter.{IsLetter}
use Rattle.xw_grid.specs.declared.cell.Cell.{Cell}
use Rattle.xw_grid.specs.declared.cell.Square.{Square}
use Rattle.xw_grid.specs.declared.cell.Square.TheVariants.{Block, Open}
use Rattle.xw_grid.specs.Grid.{Grid, IsGrid, IsSquare, is_open, index_of, cell_at}
use Rattle.xw_grid.proofs.GridLemmas.{index_of-cell_at}
use Rattle.xw_feas.specs.Board.{board_of, square_is_open, square_entry, is_open as board_is_open}
use Rattle.xw_feas.specs.State.{State}
use Rattle.xw_feas.specs.WellFormed.{IsWellFormed}
use Rattle.xw_feas.proofs.BoardLemmas.{length-entries}
use Rattle.xw_feas.proofs.ChangesLemmas.{open_index}
use Rattle.xw_fill.specs.Reason.{entry_in, IsPart, no_entries}
use Rattle.xw_search.specs.Writing.{entries_of, CanBeWritten, by_index, written_in}
use Rattle.xw_fill.specs.Sparing.{emptied, IsListOf}
use Rattle.xw_fill.proofs.WritingLemmas.{written_is}

-- ---- entries

-- a cell with an entry is on the board
pub entry_within : (entries : List (Option ℕ)) (cell letter : ℕ) → entry_in entries cell ≡ Some letter → cell < length entries
entry_within [] cell letter h = cc
entry_within (entry ∷ entries) zero letter h = omega arith
entry_within (entry ∷ entries) (suc cell) letter h = let below = entry_within entries cell letter h in omega arith

pub cell_within : (grid : Grid) (cell : ℕ) → IsGrid grid → cell < length (board_of grid).entries → cell < grid.width * grid.height
cell_within grid cell is below = omega (arith, below, length-entries grid, is.squares)

opens_square : (squares : List Square) (cell letter : ℕ) → get_or (map square_entry squares) cell None ≡ Some letter → get_or (map square_is_open squares) cell false ≡ true
opens_square [] cell letter h = cc
opens_square (Block ∷ squares) zero letter h = cc
opens_square (Open entered ∷ squares) zero letter h = refl
opens_square (square ∷ squares) (suc cell) letter h = opens_square squares cell letter h

opens_entry : (grid : Grid) (cell letter : ℕ) → entry_in (board_of grid).entries cell ≡ Some letter → board_is_open (board_of grid) cell ≡ true
unfolding board_of
opens_entry grid cell letter h = opens_square grid.squares cell letter h

-- a cell with an entry is open
pub entered_open : (grid : Grid) (cell letter : ℕ) → IsGrid grid → entry_in (board_of grid).entries cell ≡ Some letter → is_open grid (cell_at grid cell) ≡ true
entered_open grid cell letter is h = open_index grid cell is (cell_within grid cell is (entry_within (board_of grid).entries cell letter h)) ∙ opens_entry grid cell letter h

-- a cell without an entry has none in a part of the entries
pub none_in : (part entries : List (Option ℕ)) (cell : ℕ) → IsPart part entries → entry_in entries cell ≡ None → entry_in part cell ≡ None
none_in part entries cell is none = by_entry (entry_in part cell) refl where
  by_entry : (o : Option ℕ) → entry_in part cell ≡ o → entry_in part cell ≡ None
  by_entry None e = e
  by_entry (Some letter) e = let there = is.kept cell letter e in cc

pub IsPart-itself : (entries : List (Option ℕ)) → IsPart entries entries
IsPart-itself entries = record { long = refl; kept = λ cell letter h. h }

pub IsPart-then : (first second third : List (Option ℕ)) → IsPart second first → IsPart third second → IsPart third first
IsPart-then first second third a b = record { long = b.long ∙ a.long; kept = λ cell letter h. a.kept cell letter (b.kept cell letter h) }

-- a part with one more of the entries
IsPart-entered : (part entries : List (Option ℕ)) (cell : ℕ) → IsPart part entries → IsPart (set part cell (entry_in entries cell)) entries
IsPart-entered part entries cell is = record { long = length-set part cell (entry_in entries cell) ∙ is.long; kept = λ other letter h. by_cell other letter (cases_eq other cell) h } where
  by_cell : (other letter : ℕ) → (other ≡ cell) ⊎ (other ≡ cell → ⊥) → entry_in (set part cell (entry_in entries cell)) other ≡ Some letter → entry_in entries other ≡ Some letter
  by_cell other letter (inl here) h =
      let below = entry_within (set part cell (entry_in entries cell)) other letter h in
      ap (entry_in entries) here
      ∙ sym (get_or-set_same part cell (entry_in entries cell) None (omega (arith, below, length-set part cell (entry_in entries cell), here)))
      ∙ ap (entry_in (set part cell (entry_in entries cell))) (sym here) ∙ h
  by_cell other letter (inr apart) h = is.kept other letter (sym (get_or-set_other part cell other (entry_in entries cell) None apart) ∙ h)

-- and with those of a list
pub IsPart-written : (list : List (ℕ × Option ℕ)) (part entries : List (Option ℕ)) → All (λ written. written.1 ≡ entry_in entries written.0) list → IsPart part entries → IsPart (written_in part list) entries
IsPart-written [] part entries sound is = is
IsPart-written (first ∷ list) part entries sound is =
    let holds = All-head (λ written. written.1 ≡ entry_in entries written.0) first list sound in
    IsPart-written list (set part first.0 first.1) entries (All-tail (λ written. written.1 ≡ entry_in entries written.0) first list sound)
    (subst (λ entry. IsPart (set part first.0 entry) entries) (sym holds) (IsPart-entered part entries first.0 is))

pub no_entry : (entries : List (Option ℕ)) (cell : ℕ) → entry_in (no_entries entries) cell ≡ None
no_entry [] cell = refl
no_entry (entry ∷ entries) zero = refl
no_entry (entry ∷ entries) (suc cell) = no_entry entries cell

pub IsPart-none : (entries : List (Option ℕ)) → IsPart (no_entries entries) entries
IsPart-none entries = record { long = length-map entries (λ entry. None); kept = λ cell letter h. let none = no_entry entries cell in cc }

-- one more entry is noted
pub next_entry : (noted entries : List (Option ℕ)) (k : ℕ) (entry : Option ℕ) → k < length noted → k < length entries → take k noted ≡ take k entries → entry ≡ entry_in entries k → take (k + 1) (set noted k entry) ≡ take (k + 1) entries
next_entry noted entries k entry below within same is =
    take_more_set noted k entry below ∙ ap (λ front. front ++ entry ∷ []) same ∙ ap (λ e. take k entries ++ e ∷ []) is ∙ sym (take_more entries k None within)

-- ---- the list of the entered cells

-- the entered cells among the first n
pub record IsListBelow (state : State) (n : ℕ) (list : List (Cell × Option ℕ)) : Type 0 where
  pub sound : All (λ written. (is_open state.grid written.0 ≡ true) × (written.1 ≡ entry_in (entries_of state) (index_of state.grid written.0))) list
  pub all : (cell letter : ℕ) → cell < n → entry_in (entries_of state) cell ≡ Some letter → Contains list (cell_at state.grid cell, entry_in (entries_of state) cell)

pub list_none : (state : State) (list : List (Cell × Option ℕ)) → list ≡ [] → IsListBelow state 0 list
list_none state list is = record {
  sound = subst (All (λ written. (is_open state.grid written.0 ≡ true) × (written.1 ≡ entry_in (entries_of state) (index_of state.grid written.0)))) (sym is) (All-nil _);
  all = λ cell letter below h. absurd (omega (arith, below));
}

pub list_more : (state : State) (n : ℕ) (list more : List (Cell × Option ℕ)) (cell : Cell) (letter : Option ℕ) → IsGrid state.grid → cell ≡ cell_at state.grid n → letter ≡ entry_in (entries_of state) n → is_some letter ≡ true
    → IsListBelow state n list → more ≡ list ++ (cell, letter) ∷ [] → IsListBelow state (n + 1) more
list_more state n list more cell letter is cell_is letter_is some so_far more_is = subst (IsListBelow state (n + 1)) (sym more_is) (record {
  sound = All-push (λ written. (is_open state.grid written.0 ≡ true) × (written.1 ≡ entry_in (entries_of state) (index_of state.grid written.0))) list (cell, letter) so_far.sound
      (opened letter letter_is some, letter_is ∙ sym (ap (entry_in (entries_of state)) (ap (index_of state.grid) cell_is ∙ index_of-cell_at state.grid n)));
  all = λ other code below h. elim (cases_eq other n) [
    | inl here ↦ subst (Contains (list ++ (cell, letter) ∷ [])) (same other here) (Contains-push list (cell, letter))
    | inr apart ↦ Contains-append_left list ((cell, letter) ∷ []) (cell_at state.grid other, entry_in (entries_of state) other) (so_far.all other code (omega (arith, below, apart)) h)
  ];
}) where
  opened : (o : Option ℕ) → o ≡ entry_in (entries_of state) n → is_some o ≡ true → is_open state.grid cell ≡ true
  opened None e h = absurd (false≢true h)
  opened (Some code) e h = ap (is_open state.grid) cell_is ∙ entered_open state.grid n code is (sym e)

  same : (other : ℕ) → other ≡ n → ◌≡◌ {A = Cell × Option ℕ} (cell, letter) (cell_at state.grid other, entry_in (entries_of state) other)
  same other here = λ i. ((cell_is ∙ ap (cell_at state.grid) (sym here)) i, (letter_is ∙ ap (entry_in (entries_of state)) (sym here)) i)

pub list_same : (state : State) (n : ℕ) (list : List (Cell × Option ℕ)) (letter : Option ℕ) → letter ≡ entry_in (entries_of state) n → is_some letter ≡ false → IsListBelow state n list → IsListBelow state (n + 1) list
list_same state n list letter letter_is none so_far = record {
  sound = so_far.sound;
  all = λ other code below h. elim (cases_eq other n) [
    | inl here ↦ absurd (false≢true (sym none ∙ ap is_some (letter_is ∙ ap (entry_in (entries_of state)) (sym here) ∙ h)))
    | inr apart ↦ so_far.all other code (omega (arith, below, apart)) h
  ];
}

pub list_all : (state : State) (n : ℕ) (list : List (Cell × Option ℕ)) → length (entries_of state) ≤ n → IsListBelow state n list → IsListOf state (entries_of state) list
list_all state n list end so_far = record {
  sound = so_far.sound;
  all = λ cell letter h. so_far.all cell letter (let below = entry_within (entries_of state) cell letter h in omega (arith, below, end)) h;
}

-- the order does not matter
pub list_sorted : (state : State) (entries : List (Option ℕ)) (list sorted : List (Cell × Option ℕ)) → IsPermutation list sorted → IsListOf state entries list → IsListOf state entries sorted
list_sorted state entries list sorted moved is = record {
  sound = All-permutation (λ written. (is_open state.grid written.0 ≡ true) × (written.1 ≡ entry_in entries (index_of state.grid written.0))) list sorted moved is.sound;
  all = λ cell letter h. Contains-permutation list sorted (cell_at state.grid cell, entry_in entries cell) moved (is.all cell letter h);
}

contains_map : {X Y : Type 0} (f : X → Y) (xs : List X) (x : X) → Contains xs x → Contains (map f xs) (f x)
contains_map f xs x there = (there.0, omega (arith, length-map xs f, there.1), get_or-map f xs there.0 x (f x) there.1 ∙ ap f there.2)

-- the same cells, to be emptied
pub list_emptied : (state : State) (list : List (Cell × Option ℕ)) → IsListOf state (entries_of state) list → IsListOf state (no_entries (entries_of state)) (map emptied list)
list_emptied state list is = record {
  sound = All-map (λ written. (is_open state.grid written.0 ≡ true) × (written.1 ≡ entry_in (no_entries (entries_of state)) (index_of state.grid written.0))) emptied list
      (All-weaker (λ written. (is_open state.grid written.0 ≡ true) × (written.1 ≡ entry_in (entries_of state) (index_of state.grid written.0)))
      (λ written. (is_open state.grid written.0 ≡ true) × (None ≡ entry_in (no_entries (entries_of state)) (index_of state.grid written.0)))
      (λ written h. (h.0, sym (no_entry (entries_of state) (index_of state.grid written.0)))) list is.sound);
  all = λ cell letter h.
      let none = no_entry (entries_of state) cell in
      subst (λ (entry : Option ℕ). Contains (map emptied list) (cell_at state.grid cell, entry)) (sym none)
      (contains_map emptied list (cell_at state.grid cell, entry_in (entries_of state) cell) (is.all cell letter h));
}

-- ---- writing it

letter_square : (entries : List (Option ℕ)) (cell : ℕ) → ((letter : ℕ) → entry_in entries cell ≡ Some letter → IsLetter letter) → IsSquare (Open (entry_in entries cell))
letter_square entries cell letters = by_entry (entry_in entries cell) refl where
  by_entry : (o : Option ℕ) → entry_in entries cell ≡ o → IsSquare (Open o)
  by_entry None e = tt
  by_entry (Some letter) e = letters letter e

-- a list that holds a part of the entries can be written
pub list_good : (state : State) (part : List (Option ℕ)) (list : List (Cell × Option ℕ)) → IsWellFormed state → IsPart part (entries_of state) → IsListOf state part list → All (CanBeWritten state.grid) list
list_good state part list formed is_part is =
    All-weaker (λ written. (is_open state.grid written.0 ≡ true) × (written.1 ≡ entry_in part (index_of state.grid written.0))) (CanBeWritten state.grid)
    (λ written h. (h.0, subst (λ o. IsSquare (Open o)) (sym h.1) (letter_square part (index_of state.grid written.0) (λ letter e. formed.board.letters (index_of state.grid written.0) letter (is_part.kept (index_of state.grid written.0) letter e)))))
    list is.sound

-- so can its last cells
pub list_good_from : (state : State) (part : List (Option ℕ)) (list : List (Cell × Option ℕ)) (from : ℕ) → IsWellFormed state → IsPart part (entries_of state) → IsListOf state part list → All (CanBeWritten state.grid) (drop from list)
list_good_from state part list from formed is_part is = All-drop (CanBeWritten state.grid) from list (list_good state part list formed is_part is)

-- they add to a part of the entries
pub list_part_from : (state : State) (now : List (Option ℕ)) (list : List (Cell × Option ℕ)) (from : ℕ) → IsListOf state (entries_of state) list → IsPart now (entries_of state) → IsPart (written_in now (by_index state.grid (drop from list))) (entries_of state)
list_part_from state now list from is part =
    IsPart-written (by_index state.grid (drop from list)) now (entries_of state)
    (All-map (λ written. written.1 ≡ entry_in (entries_of state) written.0) (λ written. (index_of state.grid written.0, written.1)) (drop from list)
    (All-drop (λ written. written.1 ≡ entry_in (entries_of state) (index_of state.grid written.0)) from list
    (All-weaker (λ written. (is_open state.grid written.0 ≡ true) × (written.1 ≡ entry_in (entries_of state) (index_of state.grid written.0)))
    (λ written. written.1 ≡ entry_in (entries_of state) (index_of state.grid written.0)) (λ written h. h.1) list is.sound)))
    part

-- writing the list leads to its entries from any part of the entries
pub list_written : (state : State) (now part : List (Option ℕ)) (list : List (Cell × Option ℕ)) → IsPart now (entries_of state) → IsPart part (entries_of state) → IsListOf state part list → written_in now (by_index state.grid list) ≡ part
list_written state now part list now_is part_is is =
    written_is (by_index state.grid list) now part (now_is.long ∙ sym part_is.long)
    (All-map (λ written. written.1 ≡ entry_in part written.0) (λ written. (index_of state.grid written.0, written.1)) list (All-weaker (λ written. (is_open state.grid written.0 ≡ true) × (written.1 ≡ entry_in part (index_of state.grid written.0)))
    (λ written. written.1 ≡ entry_in part (index_of state.grid written.0)) (λ written h. h.1) list is.sound))
    (λ cell below. by_entry cell (entry_in (entries_of state) cell) refl) where
      by_entry : (cell : ℕ) (o : Option ℕ) → entry_in (entries_of state) cell ≡ o → (entry_in now cell ≡ entry_in part cell) ⊎ Contains (map (λ written. written.0) (by_index state.grid list)) cell
      by_entry cell None e = inl (none_in now (entries_of state) cell now_is e ∙ sym (none_in part (entries_of state) cell part_is e))
      by_entry cell (Some letter) e =
          inr (subst (Contains (map (λ written. written.0) (by_index state.grid list))) (index_of-cell_at state.grid cell)
          (contains_map (λ (written : ℕ × Option ℕ). written.0) (by_index state.grid list) (index_of state.grid (cell_at state.grid cell), entry_in part cell)
          (contains_map (λ (written : Cell × Option ℕ). (index_of state.grid written.0, written.1)) list (cell_at state.grid cell, entry_in part cell) (is.all cell letter e))))
