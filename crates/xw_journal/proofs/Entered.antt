-- The entries of a grid, in reading order.
use Rattle.std.proofs.Common.{◌≡◌, ◌≢◌, ℕ, ◌+◌, ◌*◌, ◌<◌, List, ◌∷◌, ◌++◌, [], append-nil, length, get_or, map, flat_map, take, drop, Some, None, refl, sym, ◌∙◌, ap, inl, inr, Bool, true, false, codes, arith}
use Rattle.std.specs.Prelude.{◌⊎◌, Option, is_some, slice_get, if◌then◌else◌}
use Rattle.std.specs.List.{range_with_len}
use Rattle.std.proofs.lemmas.List.{take_more, take-append-drop, drop_more, length-map}
use Rattle.std.proofs.lemmas.Grind.{flat_map-append}
use Rattle.xw_commands.specs.declared.change.Change.{Change}
use Rattle.xw_grid.specs.declared.cell.Cell.{Cell}
use Rattle.std.proofs.lemmas.Option.{slice_get-get_or}
use Rattle.xw_grid.specs.Grid.{Grid, cells, cell_at, cell_in, entry}
use Rattle.xw_grid.proofs.GridLemmas.{length-cells, get_or-map-cells}
use Rattle.xw_answers.specs.Record.{command_lines, letter_commands}
use Rattle.xw_answers.proofs.LightTexts.{cell_in_order}
use Rattle.xw_journal.specs.Group.{grouped}
use Rattle.xw_journal.specs.Journal.{entered_at, entered_commands, entries_of, is_same_entry, HasEntriesBefore}

-- grids of the same size have the same cells
pub cells_alike : (was grid : Grid) → was.width ≡ grid.width → was.height ≡ grid.height → cells was ≡ cells grid
cells_alike was grid width height =
    ap (λ w. map (cell_in w) (range_with_len 0 (w * was.height))) width
    ∙ ap (λ h. map (cell_in grid.width) (range_with_len 0 (grid.width * h))) height

-- the entry before of the cell at an index
pub entry_before : (was grid : Grid) (entries : List (Option ℕ)) (k : ℕ) → HasEntriesBefore was grid entries → k < grid.width * grid.height
    → slice_get entries k ≡ Some (entry was (cell_at grid k))
entry_before was grid entries k h below =
    let is : entries ≡ map (entry was) (cells grid) = h.entries-are ∙ ap (map (entry was)) (cells_alike was grid h.width h.height) in
    let within : k < length (map (entry was) (cells grid)) = omega (arith, below, length-map (cells grid) (entry was), length-cells grid) in
    ap (λ xs. slice_get xs k) is ∙ slice_get-get_or (map (entry was) (cells grid)) k None within ∙ ap Some (get_or-map-cells grid (entry was) k None below)

-- ---- whether a search entered anything

nothing_joined : (front rest : List Change) → front ++ rest ≡ [] → (front ≡ []) × (rest ≡ [])
nothing_joined [] rest e = (refl, e)
nothing_joined (command ∷ front) rest e = cc

module _ (was grid : Grid) (k : ℕ) (below : k < grid.width * grid.height) where
  within : k < length (cells grid)
  within = omega (arith, below, length-cells grid)

  here : Cell
  here = cell_at grid k

  pub none_so_far : entered_at was grid (cell_at grid k) ≡ [] → flat_map (entered_at was grid) (take k (cells grid)) ≡ [] → flat_map (entered_at was grid) (take (k + 1) (cells grid)) ≡ []
  none_so_far none before =
      ap (flat_map (entered_at was grid)) (take_more (cells grid) k (cell_at grid k) within)
      ∙ flat_map-append (entered_at was grid) (take k (cells grid)) (get_or (cells grid) k (cell_at grid k) ∷ [])
      ∙ ap (λ xs. xs ++ (entered_at was grid (get_or (cells grid) k (cell_at grid k)) ++ [])) before
      ∙ append-nil (entered_at was grid (get_or (cells grid) k (cell_at grid k)))
      ∙ ap (entered_at was grid) (cell_in_order grid k (cell_at grid k) below) ∙ none

  pub some_entered : entered_at was grid (cell_at grid k) ≢ [] → entered_commands was grid ≢ []
  some_entered some none =
      let parts : cells grid ≡ take k (cells grid) ++ cell_at grid k ∷ drop (k + 1) (cells grid) =
      sym (take-append-drop k (cells grid)) ∙ ap (λ xs. take k (cells grid) ++ xs) (drop_more (cells grid) k (cell_at grid k) within ∙ ap (λ c. c ∷ drop (k + 1) (cells grid)) (cell_in_order grid k (cell_at grid k) below)) in
      let all = sym (ap (flat_map (entered_at was grid)) parts ∙ flat_map-append (entered_at was grid) (take k (cells grid)) (cell_at grid k ∷ drop (k + 1) (cells grid))) ∙ none in
      some (nothing_joined (entered_at was grid (cell_at grid k)) (flat_map (entered_at was grid) (drop (k + 1) (cells grid))) (nothing_joined (flat_map (entered_at was grid) (take k (cells grid))) (entered_at was grid (cell_at grid k) ++ flat_map (entered_at was grid) (drop (k + 1) (cells grid))) all).1).0

-- no command for a cell without a letter, or with the entry that it had
pub none_at : (was grid : Grid) (cell : Cell) → (entry grid cell ≡ None) ⊎ (is_same_entry (entry was cell) (entry grid cell) ≡ true) → entered_at was grid cell ≡ []
none_at was grid cell (inl empty) = ap (λ e. if is_same_entry (entry was cell) e then [] else letter_commands cell e) empty ∙ by_test (is_same_entry (entry was cell) None) where
  by_test : (t : Bool) → (if t then [] else letter_commands cell None) ≡ []
  by_test true = refl
  by_test false = refl
none_at was grid cell (inr same) = ap (λ t. if t then [] else letter_commands cell (entry grid cell)) same

pub is_none : {found entry : Option ℕ} → found ≡ entry → is_some found ≡ false → entry ≡ None
is_none {found = None} {entry = entry} same none = sym same
is_none {found = Some letter} {entry = entry} same none = cc

pub some_at : (was grid : Grid) (cell : Cell) → is_some (entry grid cell) ≡ true → is_same_entry (entry was cell) (entry grid cell) ≡ false → entered_at was grid cell ≢ []
some_at was grid cell some other none =
    by_entry (entry grid cell) some (sym (ap (λ t. if t then [] else letter_commands cell (entry grid cell)) other) ∙ none) where
      by_entry : (found : Option ℕ) → is_some found ≡ true → letter_commands cell found ≡ [] → ⊥
      by_entry None some e = cc
      by_entry (Some letter) some e = cc

-- a group that is not empty
pub group_is : (commands : List Change) → commands ≢ [] → codes "# xw begin\n" ++ (command_lines commands ++ codes "# xw end\n") ≡ grouped commands
group_is [] some = absurd (some refl)
group_is (command ∷ commands) some = refl

-- the entries of one more cell
pub one_more_entry : (grid : Grid) (k : ℕ) → k < grid.width * grid.height → take (k + 1) (entries_of grid) ≡ take k (entries_of grid) ++ entry grid (cell_at grid k) ∷ []
one_more_entry grid k below =
    let within : k < length (entries_of grid) = omega (arith, below, length-map (cells grid) (entry grid), length-cells grid) in
    take_more (entries_of grid) k None within ∙ ap (λ e. take k (entries_of grid) ++ e ∷ []) (get_or-map-cells grid (entry grid) k None below)
