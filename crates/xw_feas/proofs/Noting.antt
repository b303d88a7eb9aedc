-- The snapshot of the entries, and the cells whose entry a list changes.
use Rattle.std.proofs.Common.{◌≡◌, min, take, Bool, true, false, cond, not, List, [], ◌∷◌, length, map, refl, sym, ◌∙◌, ap, arith, inl, inr}
use Rattle.std.proofs.lemmas.Bool.{cases_lt}
use Rattle.std.proofs.lemmas.List.{take_all}
use Rattle.std.proofs.Math.Nat.{min_comm, min-eq_left}
use Rattle.std.specs.Prelude.{Option, ℕ, Ok, Vec, filter}
use Rattle.std.specs.Vec.{with_items}
use Rattle.xw_grid.specs.declared.cell.Cell.{Cell}
use Rattle.xw_grid.specs.Grid.{Grid, cells, entry}
use Rattle.xw_feas.specs.State.{write_list, list_written, by_fault}
use Rattle.xw_feas.specs.Written.{same_entry, cells_changed, with_entry_of, is_changed, entries_written}

-- a list has no more elements than it is long
pub take_at_most : {X : Type 0} (xs : List X) (count : ℕ) → take (min count (length xs)) xs ≡ take count xs
take_at_most xs count = elim (cases_lt (length xs) count) [
  | inl past ↦ ap (λ n. take n xs) (min_comm count (length xs) ∙ min-eq_left (omega (arith, past))) ∙ take_all (length xs) xs (omega arith) ∙ sym (take_all count xs (omega (arith, past)))
  | inr within ↦ ap (λ n. take n xs) (min-eq_left within)
]

-- filtering before a map, and after it
changed_among : (grid new : Grid) (some : List Cell) → filter (is_changed new) (map (with_entry_of grid) some) ≡ map (with_entry_of grid) (filter (λ cell. not (same_entry (entry grid cell) (entry new cell))) some)
changed_among grid new [] = refl
changed_among grid new (cell ∷ some) = by_test _ (not (same_entry (entry grid cell) (entry new cell))) (changed_among grid new some) where
  by_test : {listed : List (Cell × Option ℕ)} (passing : List Cell) (b : Bool) → listed ≡ map (with_entry_of grid) passing → cond b (with_entry_of grid cell ∷ listed) listed ≡ map (with_entry_of grid) (cond b (cell ∷ passing) passing)
  by_test passing true h = ap (λ l. with_entry_of grid cell ∷ l) h
  by_test passing false h = h

noted_listed : (grid new : Grid) (list : List (Cell × Option ℕ)) → write_list list grid ≡ Ok new → filter (is_changed new) (map (with_entry_of grid) (cells grid)) ≡ entries_written grid (list_written list)
noted_listed grid new list ok = changed_among grid new (cells grid) ∙ ap (λ r. map (with_entry_of grid) (cells_changed grid (by_fault r))) (sym ok)

-- replacing all elements keeps the length
pub same_length : {X Z : Type 0} (vec : Vec X Z) (new : List X) → length (with_items vec new).items ≡ length vec.items
same_length vec new = sym (with_items vec new).ok.0 ∙ vec.ok.0

-- the kept part of the snapshot is what the list writes
pub kept_listed : (grid new : Grid) (list noted : List (Cell × Option ℕ)) → write_list list grid ≡ Ok new → noted ≡ map (with_entry_of grid) (cells grid) → filter (is_changed new) noted ≡ entries_written grid (list_written list)
kept_listed grid new list noted ok all = ap (filter (is_changed new)) all ∙ noted_listed grid new list ok
