-- A file has at most one first fault.
use Rattle.std.proofs.Common.{◌≡◌, ℕ, ◌⊎◌, List, Option, Some, None, refl, sym, ap, ◌∙◌, inl, inr, arith}
use Rattle.std.specs.Prelude.{slice_get}
use Rattle.std.proofs.lemmas.Bool.{cases_order}
use Rattle.xw_grid.specs.declared.cell.Cell.{Cell}
use Rattle.xw_files.specs.declared.fault.ReadFault.{ReadFault}
use Rattle.xw_files.specs.declared.fault.ReadFault.TheVariants as faults
use Rattle.xw_files.specs.Text.Lines.{text_lines}
use Rattle.xw_files.specs.Text.Faults.{from_grid, HasBadByte, HasFault, location_of, within_location, ComesBefore, HasOneFirstFault}
use Rattle.xw_files.proofs.TextLemmas.FaultOrder.{is_single, tag_single, alone}
use Rattle.xw_files.proofs.TextLemmas.FaultSteps.{true_not_false}

-- no column is 0
no_column : (bytes : List ℕ) (cell : Cell) → cell.col ≡ 0 → HasFault bytes (faults.BadCell cell) → ⊥
no_column bytes cell zero have = not_bad (slice_get (from_grid (text_lines bytes)) cell.row) have.3.2
  where
    not_bad : (line : Option (List ℕ)) → HasBadByte cell.col line → ⊥
    not_bad None bad = bad
    not_bad (Some line) bad = omega (arith, zero, bad.1)

same_cell : (one other : Cell) → one.row ≡ other.row → one.col ≡ other.col → one ≡ other
same_cell one other row col = ap (λ r. record { row = r; col = one.col }) row ∙ ap (λ c. record { row = other.row; col = c }) col

-- two faults at one location of the order are the same
nul_alone : (offset : ℕ) (other : ReadFault) → location_of other ≡ 0 → (within_location other).0 ≡ offset → other ≡ faults.NulByte offset
nul_alone offset (faults.NulByte own) location is = ap faults.NulByte is
nul_alone offset (faults.Tag tag) location is = absurd (true_not_false (tag_single tag) (ap is_single location))
nul_alone offset other location is = absurd (omega (arith, location))

line_alone : (bytes : List ℕ) (row : ℕ) (other : ReadFault) → location_of other ≡ 8 → (within_location other).0 ≡ row → (within_location other).1 ≡ 0 → HasFault bytes other → other ≡ faults.GridLine row
line_alone bytes row (faults.GridLine own) location is col have = ap faults.GridLine is
line_alone bytes row (faults.BadCell cell) location is col have = absurd (no_column bytes cell col have)
line_alone bytes row (faults.Tag tag) location is col have = absurd (true_not_false (tag_single tag) (ap is_single location))
line_alone bytes row other location is col have = absurd (omega (arith, location))

cell_alone : (bytes : List ℕ) (cell : Cell) (other : ReadFault) → location_of other ≡ 8 → (within_location other).0 ≡ cell.row → (within_location other).1 ≡ cell.col → HasFault bytes (faults.BadCell cell) → other ≡ faults.BadCell cell
cell_alone bytes cell (faults.GridLine own) location row col have = absurd (no_column bytes cell (sym col) have)
cell_alone bytes cell (faults.BadCell own) location row col have = ap faults.BadCell (same_cell own cell row col)
cell_alone bytes cell (faults.Tag tag) location row col have = absurd (true_not_false (tag_single tag) (ap is_single location))
cell_alone bytes cell other location row col have = absurd (omega (arith, location))

same_fault : (bytes : List ℕ) (one other : ReadFault) → location_of other ≡ location_of one → (within_location other).0 ≡ (within_location one).0 → (within_location other).1 ≡ (within_location one).1 → HasFault bytes one → HasFault bytes other → other ≡ one
same_fault bytes (faults.NulByte offset) other location row col have too = nul_alone offset other location row
same_fault bytes (faults.GridLine own) other location row col have too = line_alone bytes own other location row col too
same_fault bytes (faults.BadCell cell) other location row col have too = cell_alone bytes cell other location row col have
same_fault bytes (faults.Tag tag) other location row col have too = alone (faults.Tag tag) other (tag_single tag) location
same_fault bytes faults.Header other location row col have too = alone faults.Header other refl location
same_fault bytes faults.SizeLine other location row col have too = alone faults.SizeLine other refl location
same_fault bytes faults.AcrossCount other location row col have too = alone faults.AcrossCount other refl location
same_fault bytes faults.DownCount other location row col have too = alone faults.DownCount other refl location
same_fault bytes one other location row col have too = absurd have

-- of two faults one comes before the other, or both are at one location of the order
abbrev InOrder : ReadFault → ReadFault → Type 0
InOrder one other =
    ComesBefore one other ⊎ (ComesBefore other one ⊎ ((location_of other ≡ location_of one) × ((within_location other).0 ≡ (within_location one).0) × ((within_location other).1 ≡ (within_location one).1)))

in_order : (one other : ReadFault) → InOrder one other
in_order one other =
    elim (cases_order (location_of one) (location_of other)) [
      | inr (inl sooner) ↦ inl (inl sooner)
      | inr (inr later) ↦ inr (inl (inl later))
      | inl location ↦ elim (cases_order (within_location one).0 (within_location other).0) [
        | inr (inl sooner) ↦ inl (inr (location, inl sooner))
        | inr (inr later) ↦ inr (inl (inr (sym location, inl later)))
        | inl row ↦ elim (cases_order (within_location one).1 (within_location other).1) [
          | inr (inl sooner) ↦ inl (inr (location, inr (row, sooner)))
          | inr (inr later) ↦ inr (inl (inr (sym location, inr (sym row, later))))
          | inl col ↦ inr (inr (sym location, sym row, sym col))
        ]
      ]
    ]

pub has_one_first_fault : HasOneFirstFault
has_one_first_fault bytes one other is_one is_other =
    elim (in_order one other) [
      | inl sooner ↦ absurd (is_other.1 one sooner is_one.0)
      | inr (inl later) ↦ absurd (is_one.1 other later is_other.0)
      | inr (inr same) ↦ sym (same_fault bytes one other same.0 same.1 same.2 is_one.0 is_other.0)
    ]
