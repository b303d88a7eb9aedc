use Rattle.std.proofs.Common.{◌≡◌, ℕ, Bool, Some}
use Rattle.std.specs.Prelude.{All, slice_get}
use Rattle.xw_grid.specs.Grid.{cell_at}
use Rattle.xw_answers.specs.Numbering.{AreApart, IsApart}
use Rattle.xw_answers.proofs.numbering.forget_near.Given as goal

-- what is still known is of rows apart from the orbit, if they are apart from its cells that are left
abbrev pub invariant-loop-member : goal.invariant-loop-member
invariant-loop-member l = record {
  kept : (index : ℕ) (is : Bool) → slice_get l.known.items index ≡ Some (Some is) → slice_get l.initial.known.items index ≡ Some (Some is);
  gone : (index : ℕ) (is : Bool) → slice_get l.known.items index ≡ Some (Some is) → All (AreApart (cell_at l.grid index).row) l.orbit → IsApart l.grid l.fn.cell (cell_at l.grid index).row;
}
