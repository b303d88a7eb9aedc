use Rattle.std.proofs.Common.{◌≡◌, drop}
use Rattle.xw_grid.specs.Light.{cells_of}
use Rattle.xw_grid.specs.EditLaws.{SameShape}
use Rattle.xw_feas.specs.State.{with_letters}
use Rattle.xw_feas.proofs.place.enter_letters.Given as goal

abbrev pub invariant-loop-k : goal.invariant-loop-k
invariant-loop-k l = record {
  written : with_letters l.grid (drop l.k (cells_of l.light)) (drop l.k l.word) ≡ with_letters l.initial.grid (cells_of l.light) l.word;
  shape : SameShape l.initial.grid l.grid;
}
