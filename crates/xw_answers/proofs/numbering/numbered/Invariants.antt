use Rattle.std.proofs.Common.{◌≡◌, ◌≤◌, ◌<◌, ℕ, true, take}
use Rattle.std.specs.Prelude.{count_by}
use Rattle.xw_grid.specs.Grid.{cell_at, cells}
use Rattle.xw_grid.specs.Light.{begins_some, number_at}
use Rattle.xw_answers.specs.Numbering.{AreNumbered}
use Rattle.xw_answers.proofs.numbering.numbered.Given as goal

-- how many of the cells so far have a number, none of them the one that is looked for
abbrev pub invariant-loop-index : goal.invariant-loop-index
invariant-loop-index l = record {
  known : AreNumbered l.grid l.known.items;
  few : l.begun ≤ l.index;
  begun : l.begun ≡ count_by (begins_some l.grid) (take l.index (cells l.grid));
  others : (k : ℕ) → k < l.index → begins_some l.grid (cell_at l.grid k) ≡ true → number_at l.grid (cell_at l.grid k) ≡ l.number → ⊥;
}
