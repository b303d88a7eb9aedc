use Rattle.std.specs.Prelude.{◌≡◌, All}
use Rattle.xw_grid.specs.Grid.{Grid}
use Rattle.xw_live.specs.Levels.{HasSizeOf}
use Rattle.xw_live.proofs.levels.Levels.clear.Given as goal

-- all have the size that they had, and the trail stays
abbrev pub invariant-loop-placement : goal.invariant-loop-placement
invariant-loop-placement l = record {
  sizes : (grid : Grid) → All (HasSizeOf grid) l.fn.self.made.items → All (HasSizeOf grid) l.fn.self.spare.items → All (HasSizeOf grid) l.self.made.items × All (HasSizeOf grid) l.self.spare.items;
  trail : l.self.trail ≡ l.fn.self.trail;
}

abbrev pub decreases-loop-placement : goal.decreases-loop-placement
decreases-loop-placement l = goal.left-loop-placement l
