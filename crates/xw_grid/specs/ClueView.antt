-- The texts that a map in memory stands for.
use Rattle.std.specs.Prelude.{ℕ, map}
use Rattle.std.specs.BTreeMap.{BTreeMap}
use Rattle.std.specs.declared.vec.Vec.{Vec}
use Rattle.xw_grid.specs.declared.cell.Cell.{Cell}
use Rattle.xw_grid.specs.Clue.{Texts}

-- the map from cells to texts, without the layout in memory
abbrev pub texts_in : {Z : Type 0} → BTreeMap Cell (Vec ℕ Z) → Texts
texts_in texts = map (λ entry. (entry.0, entry.1.items)) texts.entries
