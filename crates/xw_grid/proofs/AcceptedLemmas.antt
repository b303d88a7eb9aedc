-- Edits that no rule refuses.
use Rattle.std.proofs.Common.{◌≡◌, Bool, true, false, cond, not, ◌&&◌, refl}
use Rattle.std.specs.Prelude.{Result, Ok, Err, IsOk}
use Rattle.xw_grid.specs.declared.cell.Cell.{Cell}
use Rattle.xw_grid.specs.declared.cell.Side.{Side}
use Rattle.xw_grid.specs.declared.fault.GridFault.{GridFault}
use Rattle.xw_grid.specs.declared.fault.GridFault.TheVariants.{OutOfGrid, Occupied, Border}
use Rattle.xw_grid.specs.Grid.{Grid, is_inside, is_block, is_edge, is_barred}
use Rattle.xw_grid.specs.Edit.{is_occupied, with_orbit, toggle_block, with_edges, toggle_bar}

-- the result of an edit with two rules
abbrev ruled : Bool → Bool → GridFault → GridFault → Grid → Result Grid GridFault
ruled first second fault other grid = cond (not first) (Err fault) (cond second (Err other) (Ok grid))

accepted : (first second : Bool) (fault other : GridFault) (grid : Grid) → IsOk (ruled first second fault other grid) → (first ≡ true) × ((second ≡ false) × (ruled first second fault other grid ≡ Ok grid))
accepted true false fault other grid ok = (refl, (refl, refl))
accepted true true fault other grid ok = cc
accepted false second fault other grid ok = cc

-- a block that can be toggled is inside the grid
pub block_accepted : (grid : Grid) (cell : Cell) → IsOk (toggle_block grid cell) → (is_inside grid cell ≡ true) × (toggle_block grid cell ≡ Ok (with_orbit grid cell (not (is_block grid cell))))
block_accepted grid cell ok =
    let is = accepted (is_inside grid cell) (not (is_block grid cell) && is_occupied grid cell) OutOfGrid Occupied (with_orbit grid cell (not (is_block grid cell))) ok in
    (is.0, is.1.1)

un_not : (b : Bool) → not b ≡ false → b ≡ true
un_not true h = refl
un_not false h = cc

-- a bar that can be toggled is an edge
pub bar_accepted : (grid : Grid) (cell : Cell) (side : Side) → IsOk (toggle_bar grid cell side) → (is_edge grid cell side ≡ true) × (toggle_bar grid cell side ≡ Ok (with_edges grid cell side (not (is_barred grid cell side))))
bar_accepted grid cell side ok =
    let is = accepted (is_inside grid cell) (not (is_edge grid cell side)) OutOfGrid Border (with_edges grid cell side (not (is_barred grid cell side))) ok in
    (un_not (is_edge grid cell side) is.1.0, is.1.1)
