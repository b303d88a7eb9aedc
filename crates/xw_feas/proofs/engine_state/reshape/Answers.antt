use Rattle.std.proofs.Common.{subst, ap}
use Rattle.std.specs.Prelude.{IsOk}
use Rattle.xw_grid.specs.Edit.{toggle_block, toggle_bar}
use Rattle.xw_feas.specs.State.{grid_after}
use Rattle.xw_feas.specs.Pending.{shape_action}
use Rattle.xw_feas.specs.declared.pending.ShapeEdit.{ShapeEdit}
use Rattle.xw_feas.proofs.JudgeLemmas.{fault_taken}
use Rattle.xw_feas.proofs.ShapeLemmas.{block_cells}
use Rattle.xw_feas.proofs.engine_state.reshape.Goals as goal

pub turn_block-requires : goal.turn_block-requires
turn_block-requires c = fault_taken (toggle_block c.args.grid.now c.in-Block.cell) (subst (λ (edit : ShapeEdit). IsOk (grid_after c.args.grid.now (shape_action edit))) c.in-Block.is c.requires)

pub turn_bar-requires : goal.turn_bar-requires
turn_bar-requires c = fault_taken (toggle_bar c.args.grid.now c.in-Bar.cell c.in-Bar.side) (subst (λ (edit : ShapeEdit). IsOk (grid_after c.args.grid.now (shape_action edit))) c.in-Bar.is c.requires)

pub returns-in-Block-clause-cells : goal.returns-in-Block-clause-cells
returns-in-Block-clause-cells c = block_cells c.args.grid.now c.turn_block.new.self c.in-Block.cell c.well_formed-2.ensures c.turn_block.ensures
