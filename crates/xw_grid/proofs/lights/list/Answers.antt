use Rattle.std.proofs.Common.{◌≡◌, ◌+◌, ◌*◌, ◌<◌, ◌≤◌, ◌++◌, Bool, true, false, cond, sym, ap, ◌∙◌, take, arith}
use Rattle.xw_grid.specs.declared.cell.Cell.{Cell}
use Rattle.std.specs.Prelude.{count_by, flat_map}
use Rattle.xw_grid.specs.Grid.{cell_at, cells}
use Rattle.xw_grid.specs.Light.{begins_some, lights_at, number_at}
use Rattle.xw_grid.proofs.GridLemmas.{index_of-cell_at, count_by-cells, flat_map-cells, all-cells}
use Rattle.xw_grid.proofs.lights.list.Goals as goal

at_most_one : (b : Bool) → cond b 1 0 ≤ 1
at_most_one true = omega arith
at_most_one false = omega arith

pub cell_at-requires : goal.cell_at-requires
cell_at-requires c = omega (arith, c.size-index-end.ensures.size)

pub add_lights-requires-clause-inside : goal.add_lights-requires-clause-inside
add_lights-requires-clause-inside c = c.cell_at.ensures.inside

pub add_lights-requires-clause-number : goal.add_lights-requires-clause-number
add_lights-requires-clause-number c =
    let grid = c.args.grid.now in
    let k = c.loop-index.index in
    ap (λ n. n + 1) c.loop-index.invariant.begun
    ∙ ap (λ n. count_by (begins_some grid) (take n (cells grid)) + 1) (sym (index_of-cell_at grid k))
    ∙ ap (number_at grid) (sym c.cell_at.ensures.cell)

pub add_lights-requires-clause-few : goal.add_lights-requires-clause-few
add_lights-requires-clause-few c = omega (arith, c.loop-index.invariant.few, c.size-index-end.ensures.small)

pub loop-index-preserved : goal.loop-index-preserved
loop-index-preserved c =
    let grid = c.args.grid.now in
    let k = c.loop-index.index in
    let within : k < grid.width * grid.height = omega (arith, c.size-index-end.ensures.size) in
    let counted : c.in_ok-begun.begun ≡ c.loop-index.begun + cond (begins_some grid c.cell_at.result) 1 0 = c.in_ok-begun.ensures.begun in
    record {
      few = omega (arith, at_most_one (begins_some grid c.cell_at.result), counted);
      begun = counted
          ∙ ap (λ (cell : Cell). c.loop-index.begun + cond (begins_some grid cell) 1 0) c.cell_at.ensures.cell
          ∙ ap (λ n. n + cond (begins_some grid (cell_at grid k)) 1 0) c.loop-index.invariant.begun
          ∙ sym (count_by-cells grid (begins_some grid) k within);
      lights = c.in_ok-begun.ensures.lights
          ∙ ap (λ (cell : Cell). c.loop-index.lights.items ++ lights_at grid cell) c.cell_at.ensures.cell
          ∙ ap (λ xs. xs ++ lights_at grid (cell_at grid k)) c.loop-index.invariant.lights
          ∙ sym (flat_map-cells grid (lights_at grid) k within);
    }

pub returns : goal.returns
returns c =
    let grid = c.args.grid.now in
    c.loop-index.invariant.lights
    ∙ ap (flat_map (lights_at grid)) (all-cells grid c.loop-index.index (omega (arith, c.size-index-end.ensures.size)))
