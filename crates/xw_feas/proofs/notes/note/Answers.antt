use Rattle.std.proofs.Common.{◌<◌, ◌*◌, ◌≤◌, ◌++◌, ◌∷◌, [], length, map, take, sym, ap, ◌∙◌, arith}
use Rattle.std.proofs.lemmas.List.{length-set, take_all, take_more_set, map_push}
use Rattle.xw_grid.specs.Grid.{cells, cell_at}
use Rattle.xw_grid.proofs.GridLemmas.{length-cells, take-cells}
use Rattle.xw_feas.specs.Written.{with_entry_of}
use Rattle.xw_feas.proofs.notes.note.Goals as goal

pub loop-index-preserved : goal.loop-index-preserved
loop-index-preserved c =
    let grid = c.args.grid.now in
    let noted = c.loop-index.noted in
    let k = c.loop-index.index in
    let cell = c.cell_at-cell.result in
    let below : k < c.args.grid.now.width * c.args.grid.now.height = omega (arith, c.loop-index-test.true, c.size-index-end.ensures.size) in
    let within : k < length c.loop-index.noted = omega (arith, below, c.loop-index.invariant.long, c.size-index-end.ensures.grid.squares) in
    record {
      long = length-set noted k (cell, c.entry.result) ∙ c.loop-index.invariant.long;
      front =
          take_more_set noted k (cell, c.entry.result) within
          ∙ ap (λ listed. listed ++ (cell, c.entry.result) ∷ []) c.loop-index.invariant.front
          ∙ ap (λ letter. map (with_entry_of grid) (take k (cells grid)) ++ (cell, letter) ∷ []) c.entry.ensures.entry
          ∙ ap (λ other. map (with_entry_of grid) (take k (cells grid)) ++ with_entry_of grid other ∷ []) c.cell_at-cell.ensures.cell
          ∙ sym (ap (map (with_entry_of grid)) (take-cells grid k below) ∙ map_push (with_entry_of grid) (take k (cells grid)) (cell_at grid k));
    }

pub returns-clause-noted : goal.returns-clause-noted
returns-clause-noted c =
    let grid = c.args.grid.now in
    let k = c.loop-index.index in
    let all : length (cells c.args.grid.now) ≤ c.loop-index.index = omega (arith, length-cells c.args.grid.now, c.loop-index-test.false, c.size-index-end.ensures.size) in
    let past : length c.loop-index.noted ≤ c.loop-index.index = omega (arith, all, length-cells c.args.grid.now, c.loop-index.invariant.long, c.size-index-end.ensures.grid.squares) in
    sym (take_all k c.loop-index.noted past) ∙ c.loop-index.invariant.front ∙ ap (map (with_entry_of grid)) (take_all k (cells grid) all)
