use Rattle.std.proofs.Common.{◌≡◌, length, get_or, set, length-set, ap, ◌∙◌, arith}
use Rattle.std.specs.Prelude.{Some, None}
use Rattle.std.specs.Option.{unwrap_or}
use Rattle.xw_grid.specs.Grid.{index_of}
use Rattle.xw_grid.specs.Light.{step}
use Rattle.xw_grid.proofs.LightTableLemmas.{entered_more}
use Rattle.xw_grid.proofs.light_table.enter.Goals as goal

pub loop-k-preserved : goal.loop-k-preserved
loop-k-preserved c =
    let grid = c.args.grid.now in
    let light = c.args.light.now in
    let table = c.loop-k.table in
    let index = c.args.index in
    let k = c.loop-k.k in
    let at = step light.name.direction light.start k in
    let square : c.square_inside-square.result ≡ index_of grid at = c.square_inside-square.ensures.index ∙ ap (index_of grid) c.cell.ensures in
    let written : c.mark.new.table ≡ set table (index_of grid at) (Some (unwrap_or (get_or table (index_of grid at) None) index)) =
    c.mark.ensures ∙ ap (λ s. set table s (Some (unwrap_or (get_or table s None) index))) square in
    record {
      long = ap length written ∙ length-set table (index_of grid at) (Some (unwrap_or (get_or table (index_of grid at) None) index)) ∙ c.loop-k.invariant.long;
      each = λ s within.
          ap (λ ps. get_or ps s None) written
          ∙ entered_more grid c.args.table.now table light.name.direction light.start k index s (omega (arith, c.loop-k.invariant.long)) (c.requires.inside k c.loop-k-test.true) (c.loop-k.invariant.each s within);
    }
