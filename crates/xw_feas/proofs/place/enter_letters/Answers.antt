use Rattle.std.proofs.Common.{◌≡◌, ◌<◌, ◌≤◌, length, drop, get_or, Some, sym, ap, ◌∙◌, arith}
use Rattle.std.proofs.lemmas.List.{drop_all, get_or_read}
use Rattle.xw_grid.specs.Grid.{is_open}
use Rattle.xw_grid.specs.Light.{lights_of, cells_of, no_light, step}
use Rattle.xw_grid.specs.Edit.{with_entry}
use Rattle.xw_feas.specs.State.{with_letters}
use Rattle.xw_grid.proofs.LightLemmas.{length-line}
use Rattle.xw_grid.proofs.ChangeLemmas.{SameShape-entry}
use Rattle.xw_feas.proofs.ShapeLemmas.{light_small, light_cell, with_letters-more, SameShape-then}
use Rattle.xw_feas.proofs.place.enter_letters.Goals as goal

pub cell-requires : goal.cell-requires
cell-requires c =
    let grid = c.loop-k.grid in
    let shape = c.loop-k.invariant.shape in
    let within : c.args.index < length (lights_of grid) = omega (arith, c.requires.index, ap length shape.lights) in
    let is : c.args.light ≡ get_or (lights_of grid) c.args.index no_light = c.requires.light ∙ ap (λ lights. get_or lights c.args.index no_light) (sym shape.lights) in
    light_small grid c.args.index c.loop-k.k c.args.light c.well_formed-in-loop-k.ensures within is (omega (arith, c.loop-k-test.true, c.requires.size))

pub enter-requires : goal.enter-requires
enter-requires c =
    let grid = c.loop-k.grid in
    let shape = c.loop-k.invariant.shape in
    let light = c.args.light in
    let within : c.args.index < length (lights_of grid) = omega (arith, c.requires.index, ap length shape.lights) in
    let is : light ≡ get_or (lights_of grid) c.args.index no_light = c.requires.light ∙ ap (λ lights. get_or lights c.args.index no_light) (sym shape.lights) in
    ap (is_open grid) c.cell.ensures ∙ light_cell grid c.args.index c.loop-k.k light within is (omega (arith, c.loop-k-test.true, c.requires.size))

pub loop-k-preserved : goal.loop-k-preserved
loop-k-preserved c =
    let grid = c.loop-k.grid in
    let shape = c.loop-k.invariant.shape in
    let light = c.args.light in
    let k = c.loop-k.k in
    let letter = c.index-word-k.result in
    let within : c.args.index < length (lights_of grid) = omega (arith, c.requires.index, ap length shape.lights) in
    let is : light ≡ get_or (lights_of grid) c.args.index no_light = c.requires.light ∙ ap (λ lights. get_or lights c.args.index no_light) (sym shape.lights) in
    let below : k < light.size = omega (arith, c.loop-k-test.true, c.requires.size) in
    let cell = step light.name.direction light.start k in
    let opened = light_cell grid c.args.index k light within is below in
    let now : c.enter.new.self ≡ with_entry grid cell (Some letter) = c.enter.ensures ∙ ap (λ cell. with_entry grid cell (Some letter)) c.cell.ensures in
    record {
      written = rw now (sym (with_letters-more grid light c.args.word.now k letter below c.loop-k-test.true (get_or_read c.args.word.now k letter c.loop-k-test.true c.index-word-k.is 0)) ∙ c.loop-k.invariant.written);
      shape = rw now (SameShape-then c.args.grid.now grid (with_entry grid cell (Some letter)) shape (SameShape-entry grid cell (Some letter) c.well_formed-in-loop-k.ensures opened));
    }

pub returns-clause-letters : goal.returns-clause-letters
returns-clause-letters c =
    let over : length (cells_of c.args.light) ≤ c.loop-k.k = omega (arith, length-line c.args.light.name.direction c.args.light.start c.args.light.size, c.requires.size, c.loop-k-test.false) in
    ap (λ cells. with_letters c.loop-k.grid cells (drop c.loop-k.k c.args.word.now)) (sym (drop_all c.loop-k.k (cells_of c.args.light) over)) ∙ c.loop-k.invariant.written
