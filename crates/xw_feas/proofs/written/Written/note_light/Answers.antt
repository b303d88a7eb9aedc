use Rattle.std.proofs.Common.{◌<◌, ◌≤◌, ◌++◌, ◌∷◌, [], get_or, length, map, take, sym, ap, ◌∙◌, arith}
use Rattle.std.proofs.lemmas.List.{length-map, length-take, take_more, take_all, map_push}
use Rattle.xw_grid.specs.declared.cell.Cell.{Cell}
use Rattle.xw_grid.specs.declared.lights.Light.{Light}
use Rattle.xw_grid.specs.Light.{cells_of, no_light}
use Rattle.xw_grid.proofs.LightLemmas.{length-line, get_or-line}
use Rattle.xw_feas.proofs.BoardLemmas.{light_fits}
use Rattle.xw_feas.proofs.ShapeLemmas.{light_small}
use Rattle.xw_feas.specs.Written.{with_entry_of}
use Rattle.xw_feas.proofs.written.Written.note_light.Goals as goal

pub cell-requires : goal.cell-requires
cell-requires c = light_small c.args.grid.now c.args.index c.loop-k.k c.args.light c.well_formed-2.ensures c.requires.index c.requires.light c.loop-k-test.true

pub push-requires : goal.push-requires
push-requires c =
    let fits = light_fits c.args.grid.now c.args.index no_light c.well_formed-2.ensures c.requires.index in
    let small : c.args.light.size ≤ 255 = omega (arith, fits.size, ap (λ (light : Light). light.size) c.requires.light) in
    let front = take c.loop-k.k (cells_of c.args.light) in
    omega (arith, ap length c.loop-k.invariant, length-map front (with_entry_of c.args.grid.now), length-take c.loop-k.k (cells_of c.args.light))

pub loop-k-preserved : goal.loop-k-preserved
loop-k-preserved c =
    let grid = c.args.grid.now in
    let light = c.args.light in
    let k = c.loop-k.k in
    let none : Cell = record { row = 0; col = 0 } in
    let under : k < length (cells_of light) = omega (arith, length-line light.name.direction light.start light.size, c.loop-k-test.true) in
    let cell = get_or (cells_of light) k none in
    c.push.ensures
    ∙ ap (λ cell. c.loop-k.self ++ with_entry_of grid cell ∷ []) (c.cell.ensures ∙ sym (get_or-line light.name.direction light.start light.size k none c.loop-k-test.true))
    ∙ ap (λ written. written ++ with_entry_of grid cell ∷ []) c.loop-k.invariant
    ∙ sym (ap (map (with_entry_of grid)) (take_more (cells_of light) k none under) ∙ map_push (with_entry_of grid) (take k (cells_of light)) cell)

pub returns : goal.returns
returns c =
    let light = c.args.light in
    c.loop-k.invariant ∙ ap (map (with_entry_of c.args.grid.now)) (take_all c.loop-k.k (cells_of light) (omega (arith, length-line light.name.direction light.start light.size, c.loop-k-test.false)))
