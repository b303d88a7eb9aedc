use Rattle.std.proofs.Common.{◌≡◌, map, ap, sym, ◌∙◌}
use Rattle.xw_grid.specs.Orbit.{cells_among, images_of}
use Rattle.xw_grid.specs.Grid.{index_of}
use Rattle.xw_grid.proofs.OrbitCellLemmas.{left_all}
use Rattle.xw_grid.proofs.grid.Grid.orbit.Goals as goal

pub returns-then-contains : goal.returns-then-contains
returns-then-contains c =
    let grid = c.args.self.now in
    let width : c.self.inside.width ≡ grid.width = ap (λ g. g.width) c.self.view_is in
    c.new.ensures
    ∙ ap (λ w. cells_among w c.indices.result 0 c.size.result) width
    ∙ ap (λ squares. cells_among grid.width squares 0 c.size.result) c.indices.ensures.indices
    ∙ ap (λ n. cells_among grid.width (map (index_of grid) (images_of grid c.args.cell)) 0 n) c.size.ensures.size
    ∙ left_all grid c.args.cell (sym c.contains.ensures ∙ c.if-contains.true) c.indices.ensures.inside
