use Rattle.std.proofs.Common.{get_or, refl, sym, ap, ◌∙◌, arith}
use Rattle.xw_grid.specs.declared.cell.Direction.TheVariants.{Down}
use Rattle.xw_grid.specs.Light.{index_through, no_light}
use Rattle.xw_feas.specs.Board.{light_at, IsCrossing, other_than}
use Rattle.xw_feas.proofs.CrossingLemmas.{position_cell, small_position, small_start, found_crossing, only_crossing, found_first, found_second, each_some}
use Rattle.xw_feas.proofs.board.Board.crossing.Goals as goal

pub overflow_cast-position : goal.overflow_cast-position
overflow_cast-position c = omega (arith, small_position c.self.inside.grid.now c.args.self.now (sym c.self.view_is) c.self.invariant.2 c.args.light c.args.position c.requires.position)

pub cell-cell-requires : goal.cell-cell-requires
cell-cell-requires c =
    let found = c.at.ensures ∙ ap (λ list. get_or list c.args.light no_light) c.self.invariant.0 in
    let start = small_start c.self.inside.grid.now c.args.self.now (sym c.self.view_is) c.self.invariant.2 c.args.light c.args.position c.requires.position c.at.result found in
    (start.0, start.1, omega (arith, small_position c.self.inside.grid.now c.args.self.now (sym c.self.view_is) c.self.invariant.2 c.args.light c.args.position c.requires.position))

pub returns-in-Some-clause-other : goal.returns-in-Some-clause-other
returns-in-Some-clause-other c =
    let grid = c.self.inside.grid.now in
    let lights = c.self.inside.lights.now in
    let found = c.at.ensures ∙ ap (λ list. get_or list c.args.light no_light) c.self.invariant.0 in
    let cell = c.cell-cell.ensures ∙ position_cell grid c.args.self.now (sym c.self.view_is) c.args.light c.args.position c.requires.position c.at.result found in
    let second = index_through lights Down c.cell-cell.result in
    found_crossing grid c.args.self.now c.self.view_is lights c.self.invariant.0 c.args.light c.args.position c.requires.position c.cell-cell.result cell c.across_at.result second c.across_at.ensures refl c.in-Some.other
    (found_first (other_than c.args.light c.across_at.result) (other_than c.args.light second) c.in-Some.other (sym c.other_than.ensures ∙ c.in-Some.is))

pub returns-in-Some-clause-only : goal.returns-in-Some-clause-only
returns-in-Some-clause-only c other crossing =
    let grid = c.self.inside.grid.now in
    let lights = c.self.inside.lights.now in
    let found = c.at.ensures ∙ ap (λ list. get_or list c.args.light no_light) c.self.invariant.0 in
    let cell = c.cell-cell.ensures ∙ position_cell grid c.args.self.now (sym c.self.view_is) c.args.light c.args.position c.requires.position c.at.result found in
    let second = index_through lights Down c.cell-cell.result in
    sym (found_first (other_than c.args.light c.across_at.result) (other_than c.args.light second) c.in-Some.other (sym c.other_than.ensures ∙ c.in-Some.is))
    ∙ only_crossing grid c.args.self.now c.self.view_is lights c.self.invariant.0 c.args.light c.args.position c.requires.position c.cell-cell.result cell c.across_at.result second c.across_at.ensures refl other crossing

pub returns-in-None-clause-other : goal.returns-in-None-clause-other
returns-in-None-clause-other c =
    let grid = c.self.inside.grid.now in
    let lights = c.self.inside.lights.now in
    let found = c.at.ensures ∙ ap (λ list. get_or list c.args.light no_light) c.self.invariant.0 in
    let cell = c.cell-cell.ensures ∙ position_cell grid c.args.self.now (sym c.self.view_is) c.args.light c.args.position c.requires.position c.at.result found in
    each_some (IsCrossing c.args.self.now c.args.light (get_or (light_at c.args.self.now c.args.light) c.args.position 0)) c.other_than-in-None.result (λ other is.
    found_crossing grid c.args.self.now c.self.view_is lights c.self.invariant.0 c.args.light c.args.position c.requires.position c.cell-cell.result cell c.across_at.result c.down_at.result c.across_at.ensures c.down_at.ensures other
    (found_second (other_than c.args.light c.across_at.result) (other_than c.args.light c.down_at.result) (sym c.other_than.ensures ∙ c.in-None.is) ∙ sym c.other_than-in-None.ensures ∙ is))

pub returns-in-None-clause-only : goal.returns-in-None-clause-only
returns-in-None-clause-only c other crossing =
    let grid = c.self.inside.grid.now in
    let lights = c.self.inside.lights.now in
    let found = c.at.ensures ∙ ap (λ list. get_or list c.args.light no_light) c.self.invariant.0 in
    let cell = c.cell-cell.ensures ∙ position_cell grid c.args.self.now (sym c.self.view_is) c.args.light c.args.position c.requires.position c.at.result found in
    c.other_than-in-None.ensures
    ∙ sym (found_second (other_than c.args.light c.across_at.result) (other_than c.args.light c.down_at.result) (sym c.other_than.ensures ∙ c.in-None.is))
    ∙ only_crossing grid c.args.self.now c.self.view_is lights c.self.invariant.0 c.args.light c.args.position c.requires.position c.cell-cell.result cell c.across_at.result c.down_at.result c.across_at.ensures c.down_at.ensures other crossing
