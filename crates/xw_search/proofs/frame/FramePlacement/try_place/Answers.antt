use Rattle.std.proofs.Common.{◌<◌, ◌*◌, sym, ap, ◌∙◌, subst}
use Rattle.xw_grid.specs.Grid.{Grid, cell_at}
use Rattle.xw_feas.specs.State.{State, letter_set}
use Rattle.xw_search.specs.Position.{Position}
use Rattle.xw_search.specs.Lights.{light_count}
use Rattle.xw_search.specs.Progress.{IsLetterSet, CanBeEntered, IsLetterEntered}
use Rattle.xw_search.specs.declared.frame.Frame.{Frame}
use Rattle.xw_search.proofs.Entering.{open_within, letter_entered, letter_may}
use Rattle.xw_search.proofs.LetterSearch.{open_there, position_at}
use Rattle.xw_search.proofs.TryingLemmas.{tried_ok}
use Rattle.xw_search.proofs.frame.FramePlacement.try_place.Goals as goal

entered_in : (frame : Frame) (before after : State) → CanBeEntered frame before → IsLetterSet frame.cell frame.letter before after → IsLetterEntered frame before after
entered_in frame before after can is = record { opens = open_there before after frame.cell is.rest can.opens; empty = can.empty; entered = is.entries; entries = is.rest }

pub cell_at-cell-requires : goal.cell_at-cell-requires
cell_at-cell-requires g c =
    let state = g.E.Feasible.state c.args.engine.now in
    subst (λ (grid : Grid). c.args.self.now.cell < grid.width * grid.height) (sym c.grid.ensures) (open_within state.grid c.args.self.now.cell (g.met.E.Feasible.well_formed c.args.engine.now).grid c.requires.opens)

pub try_letter-requires : goal.try_letter-requires
try_letter-requires g c =
    let state = g.E.Feasible.state c.args.engine.now in
    let frame = c.args.self.now in
    let spot = c.cell_at-cell.ensures.cell ∙ ap (λ (grid : Grid). cell_at grid frame.cell) c.grid.ensures in
    letter_may state frame.cell c.cell_at-cell.result frame.letter (g.met.E.Feasible.well_formed c.args.engine.now).grid c.requires.opens spot c.requires.empty c.requires.feasible

pub returns-clause-led : goal.returns-clause-led
returns-clause-led g c =
    let before = g.E.Feasible.state c.args.engine.now in
    let frame = c.args.self.now in
    let spot = c.cell_at-cell.ensures.cell ∙ ap (λ (grid : Grid). cell_at grid frame.cell) c.grid.ensures in
    tried_ok before (g.E.Feasible.state c.try_letter.new.self) (letter_set c.cell_at-cell.result frame.letter) c.args.watched.now (IsLetterEntered frame before)
    (λ there made. entered_in frame before there c.requires (letter_entered before there frame.cell c.cell_at-cell.result frame.letter (g.met.E.Feasible.well_formed c.args.engine.now).grid c.requires.opens spot made))
    (λ there entered. ap (λ (p : Position). light_count p) (position_at before there entered.entries)) c.try_letter.result c.try_letter.ensures.tried
