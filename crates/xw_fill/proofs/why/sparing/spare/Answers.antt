use Rattle.std.proofs.Common.{ap, ◌∙◌}
use Rattle.xw_grid.specs.Grid.{Grid, entry as grid_entry}
use Rattle.xw_search.proofs.StateLemmas.{differs_open}
use Rattle.xw_fill.proofs.ReasonLemmas.{light_there, dead_count, alive_count, needed_empty, spared_cell, needed_cell, cell_back}
use Rattle.xw_fill.proofs.why.sparing.spare.Goals as goal

pub returns-then-is_none-clause-needed : goal.returns-then-is_none-clause-needed
returns-then-is_none-clause-needed g c e =
    needed_empty (g.E.Feasible.state c.args.engine.now) c.args.light c.args.cell c.entry-letter.result c.requires.open (c.entry-letter.ensures.entry ∙ ap (λ (grid : Grid). grid_entry grid c.args.cell) c.grid.ensures) c.if-is_none.ensures

pub word_count-requires : goal.word_count-requires
word_count-requires g c = light_there (g.E.Feasible.state c.args.engine.now) (g.E.Feasible.state c.write_cell.new.engine) c.args.light c.write_cell.ensures.rest c.requires.light

pub returns-then-word_count-eq0-clause-spared : goal.returns-then-word_count-eq0-clause-spared
returns-then-word_count-eq0-clause-spared g c e =
    let now = g.E.Feasible.state c.write_cell.new.engine in
    spared_cell (g.E.Feasible.state c.args.engine.now) now c.args.light c.args.cell c.entry-letter.result c.requires.open (c.entry-letter.ensures.entry ∙ ap (λ (grid : Grid). grid_entry grid c.args.cell) c.grid.ensures) c.if-is_none.ensures
    c.write_cell.ensures.entries c.write_cell.ensures.rest (dead_count _ c.args.light c.word_count.result c.word_count.ensures c.if-word_count-eq0.true)

pub write_cell-requires-2-clause-open : goal.write_cell-requires-2-clause-open
write_cell-requires-2-clause-open g c = differs_open (g.E.Feasible.state c.args.engine.now) (g.E.Feasible.state c.write_cell.new.engine) c.args.cell c.write_cell.ensures.rest ∙ c.requires.open

pub returns-clause-needed : goal.returns-clause-needed
returns-clause-needed g c e =
    needed_cell (g.E.Feasible.state c.args.engine.now) (g.E.Feasible.state c.write_cell.new.engine) c.args.light c.args.cell c.write_cell.ensures.entries c.write_cell.ensures.rest
    (alive_count _ c.args.light c.word_count.result c.word_count.ensures c.if-word_count-eq0.false)

pub returns-clause-same : goal.returns-clause-same
returns-clause-same g c e =
    cell_back (g.E.Feasible.state c.args.engine.now) (g.E.Feasible.state c.write_cell.new.engine) (g.E.Feasible.state c.write_cell-2.new.engine) c.args.cell c.entry-letter.result c.requires.open (c.entry-letter.ensures.entry ∙ ap (λ (grid : Grid). grid_entry grid c.args.cell) c.grid.ensures)
    c.write_cell.ensures.entries c.write_cell.ensures.rest c.write_cell-2.ensures.entries c.write_cell-2.ensures.rest
