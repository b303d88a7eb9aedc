use Rattle.std.proofs.Common.{◌≡◌, ◌∙◌, ◌+◌, ◌<◌, ◌*◌, sym, ap, subst, arith, length, [], ◌∷◌, ◌++◌, if◌then◌else◌}
use Rattle.std.specs.Result.{is_ok}
use Rattle.xw_grid.specs.Grid.{Grid, cell_at}
use Rattle.xw_feas.specs.Board.{entry}
use Rattle.xw_fill.proofs.EntryLemmas.{IsListBelow, list_none, list_more, list_same, list_all, cell_within}
use Rattle.xw_fill.proofs.why.entries.entered_cells.Goals.{then-is_some+in_ok-map_err, else-is_some}
use Rattle.xw_fill.proofs.why.entries.entered_cells.Goals as goal

pub loop-index-init : goal.loop-index-init
loop-index-init g c = list_none (g.E.Feasible.state c.args.engine.now) c.new-list.result.items c.new-list.ensures.items

pub cell_at-cell-requires : goal.cell_at-cell-requires
cell_at-cell-requires g c =
    let state = g.E.Feasible.state c.args.engine.now in
    subst (λ (grid : Grid). c.loop-index.index < grid.width * grid.height) (sym c.grid.ensures)
    (cell_within state.grid c.loop-index.index (g.met.E.Feasible.well_formed c.args.engine.now).grid (omega (arith, c.loop-index-test.true, c.cell_count-index-end.ensures.entries, ap (λ b. length b.entries) c.board.ensures)))

pub loop-index-preserved : goal.loop-index-preserved
loop-index-preserved g c =
    let state = g.E.Feasible.state c.args.engine.now in
    let index = c.loop-index.index in
    let before = c.loop-index.list.items in
    let letter = c.entry-letter.ensures.entry ∙ ap (λ b. entry b index) c.board-in-loop-index.ensures in
    elim c.if-is_some.branch [
      | then-is_some+in_ok-map_err w ↦
          let is_pushed = sym w.map_err.ensures.variant ∙ ap is_ok w.in_ok-map_err.was in
          let items : c.if-is_some.list.items ≡ before ++ (w.cell_at-cell.result, c.entry-letter.result) ∷ [] =
          ap (λ list. list.items) w.list-is ∙ w.push.ensures.items
          ∙ ap (λ pushed. if pushed then before ++ (w.cell_at-cell.result, c.entry-letter.result) ∷ [] else before) is_pushed in
          list_more state index before c.if-is_some.list.items w.cell_at-cell.result c.entry-letter.result (g.met.E.Feasible.well_formed c.args.engine.now).grid
          (w.cell_at-cell.ensures.cell ∙ ap (λ (grid : Grid). cell_at grid index) w.grid.ensures) letter (sym c.is_some.ensures ∙ w.if-is_some.true) c.loop-index.invariant items
      | else-is_some w ↦
          subst (IsListBelow state (index + 1)) (sym (ap (λ list. list.items) w.list-is))
          (list_same state index before c.entry-letter.result letter (sym c.is_some.ensures ∙ w.if-is_some.false) c.loop-index.invariant)
    ]

pub returns-clause-ok : goal.returns-clause-ok
returns-clause-ok g c =
    let state = g.E.Feasible.state c.args.engine.now in
    list_all state c.loop-index.index c.loop-index.list.items (omega (arith, c.loop-index-test.false, c.cell_count-index-end.ensures.entries, ap (λ b. length b.entries) c.board.ensures)) c.loop-index.invariant
