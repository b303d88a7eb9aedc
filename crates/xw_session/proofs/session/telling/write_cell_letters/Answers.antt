use Rattle.std.proofs.Common.{◌≡◌, List, ℕ, true, ap, sym, ◌∙◌, subst}
use Rattle.xw_grid.specs.Grid.{Grid, is_open}
use Rattle.xw_lines.specs.Sends.{Sends}
use Rattle.xw_session.proofs.Report.{told_letters, never_untold}
use Rattle.xw_session.proofs.session.telling.write_cell_letters.Goals as goal

pub returns-in-Ok : goal.returns-in-Ok
returns-in-Ok g c =
    let engine = g.E.Feasible.state c.args.engine.now in
    let opened : is_open engine.grid c.args.cell ≡ true = ap (λ (grid : Grid). is_open grid c.args.cell) (sym c.grid.ensures) ∙ sym c.is_open.ensures ∙ c.if-not-is_open.false in
    subst (λ (text : List ℕ). Sends g.W.Sink.transcript g.W.Sink.failures c.args.sink.now c.write_change.new.sink c.write_change.result text)
    (told_letters engine (g.E.Feasible.answers c.args.engine.now) c.args.cell c.in-Ok.letters (g.met.E.Feasible.exact c.args.engine.now) opened c.in-Ok.ensures)
    c.write_change.ensures

pub returns-in-Err : goal.returns-in-Err
returns-in-Err g c =
    let engine = g.E.Feasible.state c.args.engine.now in
    let opened : is_open engine.grid c.args.cell ≡ true = ap (λ (grid : Grid). is_open grid c.args.cell) (sym c.grid.ensures) ∙ sym c.is_open.ensures ∙ c.if-not-is_open.false in
    absurd (never_untold engine (g.E.Feasible.answers c.args.engine.now) c.args.cell _ opened c.in-Err.ensures)
