use Rattle.std.proofs.Common.{ℕ, List, Ok, ap, sym, ◌∙◌}
use Rattle.std.specs.Prelude.{flat_map}
use Rattle.xw_letters.specs.LetterSet.{letters_in}
use Rattle.xw_grid.specs.declared.cell.Cell.{Cell}
use Rattle.xw_commands.specs.declared.query.Query.TheVariants as queries
use Rattle.xw_answers.specs.declared.refusal.CommandRefusal.TheVariants as refusals
use Rattle.xw_session.specs.State.{cell_of}
use Rattle.xw_session.specs.Tally.{tally_line}
use Rattle.xw_session.proofs.Answering.{query_answers, query_refused}
use Rattle.xw_session.proofs.session.Session.answer_tally.Goals as goal

pub returns-in-Ok : goal.returns-in-Ok
returns-in-Ok g c =
    let engine = c.args.self.now.engine in
    let found = c.in-Ok.ensures.ok in
    let told = found.1 _ ∙ ap (λ (letters : List ℕ). Ok (flat_map (tally_line engine (cell_of c.args.spot)) letters)) (sym found.2) ∙ ap (λ (cell : Cell). Ok (flat_map (tally_line engine cell) (letters_in c.in-Ok.found.1))) (sym found.0) in
    rw c.accepted.ensures (query_answers g.W.Sink.transcript g.W.Sink.failures c.args.self.now (queries.Tally c.args.spot) (flat_map (tally_line c.args.self.now.engine c.in-Ok.found.0) (letters_in c.in-Ok.found.1)) _ _ _ told (rw (← c.self.view_is) c.write_tallies.ensures))

pub returns-in-Err : goal.returns-in-Err
returns-in-Err g c = query_refused g.W.Sink.transcript g.W.Sink.failures c.args.self.now (queries.Tally c.args.spot) (refusals.Engine c.in-Err.refusal) _ (c.in-Err.ensures.refused _)
