use Rattle.std.proofs.Common.{ℕ, List, Ok, ap, sym, ◌∙◌}
use Rattle.xw_letters.specs.LetterSet.{letters_in}
use Rattle.xw_commands.specs.declared.query.Query.TheVariants as queries
use Rattle.xw_answers.specs.Text.{letters_line}
use Rattle.xw_answers.specs.declared.refusal.CommandRefusal.TheVariants as refusals
use Rattle.xw_session.proofs.Answering.{query_answers, query_refused}
use Rattle.xw_session.proofs.session.Session.answer_letters.Goals as goal

pub returns-in-Ok : goal.returns-in-Ok
returns-in-Ok g c =
    let found = c.in-Ok.ensures.ok in
    rw c.accepted.ensures (query_answers g.W.Sink.transcript g.W.Sink.failures c.args.self.now (queries.Letters c.args.spot) (letters_line (letters_in c.in-Ok.found.1)) _ _ _ (found.1 _ ∙ ap (λ (letters : List ℕ). Ok (letters_line letters)) (sym found.2)) c.write_letter_set.ensures)

pub returns-in-Err : goal.returns-in-Err
returns-in-Err g c = query_refused g.W.Sink.transcript g.W.Sink.failures c.args.self.now (queries.Letters c.args.spot) (refusals.Engine c.in-Err.refusal) _ (c.in-Err.ensures.refused _)
