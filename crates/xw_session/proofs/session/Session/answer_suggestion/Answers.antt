use Rattle.std.proofs.Common.{◌≡◌, ◌∙◌, List, ℕ, subst, ap, refl}
use Rattle.xw_grid.specs.Puzzle.{texts_view}
use Rattle.xw_feas.specs.State.{State}
use Rattle.xw_fill.specs.Suggesting.{suggestion}
use Rattle.xw_lines.specs.Sends.{Sends}
use Rattle.xw_session.specs.State.{SessionState}
use Rattle.xw_session.specs.Found.{suggestion_line}
use Rattle.xw_commands.specs.declared.query.Query.TheVariants as queries
use Rattle.xw_session.proofs.Answering.{query_answers}
use Rattle.xw_session.proofs.session.Session.answer_suggestion.Goals as goal

pub returns-clause-answer : goal.returns-clause-answer
returns-clause-answer g c =
    let left = c.self.inside in
    let start : SessionState = record { engine = g.E.Feasible.state left.engine; texts = texts_view left.texts; clues = left.clues; circles = left.circles; is_watched = left.is_watched; begun = left.begun } in
    let f = c.suggest-suggestion.ensures in
    let lines : suggestion_line (g.E.Feasible.state c.suggest-suggestion.new.engine) c.suggest-suggestion.result ≡ suggestion_line start.engine (suggestion start.engine) =
    ap (λ (p : State). suggestion_line p c.suggest-suggestion.result) f.unchanged ∙ ap (suggestion_line start.engine) f.suggestion in
    rw (c.accepted.ensures, ← c.self.view_is) (query_answers g.W.Sink.transcript g.W.Sink.failures start queries.Suggest (suggestion_line start.engine (suggestion start.engine)) _ _ _ refl
    (subst (λ (xs : List ℕ). Sends g.W.Sink.transcript g.W.Sink.failures c.args.sink.now c.write_suggestion.new.sink c.write_suggestion.result xs) lines c.write_suggestion.ensures))

pub returns-clause-unchanged : goal.returns-clause-unchanged
returns-clause-unchanged g c = rw (c.suggest-suggestion.ensures.unchanged, ← c.self.view_is) refl
