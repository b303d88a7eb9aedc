use Rattle.std.proofs.Common.{◌≡◌, ◌∙◌, ap, refl, subst}
use Rattle.xw_feas.specs.State.{State}
use Rattle.xw_grid.specs.Puzzle.{texts_view}
use Rattle.xw_commands.specs.declared.query.Query.TheVariants as queries
use Rattle.xw_session.specs.State.{SessionState}
use Rattle.xw_session.specs.Reply.{name_of_light, asked}
use Rattle.xw_session.specs.Answer.{AnswersQuery}
use Rattle.xw_session.proofs.Reasoning.{why_fits, why_effect}
use Rattle.xw_session.proofs.session.Session.answer_why.Goals as goal

pub returns-clause-answer : goal.returns-clause-answer
returns-clause-answer g c =
    let left = c.self.inside in
    let start : SessionState = record { engine = g.E.Feasible.state left.engine; texts = texts_view left.texts; clues = left.clues; circles = left.circles; is_watched = left.is_watched; begun = left.begun } in
    let grid : c.grid.result.now ≡ start.engine.grid = c.grid.ensures ∙ ap (λ (p : State). p.grid) c.reason_for-found.ensures.unchanged in
    let fits = why_fits start (name_of_light c.args.named) c.grid.result.now c.reason_for-found.result grid c.reason_for-found.ensures.ok c.reason_for-found.ensures.refused in
    subst (λ (s : SessionState). AnswersQuery g.W.Sink.transcript g.W.Sink.failures s (queries.Why c.args.named) c.write_reason.result c.args.sink.now c.write_reason.new.sink) c.self.view_is (
      asked start fits.0,
      (fits.0, fits.1, refl),
      record {
        reply = _;
        fits = fits.2;
        effect = why_effect start c.grid.result.now c.reason_for-found.result;
        sends = c.write_reason.ensures.sends start;
        ends = c.write_reason.ensures.ends start;
      },
    )

pub returns-clause-unchanged : goal.returns-clause-unchanged
returns-clause-unchanged g c = rw (c.reason_for-found.ensures.unchanged, ← c.self.view_is) refl
