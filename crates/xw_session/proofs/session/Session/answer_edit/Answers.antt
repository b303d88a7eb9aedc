use Rattle.std.proofs.Common.{subst}
use Rattle.xw_grid.specs.Puzzle.{texts_view}
use Rattle.xw_feas.specs.State.{after, action_of}
use Rattle.xw_session.specs.State.{SessionState}
use Rattle.xw_session.specs.Reply.{moved, want_of_action}
use Rattle.xw_session.specs.Answer.{AnswersBy}
use Rattle.xw_session.proofs.Engine.{edit_fits, edit_effect}
use Rattle.xw_session.proofs.session.Session.answer_edit.Goals as goal

pub returns : goal.returns
returns g c =
    let left = c.self.inside in
    let start : SessionState = record { engine = g.E.Feasible.state left.engine; texts = texts_view left.texts; clues = left.clues; circles = left.circles; is_watched = left.is_watched; begun = left.begun } in
    let now = c.edit.follows.lender-at-none in
    let action = action_of c.args.edit.now in
    let end : SessionState = record start { engine = g.E.Feasible.state now } in
    subst (λ (s : SessionState). AnswersBy g.W.Sink.transcript g.W.Sink.failures s (moved s (after s.engine action)) (want_of_action s action) c.write_edited.result end c.args.sink.now c.write_edited.new.sink) c.self.view_is (record {
      reply = _;
      fits = edit_fits start (g.E.Feasible.state now) (g.E.Feasible.answers left.engine) (g.E.Feasible.answers now) action (g.met.E.Feasible.exact left.engine) (g.met.E.Feasible.exact now) c.edit.result c.edit.follows.holds-at-none.0;
      effect = edit_effect start (g.E.Feasible.state now) (g.E.Feasible.answers left.engine) (g.E.Feasible.answers now) action c.edit.result c.edit.follows.holds-at-none.0;
      sends = c.write_edited.ensures.sends end;
      ends = c.write_edited.ensures.ends end;
    })
