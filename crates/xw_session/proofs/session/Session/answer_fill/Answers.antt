use Rattle.std.proofs.Common.{subst, refl}
use Rattle.xw_grid.specs.Puzzle.{texts_view}
use Rattle.xw_session.specs.State.{SessionState}
use Rattle.xw_session.specs.Reply.{fill_tried}
use Rattle.xw_commands.specs.declared.search.Search.TheVariants as searches
use Rattle.xw_session.specs.Answer.{AnswersSearch}
use Rattle.xw_session.proofs.Engine.{fill_fits, lines_effect}
use Rattle.xw_session.proofs.session.Session.answer_fill.Goals as goal

pub returns : goal.returns
returns g c =
    let left = c.self.inside in
    let start : SessionState = record { engine = g.E.Feasible.state left.engine; texts = texts_view left.texts; clues = left.clues; circles = left.circles; is_watched = left.is_watched; begun = left.begun } in
    let now = c.fill-filled.new.engine in
    let end : SessionState = record start { engine = g.E.Feasible.state now } in
    subst (λ (s : SessionState). AnswersSearch g.W.Sink.transcript g.W.Sink.failures s (searches.Fill c.args.limit) c.write_given.result end c.args.sink.now c.write_given.new.sink) c.self.view_is (
      fill_tried start c.args.limit,
      refl,
      record {
        reply = _;
        fits = fill_fits start (g.E.Feasible.state now) c.args.limit c.fill-filled.result c.fill-filled.ensures.found c.fill-filled.ensures.memory;
        effect = lines_effect _ start (g.E.Feasible.state now) c.fill-filled.result c.fill-filled.ensures.unchanged;
        sends = c.write_given.ensures.sends end;
        ends = c.write_given.ensures.ends end;
      },
    )
