use Rattle.std.proofs.Common.{subst}
use Rattle.xw_grid.specs.Puzzle.{texts_view}
use Rattle.xw_best.specs.declared.best.Best.TheVariants as bests
use Rattle.xw_best.specs.Best.{IsBest}
use Rattle.xw_commands.specs.declared.search.Search.TheVariants as searches
use Rattle.xw_session.specs.State.{SessionState}
use Rattle.xw_session.specs.Best.{best_lines}
use Rattle.xw_session.specs.NamedSearch.{names_of}
use Rattle.xw_session.specs.Answer.{AnswersSearch}
use Rattle.xw_session.proofs.Searching.{search_fits, best_limit}
use Rattle.xw_session.proofs.Engine.{lines_effect}
use Rattle.xw_session.proofs.session.Session.answer_best.Goals as goal

pub returns : goal.returns
returns g c =
    let left = c.self.inside in
    let start : SessionState = record { engine = g.E.Feasible.state left.engine; texts = texts_view left.texts; clues = left.clues; circles = left.circles; is_watched = left.is_watched; begun = left.begun } in
    let found = c.best_filled-best in
    let now = g.E.Feasible.state found.new.engine in
    let end : SessionState = record start { engine = now } in
    let fits = search_fits best_lines IsBest start (names_of c.args.lights) now found.result (bests.Limit 101) (best_limit _ start.engine (g.met.E.Feasible.well_formed left.engine).dictionary.least) found.ensures.known found.ensures.ok found.ensures.refused in
    subst (λ (s : SessionState). AnswersSearch g.W.Sink.transcript g.W.Sink.failures s (searches.Best c.args.limit c.args.seed c.args.lights) c.write_given.result end c.args.sink.now c.write_given.new.sink) c.self.view_is (
      fits.0,
      fits.1,
      record {
        reply = _;
        fits = fits.2;
        effect = lines_effect _ start now found.result found.ensures.unchanged;
        sends = c.write_given.ensures.sends end;
        ends = c.write_given.ensures.ends end;
      },
    )
