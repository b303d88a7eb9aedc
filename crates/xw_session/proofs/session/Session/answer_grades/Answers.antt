use Rattle.std.proofs.Common.{◌≡◌, List, Ok, Err, ap, subst}
use Rattle.std.specs.Prelude.{if◌then◌else◌}
use Rattle.xw_grid.specs.Puzzle.{texts_view}
use Rattle.xw_search.specs.NamedFill.{AreLights}
use Rattle.xw_commands.specs.declared.command.LightArg.{LightArg}
use Rattle.xw_commands.specs.declared.query.Query.TheVariants as queries
use Rattle.xw_answers.specs.declared.refusal.CommandRefusal.TheVariants as refusals
use Rattle.xw_feas.specs.declared.edit.Refusal.TheVariants as edits
use Rattle.xw_session.specs.State.{SessionState}
use Rattle.xw_session.specs.NamedSearch.{names_of}
use Rattle.xw_session.specs.Grades.{grade_lines}
use Rattle.xw_session.specs.Reply.{graded}
use Rattle.xw_session.proofs.Answering.{query_answers, query_refused}
use Rattle.xw_session.proofs.Grading.{all_there, some_missing}
use Rattle.xw_session.proofs.session.Session.answer_grades.Goals as goal

pub returns-then-not-are_lights : goal.returns-then-not-are_lights
returns-then-not-are_lights g c =
    let left = c.self.inside in
    let start : SessionState = record { engine = g.E.Feasible.state left.engine; texts = texts_view left.texts; clues = left.clues; circles = left.circles; is_watched = left.is_watched; begun = left.begun } in
    let names = names_of c.args.lights in
    let missing = some_missing start.engine names (subst (λ (lights : List LightArg). AreLights start.engine (names_of lights) → ⊥) c.copy.ensures (c.are_lights.ensures.no c.if-not-are_lights.true)) in
    let refused : graded start names ≡ Err (refusals.Engine edits.NoLight) = ap (λ b. if b then Ok (grade_lines start.engine names) else Err (refusals.Engine edits.NoLight)) missing in
    rw (← c.self.view_is) (query_refused g.W.Sink.transcript g.W.Sink.failures start (queries.Grades c.args.lights) (refusals.Engine edits.NoLight) _ refused)

pub write_grades-requires : goal.write_grades-requires
write_grades-requires g c =
    subst (λ (lights : List LightArg). AreLights (g.E.Feasible.state c.self.inside.engine) (names_of lights)) c.copy.ensures (c.are_lights.ensures.yes c.if-not-are_lights.false)

pub returns : goal.returns
returns g c =
    let left = c.self.inside in
    let start : SessionState = record { engine = g.E.Feasible.state left.engine; texts = texts_view left.texts; clues = left.clues; circles = left.circles; is_watched = left.is_watched; begun = left.begun } in
    let names = names_of c.args.lights in
    let there = all_there start.engine names (subst (λ (lights : List LightArg). AreLights start.engine (names_of lights)) c.copy.ensures (c.are_lights.ensures.yes c.if-not-are_lights.false)) in
    let told : graded start names ≡ Ok (grade_lines start.engine names) = ap (λ b. if b then Ok (grade_lines start.engine names) else Err (refusals.Engine edits.NoLight)) there in
    rw (c.accepted.ensures, ← c.self.view_is) (query_answers g.W.Sink.transcript g.W.Sink.failures start (queries.Grades c.args.lights) (grade_lines start.engine names) _ _ _ told c.write_grades.ensures)
