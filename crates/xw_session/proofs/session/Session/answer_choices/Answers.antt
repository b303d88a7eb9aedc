use Rattle.std.proofs.Common.{◌≡◌, ◌∙◌, Some, Ok, Err, ap, sym, subst, refl, arith}
use Rattle.std.proofs.lemmas.List.Quantifiers.{position-Some}
use Rattle.xw_grid.specs.Light.{lights_of, no_light, index_named, same_name}
use Rattle.xw_grid.specs.Puzzle.{texts_view}
use Rattle.xw_feas.proofs.BoardLemmas.{length-lights}
use Rattle.xw_commands.specs.declared.query.Query.TheVariants as queries
use Rattle.xw_answers.specs.declared.refusal.CommandRefusal.TheVariants as refusals
use Rattle.xw_feas.specs.declared.edit.Refusal.TheVariants as edits
use Rattle.xw_session.specs.State.{SessionState}
use Rattle.xw_session.specs.Choices.{choice_lines}
use Rattle.xw_session.specs.Answer.{IsAnswer}
use Rattle.xw_session.specs.Reply.{weighed, name_of_light}
use Rattle.xw_session.proofs.Answering.{query_answers, query_refused}
use Rattle.xw_session.proofs.Choosing.{weighed_by}
use Rattle.xw_session.proofs.session.Session.answer_choices.Goals as goal

pub first_index-requires : goal.first_index-requires
first_index-requires g c =
    let grid = (g.E.Feasible.state c.self.inside.engine).grid in
    let found : index_named (lights_of grid) (name_of_light c.args.named) ≡ Some c.in-Some.light = ap (λ (s : SessionState). index_named (lights_of s.engine.grid) (name_of_light c.args.named)) c.self.view_is ∙ sym c.light_index.ensures ∙ c.in-Some.is in
    let at = position-Some (λ light. same_name light.name (name_of_light c.args.named)) (lights_of grid) c.in-Some.light no_light found in
    omega (arith, at.0, length-lights grid)

pub write_weighed-requires : goal.write_weighed-requires
write_weighed-requires g c =
    let grid = (g.E.Feasible.state c.self.inside.engine).grid in
    let found : index_named (lights_of grid) (name_of_light c.args.named) ≡ Some c.in-Some.light = ap (λ (s : SessionState). index_named (lights_of s.engine.grid) (name_of_light c.args.named)) c.self.view_is ∙ sym c.light_index.ensures ∙ c.in-Some.is in
    let at = position-Some (λ light. same_name light.name (name_of_light c.args.named)) (lights_of grid) c.in-Some.light no_light found in
    omega (arith, at.0, length-lights grid)

pub returns-in_default-clause-answer : goal.returns-in_default-clause-answer
returns-in_default-clause-answer g c =
    query_refused g.W.Sink.transcript g.W.Sink.failures c.args.self.now (queries.Choices c.args.named c.args.most c.args.first.now) (refusals.Engine edits.NoLight) _ (ap (λ light. weighed c.args.self.now light c.args.most c.args.first.now) (sym c.in_default.ensures))

pub returns-in-Ok-clause-answer : goal.returns-in-Ok-clause-answer
returns-in-Ok-clause-answer g c =
    let left = c.self.inside in
    let start : SessionState = record { engine = g.E.Feasible.state left.engine; texts = texts_view left.texts; clues = left.clues; circles = left.circles; is_watched = left.is_watched; begun = left.begun } in
    let lines = choice_lines start.engine c.in-Some.light c.in-Ok.from c.args.most in
    let found : index_named (lights_of start.engine.grid) (name_of_light c.args.named) ≡ Some c.in-Some.light = ap (λ (s : SessionState). index_named (lights_of s.engine.grid) (name_of_light c.args.named)) c.self.view_is ∙ sym c.light_index.ensures ∙ c.in-Some.is in
    rw (c.accepted.ensures, ← c.self.view_is) (query_answers g.W.Sink.transcript g.W.Sink.failures start (queries.Choices c.args.named c.args.most c.args.first.now) lines _ _ _ (weighed_by start c.in-Some.light c.args.most c.args.first.now (index_named (lights_of start.engine.grid) (name_of_light c.args.named)) (Ok c.in-Ok.from) found (sym c.in-Ok.is ∙ c.first_index.ensures)) c.write_weighed.ensures.sends)

pub returns-in-Err-clause-answer : goal.returns-in-Err-clause-answer
returns-in-Err-clause-answer g c =
    let left = c.self.inside in
    let start : SessionState = record { engine = g.E.Feasible.state left.engine; texts = texts_view left.texts; clues = left.clues; circles = left.circles; is_watched = left.is_watched; begun = left.begun } in
    let found : index_named (lights_of start.engine.grid) (name_of_light c.args.named) ≡ Some c.in-Some.light = ap (λ (s : SessionState). index_named (lights_of s.engine.grid) (name_of_light c.args.named)) c.self.view_is ∙ sym c.light_index.ensures ∙ c.in-Some.is in
    let due = weighed_by start c.in-Some.light c.args.most c.args.first.now (index_named (lights_of start.engine.grid) (name_of_light c.args.named)) (Err c.in-Err.refusal) found (sym c.in-Err.is ∙ c.first_index.ensures) in
    query_refused g.W.Sink.transcript g.W.Sink.failures c.args.self.now (queries.Choices c.args.named c.args.most c.args.first.now) (refusals.Engine c.in-Err.refusal) _ (subst (λ (s : SessionState). IsAnswer s (queries.Choices c.args.named c.args.most c.args.first.now) (Err (refusals.Engine c.in-Err.refusal))) c.self.view_is due)

pub returns-in-Ok-clause-unchanged : goal.returns-in-Ok-clause-unchanged
returns-in-Ok-clause-unchanged g c = rw (c.write_weighed.ensures.unchanged, ← c.self.view_is) refl
