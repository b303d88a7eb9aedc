use Rattle.std.proofs.Common.{◌≡◌, ℕ, ap, sym, ◌∙◌, subst, refl, List}
use Rattle.std.specs.Prelude.{Some, flat_map}
use Rattle.xw_grid.specs.Grid.{Grid}
use Rattle.xw_feas.specs.declared.edit.Refusal.{Refusal}
use Rattle.xw_search.specs.Listing.{unlisted_of}
use Rattle.xw_lines.specs.Sends.{Sends}
use Rattle.xw_commands.specs.declared.query.Query.TheVariants as queries
use Rattle.xw_answers.specs.declared.refusal.CommandRefusal.TheVariants as refusals
use Rattle.xw_session.specs.State.{SessionState}
use Rattle.xw_answers.specs.Text.{spelled_line}
use Rattle.xw_session.proofs.Answering.{query_answers, query_unanswered}
use Rattle.xw_session.proofs.session.Session.answer_unlisted.Goals as goal

pub returns-in-Ok : goal.returns-in-Ok
returns-in-Ok g c =
    let state = c.args.self.now in
    let grid : c.grid.result.now ≡ state.engine.grid = c.grid.ensures ∙ ap (λ (s : SessionState). s.engine.grid) c.self.view_is in
    let found = c.deref.ensures.value ∙ c.in-Ok.ensures.lists ∙ ap (λ (s : SessionState). unlisted_of s.engine) c.self.view_is in
    let lines : flat_map (spelled_line c.grid.result.now) c.deref.result.now ≡ flat_map (spelled_line state.engine.grid) (unlisted_of state.engine) =
    ap (λ (grid : Grid). flat_map (spelled_line grid) c.deref.result.now) grid ∙ ap (flat_map (spelled_line state.engine.grid)) found in
    rw c.accepted.ensures (query_answers g.W.Sink.transcript g.W.Sink.failures state queries.Unlisted (flat_map (spelled_line state.engine.grid) (unlisted_of state.engine)) _ _ _ refl
    (subst (λ (xs : List ℕ). Sends g.W.Sink.transcript g.W.Sink.failures c.args.sink.now c.write_unlisted.new.sink c.write_unlisted.result xs) lines c.write_unlisted.ensures))

pub returns-in-Err : goal.returns-in-Err
returns-in-Err g c =
    query_unanswered g.W.Sink.transcript g.W.Sink.failures c.args.self.now queries.Unlisted _ (refusals.Engine c.in-Err.refusal) _ refl (ap (λ (r : Refusal). Some (refusals.Engine r)) (sym c.in-Err.ensures.memory))
