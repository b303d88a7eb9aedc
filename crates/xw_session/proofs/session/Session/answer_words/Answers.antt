use Rattle.std.proofs.Common.{◌≡◌, ◌∙◌, ℕ, List, Some, ap, subst}
use Rattle.std.specs.Prelude.{length}
use Rattle.xw_grid.specs.Light.{lights_of, index_named}
use Rattle.xw_lines.specs.Sends.{Sends}
use Rattle.xw_search.specs.Position.{position_of}
use Rattle.xw_search.specs.FeasibleWords.{feasible_words}
use Rattle.xw_commands.specs.declared.query.Query.TheVariants as queries
use Rattle.xw_answers.specs.declared.refusal.CommandRefusal.TheVariants as refusals
use Rattle.xw_feas.specs.declared.edit.Refusal.TheVariants as edits
use Rattle.xw_answers.specs.Text.{counted_lines}
use Rattle.xw_session.specs.Reply.{worded, first_words, name_of_light}
use Rattle.xw_session.proofs.Answering.{query_answers, query_refused}
use Rattle.xw_session.proofs.session.Session.answer_words.Goals as goal

pub returns-in-Some : goal.returns-in-Some
returns-in-Some g c =
    let state = c.args.self.now in
    let words = c.in-Some.ensures.some in
    let all = feasible_words (position_of state.engine) words.0 in
    let at_light : worded state (index_named (lights_of state.engine.grid) (name_of_light c.args.named)) c.args.most ≡ worded state (Some words.0) c.args.most = ap (λ light. worded state light c.args.most) words.1 in
    let lines : counted_lines c.in-Some.count (first_words c.args.most c.in-Some.found) ≡ counted_lines (length all) (first_words c.args.most all) =
    ap (λ count. counted_lines count (first_words c.args.most c.in-Some.found)) words.2 ∙ ap (λ (xs : List (List ℕ)). counted_lines (length all) (first_words c.args.most xs)) words.3 in
    rw c.accepted.ensures (query_answers g.W.Sink.transcript g.W.Sink.failures state (queries.Words c.args.named c.args.most) (counted_lines (length all) (first_words c.args.most all)) _ _ _ at_light
    (subst (λ (xs : List ℕ). Sends g.W.Sink.transcript g.W.Sink.failures c.args.sink.now c.write_counted.new.sink c.write_counted.result xs) lines c.write_counted.ensures))

pub returns-in-None : goal.returns-in-None
returns-in-None g c = query_refused g.W.Sink.transcript g.W.Sink.failures c.args.self.now (queries.Words c.args.named c.args.most) (refusals.Engine edits.NoLight) _ (ap (λ light. worded c.args.self.now light c.args.most) c.in-None.ensures.none)
