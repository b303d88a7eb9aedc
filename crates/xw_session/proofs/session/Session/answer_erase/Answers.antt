use Rattle.std.proofs.Common.{◌≡◌, Err, inl, refl, ap, subst, sym, ◌∙◌}
use Rattle.xw_grid.specs.Grid.{IsGrid}
use Rattle.xw_grid.specs.Light.{lights_of}
use Rattle.xw_feas.specs.State.{after, list_written}
use Rattle.xw_answers.specs.declared.refusal.CommandRefusal.TheVariants as refusals
use Rattle.xw_commands.specs.declared.change.Change.TheVariants as changes
use Rattle.xw_feas.specs.declared.edit.Refusal.TheVariants as edits
use Rattle.xw_session.specs.State.{SessionState}
use Rattle.xw_session.specs.Erase.{erased_cells, emptied}
use Rattle.xw_session.specs.Reply.{moved, erased}
use Rattle.xw_session.proofs.Answering.{edit_answers}
use Rattle.xw_answers.proofs.LightTexts.{found_short}
use Rattle.xw_session.proofs.session.Session.answer_erase.Goals as goal

pub erased_cells-erased-requires-clause-short : goal.erased_cells-erased-requires-clause-short
erased_cells-erased-requires-clause-short g c =
    let state = c.args.self.now in
    let formed = subst (λ (s : SessionState). IsGrid s.engine.grid) c.self.view_is (g.met.E.Feasible.well_formed c.self.inside.engine).grid in
    (found_short state.engine.grid (lights_of state.engine.grid) c.in-Some.light _ refl formed (sym c.light.ensures ∙ c.in-Some.is)).0

pub erased_cells-erased-requires-clause-inside : goal.erased_cells-erased-requires-clause-inside
erased_cells-erased-requires-clause-inside g c =
    let state = c.args.self.now in
    let formed = subst (λ (s : SessionState). IsGrid s.engine.grid) c.self.view_is (g.met.E.Feasible.well_formed c.self.inside.engine).grid in
    let short = found_short state.engine.grid (lights_of state.engine.grid) c.in-Some.light _ refl formed (sym c.light.ensures ∙ c.in-Some.is) in
    (short.1, short.2)

pub returns-in-Some : goal.returns-in-Some
returns-in-Some g c =
    let state = c.args.self.now in
    let cells : c.list.result.now ≡ emptied (erased_cells state.engine c.in-Some.light) =
    c.list.ensures ∙ c.erased_cells-erased.ensures ∙ ap (λ (s : SessionState). emptied (erased_cells s.engine c.in-Some.light)) c.self.view_is in
    (_, ap (erased state) (sym c.light.ensures ∙ c.in-Some.is) ∙ ap (λ list. moved state (after state.engine (list_written list))) (sym cells), c.answer_edit.ensures)

pub returns-in-None : goal.returns-in-None
returns-in-None g c =
    edit_answers g.W.Sink.transcript g.W.Sink.failures c.args.self.now c.args.self.now (changes.Erase c.args.named) (Err (refusals.Engine edits.NoLight)) _ (inl (ap (erased c.args.self.now) (sym c.light.ensures ∙ c.in-None.is)), refl)
