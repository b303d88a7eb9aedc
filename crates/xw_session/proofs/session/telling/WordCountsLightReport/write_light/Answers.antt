use Rattle.std.proofs.Common.{◌≡◌, ◌<◌, List, length, get_or, Some, ap, sym, ◌∙◌, subst, ℕ}
use Rattle.std.specs.Prelude.{slice_get}
use Rattle.std.proofs.lemmas.Option.{slice_get-get_or}
use Rattle.xw_grid.specs.declared.lights.Light.{Light}
use Rattle.xw_grid.specs.Light.{lights_of, no_light}
use Rattle.xw_search.proofs.StateLemmas.{in_grid_light}
use Rattle.xw_lines.specs.Sends.{Sends}
use Rattle.xw_session.proofs.Report.{counted_line}
use Rattle.xw_session.proofs.session.telling.WordCountsLightReport.write_light.Goals as goal

pub at-requires : goal.at-requires
at-requires g c = subst (λ (lights : List Light). c.args.light < length lights) (sym c.lights.ensures) (in_grid_light (g.E.Feasible.state c.args.engine.now).grid c.args.light c.requires)

pub word_count_at-requires : goal.word_count_at-requires
word_count_at-requires g c = in_grid_light (g.E.Feasible.state c.args.engine.now).grid c.args.light c.requires

pub returns : goal.returns
returns g c =
    let engine = g.E.Feasible.state c.args.engine.now in
    let there : slice_get (lights_of engine.grid) c.args.light ≡ Some c.at.result =
    slice_get-get_or (lights_of engine.grid) c.args.light no_light (in_grid_light engine.grid c.args.light c.requires) ∙ ap Some (sym (c.at.ensures ∙ ap (λ lights. get_or lights c.args.light no_light) c.lights.ensures)) in
    subst (λ (text : List ℕ). Sends g.W.Sink.transcript g.W.Sink.failures c.args.sink.now c.write_numbered.new.sink c.write_numbered.result text)
    (counted_line engine (g.E.Feasible.answers c.args.engine.now) c.args.light c.at.result c.word_count_at.result (g.met.E.Feasible.exact c.args.engine.now) there c.word_count_at.ensures)
    c.write_numbered.ensures
