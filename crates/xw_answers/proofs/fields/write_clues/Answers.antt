use Rattle.std.proofs.Common.{List, subst, arith}
use Rattle.std.specs.Prelude.{flat_map}
use Rattle.std.proofs.lemmas.Result.{err_from_is_err_and}
use Rattle.xw_grid.specs.declared.lights.Light.{Light}
use Rattle.xw_grid.specs.Light.{no_light}
use Rattle.xw_lines.specs.Device.{Begins, HasFailed}
use Rattle.xw_answers.specs.Fields.{clue_told}
use Rattle.xw_lines.proofs.SendsLemmas.{each_stops}
use Rattle.xw_answers.proofs.fields.write_clues.Goals as goal

pub returns-in_err-write_clue_at : goal.returns-in_err-write_clue_at
returns-in_err-write_clue_at g c =
    let e = err_from_is_err_and c.from_residual.result c.from_residual.ensures.1 in
    let stops = each_stops g.W.Sink.transcript g.W.Sink.failures (clue_told c.args.clues.now) c.args.lights.now c.args.sink.now c.loop-index.sink c.write_clue_at.new.sink c.loop-index.index no_light (omega (arith, c.loop-index-test.true, c.len-index-end.ensures.len)) (c.loop-index.invariant.transcript, c.loop-index.invariant.quiet) c.in_err-write_clue_at.ensures in
    rw e.1 (subst (λ (lights : List Light). Begins (g.W.Sink.transcript c.args.sink.now) (g.W.Sink.transcript c.write_clue_at.new.sink) (flat_map (clue_told c.args.clues.now) lights) × HasFailed (g.W.Sink.failures c.args.sink.now) (g.W.Sink.failures c.write_clue_at.new.sink)) c.requires stops)
