use Rattle.std.proofs.lemmas.Result.{err_from_is_err_and}
use Rattle.xw_answers.specs.Text.{spelled_line}
use Rattle.xw_lines.proofs.SendsLemmas.{each_stops}
use Rattle.xw_answers.proofs.lists.write_unlisted.Goals as goal

pub returns-in_err-write_light_word : goal.returns-in_err-write_light_word
returns-in_err-write_light_word g c =
    let e = err_from_is_err_and c.from_residual.result c.from_residual.ensures.1 in
    rw e.1 (each_stops g.W.Sink.transcript g.W.Sink.failures (spelled_line c.args.grid.now) c.args.found.now _ _ _ c.loop-name.name-index _ c.loop-name-test.true (c.loop-name.invariant.transcript, c.loop-name.invariant.quiet) c.in_err-write_light_word.ensures)
