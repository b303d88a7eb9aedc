use Rattle.std.proofs.lemmas.Result.{err_from_is_err_and}
use Rattle.xw_session.specs.Found.{duplicate_line}
use Rattle.xw_lines.proofs.SendsLemmas.{each_stops}
use Rattle.xw_session.proofs.session.queries.write_duplicates.Goals as goal

pub returns-in_err-write_repeat : goal.returns-in_err-write_repeat
returns-in_err-write_repeat g c =
    let e = err_from_is_err_and c.from_residual.result c.from_residual.ensures.1 in
    rw e.1 (each_stops g.W.Sink.transcript g.W.Sink.failures (duplicate_line c.args.grid.now) c.args.found.now _ _ _ c.loop-duplicate.duplicate-index _ c.loop-duplicate-test.true (c.loop-duplicate.invariant.transcript, c.loop-duplicate.invariant.quiet) c.in_err-write_repeat.ensures)
