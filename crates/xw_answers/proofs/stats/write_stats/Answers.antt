use Rattle.std.proofs.Common.{◌<◌, ◌≤◌, ◌∙◌, length, arith}
use Rattle.std.proofs.lemmas.Result.{err_from_is_err_and}
use Rattle.xw_answers.specs.declared.stats.Stat.TheVariants.{Cells}
use Rattle.xw_answers.specs.Stats.{stat_line, all_stats}
use Rattle.xw_lines.proofs.SendsLemmas.{each_sent, each_stops, each_all}
use Rattle.xw_answers.proofs.stats.write_stats.Goals as goal

pub loop-stat-preserved : goal.loop-stat-preserved
loop-stat-preserved g c =
    let within : c.loop-stat.stat-index < length all_stats = omega arith in
    let wrote = c.in_ok-write_stat.ensures in
    record {
      transcript = each_sent g.W.Sink.transcript g.W.Sink.failures (stat_line c.args.grid.now) all_stats c.args.sink.now c.loop-stat.sink c.write_stat.new.sink c.loop-stat.stat-index Cells within c.loop-stat.invariant.transcript wrote.0;
      quiet = wrote.1 ∙ c.loop-stat.invariant.quiet;
    }

pub returns-in_err-write_stat : goal.returns-in_err-write_stat
returns-in_err-write_stat g c =
    let e = err_from_is_err_and c.from_residual.result c.from_residual.ensures.1 in
    let within : c.loop-stat.stat-index < length all_stats = omega arith in
    rw e.1 (each_stops g.W.Sink.transcript g.W.Sink.failures (stat_line c.args.grid.now) all_stats c.args.sink.now c.loop-stat.sink c.write_stat.new.sink c.loop-stat.stat-index Cells within (c.loop-stat.invariant.transcript, c.loop-stat.invariant.quiet) c.in_err-write_stat.ensures)

pub returns : goal.returns
returns g c =
    let past : length all_stats ≤ c.loop-stat.stat-index = omega arith in
    each_all g.W.Sink.transcript g.W.Sink.failures (stat_line c.args.grid.now) all_stats _ _ c.loop-stat.stat-index past (c.loop-stat.invariant.transcript, c.loop-stat.invariant.quiet)
