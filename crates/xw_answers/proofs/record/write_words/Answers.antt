use Rattle.std.proofs.Common.{ℕ, subst}
use Rattle.std.proofs.lemmas.Result.{err_from_is_err_and}
use Rattle.xw_lines.specs.Sends.{Sends}
use Rattle.xw_answers.specs.Record.{command_lines, least_commands}
use Rattle.xw_lines.proofs.SendsLemmas.{sends-then, stops-within}
use Rattle.xw_answers.proofs.Recording.{lines_of_both, sends_as, stops_as}
use Rattle.xw_answers.proofs.record.write_words.Goals as goal

pub returns-in_err-write_rows : goal.returns-in_err-write_rows
returns-in_err-write_rows g c =
    let e = err_from_is_err_and c.from_residual.result c.from_residual.ensures.1 in
    rw e.1 (stops_as g.W.Sink.transcript g.W.Sink.failures _ _ _ _ (lines_of_both _ _) (stops-within g.W.Sink.transcript g.W.Sink.failures _ _ _ _ c.in_err-write_rows.ensures))

pub returns : goal.returns
returns g c =
    let wrote = subst (λ (least : ℕ). Sends g.W.Sink.transcript g.W.Sink.failures c.write_rows.new.sink c.write_least.new.sink c.write_least.result (command_lines (least_commands least))) c.least.ensures.least c.write_least.ensures in
    sends_as g.W.Sink.transcript g.W.Sink.failures _ _ _ _ _ (lines_of_both _ _) (sends-then g.W.Sink.transcript g.W.Sink.failures _ _ _ _ _ _ c.in_ok-write_rows.ensures wrote)
