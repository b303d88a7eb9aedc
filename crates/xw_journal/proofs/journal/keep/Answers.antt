use Rattle.std.proofs.lemmas.Result.{err_from_is_err_and}
use Rattle.xw_lines.proofs.SendsLemmas.{sends-then, stops-within}
use Rattle.xw_journal.proofs.journal.keep.Goals.{in-Line+in_ok-write_line-in-Line, in-Letters+in_ok-write_group-in-Letters}
use Rattle.xw_journal.proofs.journal.keep.Goals as goal

pub returns-in_err-write_line-in-Line : goal.returns-in_err-write_line-in-Line
returns-in_err-write_line-in-Line g c =
    let e = err_from_is_err_and c.from_residual.result c.from_residual.ensures.1 in
    rw (e.1, c.in-Line.is) (λ was before. stops-within g.J.Sink.transcript g.J.Sink.failures _ _ _ _ c.in_err-write_line-in-Line.ensures)

pub returns-in_err-write_group-in-Letters : goal.returns-in_err-write_group-in-Letters
returns-in_err-write_group-in-Letters g c =
    let e = err_from_is_err_and c.from_residual-in_err-write_group-in-Letters.result c.from_residual-in_err-write_group-in-Letters.ensures.1 in
    λ was before.
    let known = before c.in-Letters.is in
    rw (e.1, c.in-Letters.is) (stops-within g.J.Sink.transcript g.J.Sink.failures _ _ _ _ (c.in_err-write_group-in-Letters.ensures was known))

pub returns : goal.returns
returns g c =
    elim c.match-written.branch [
      | in-Line+in_ok-write_line-in-Line w ↦ λ was before.
          rw w.in-Line.is (sends-then g.J.Sink.transcript g.J.Sink.failures _ _ _ _ _ _ w.in_ok-write_line-in-Line.ensures (rw (← w.journal-is) c.flush.ensures))
      | in-Letters+in_ok-write_group-in-Letters w ↦ λ was before.
          let known = before w.in-Letters.is in
          rw w.in-Letters.is (sends-then g.J.Sink.transcript g.J.Sink.failures _ _ _ _ _ _ (w.in_ok-write_group-in-Letters.ensures was known) (rw (← w.journal-is) c.flush.ensures))
    ]
