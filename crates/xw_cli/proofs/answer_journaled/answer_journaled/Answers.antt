use Rattle.std.proofs.Common.{inl, inr, subst}
use Rattle.std.proofs.lemmas.Result.{err_from_is_err_and}
use Rattle.xw_cli.specs.Performed.{IsJournalRun}
use Rattle.xw_cli.proofs.answer_journaled.answer_journaled.Goals as goal

pub returns : goal.returns
returns g c =
    inl (record {
      before = c.in_ok-journaled.before;
      replayed = c.in_ok-journaled.journaled.state;
      mid = c.begin.new.desk;
      has_replayed = c.in_ok-journaled.ensures.ok;
      is_run = subst (λ start. IsJournalRun c.args.file.now c.args.named c.in_ok-journaled.before start c.converse.result c.begin.new.desk c.converse.new.desk) c.in_ok-journaled.ensures.new c.converse.ensures;
    })

pub returns-in_err-journaled : goal.returns-in_err-journaled
returns-in_err-journaled g c =
    let e = err_from_is_err_and c.from_residual.result c.from_residual.ensures.1 in
    rw (e.1, e.2) (inr c.in_err-journaled.ensures.err)
