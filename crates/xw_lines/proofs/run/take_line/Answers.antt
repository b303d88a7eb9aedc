use Rattle.std.proofs.lemmas.Result.{err_from_is_err_and}
use Rattle.xw_lines.proofs.Turns.{progress-line, progress-held, stops-at_lf}
use Rattle.xw_lines.proofs.run.take_line.Goals as goal

pub returns-in_err-answer_piece-clause-err : goal.returns-in_err-answer_piece-clause-err
returns-in_err-answer_piece-clause-err g c =
    let e = err_from_is_err_and c.from_residual.result c.from_residual.ensures.1 in rw e.1 (rw e.2 (λ start begun text more p.
    stops-at_lf g.S.LineHandler.answers _ start _ _ begun _ more _ _ _ _ c.in_err-answer_piece.ensures.err
    (progress-held g.S.LineHandler.answers start _ begun text c.args.bytes.now _ _ _ _ c.requires c.hold.ensures p)))

pub returns-clause-ok : goal.returns-clause-ok
returns-clause-ok g c =
    let said = c.in_ok-answer_piece.ensures.ok in
    λ start begun text p.
    progress-line g.S.LineHandler.answers start _ _ begun _ _ _ _ _ _ said.1 _ said.0 said.2 said.3 said.4 c.in_ok-answer_piece.ensures.cleared
    (progress-held g.S.LineHandler.answers start _ begun text c.args.bytes.now _ _ _ _ c.requires c.hold.ensures p)
