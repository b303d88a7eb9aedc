use Rattle.std.proofs.Common.{rules, ◌≡◌, ◌+◌, Some, [], ap, ◌∙◌}
use Rattle.std.proofs.lemmas.Result.{err_from_is_err_and}
use Rattle.xw_lines.specs.Spoken.{refusals}
use Rattle.xw_lines.specs.Device.{saturated}
use Rattle.xw_lines.proofs.Turns.{speaks-last, stops-last, saturated-add}
use Rattle.xw_lines.proofs.run.finish.Goals as goal

pub returns-in_err-answer_piece-clause-err : goal.returns-in_err-answer_piece-clause-err
returns-in_err-answer_piece-clause-err g c =
    let e = err_from_is_err_and c.from_residual.result c.from_residual.ensures.1 in
    let full : c.args.piece ≡ Some [] → ⊥ = search rules in
    rw e.1 (rw e.2 (λ start begun text p. stops-last g.S.LineHandler.answers _ start _ _ begun text _ _ _ _ full c.in_err-answer_piece.ensures.err p))

pub returns-clause-ok : goal.returns-clause-ok
returns-clause-ok g c =
    let said = c.in_ok-answer_piece.ensures.ok in
    let full : c.args.piece ≡ Some [] → ⊥ = search rules in
    λ start begun text p. (
      p.count + refusals said.0,
      said.4 ∙ ap (λ n. saturated (n + refusals said.0)) p.refused-is ∙ saturated-add p.count (refusals said.0),
      speaks-last g.S.LineHandler.answers start _ _ begun text _ _ _ said.1 _ said.0 full said.2 said.3 p,
    )
