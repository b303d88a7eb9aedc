use Rattle.std.proofs.Common.{◌≡◌, ◌+◌, ◌-◌, List, ℕ, ◌++◌, length, length-drop, take, drop, append_assoc, ◌∙◌, ap, arith}
use Rattle.std.proofs.lemmas.List.{take_all, take-append-drop}
use Rattle.std.proofs.lemmas.Result.{err_from_is_err_and}
use Rattle.xw_lines.specs.Cut.{held}
use Rattle.xw_lines.proofs.Cuts.{line-within, line-through}
use Rattle.xw_lines.proofs.Turns.{progress-held}
use Rattle.xw_lines.proofs.run.take_bytes.Goals as goal

pub returns-in_err-take_line-clause-err : goal.returns-in_err-take_line-clause-err
returns-in_err-take_line-clause-err g c =
    let e = err_from_is_err_and c.from_residual.result c.from_residual.ensures.1 in
    let bytes = c.args.bytes.now in
    let from = c.loop-end.from in
    let end = c.in-Some.end in
    rw e.1 (rw e.2 (λ start begun text p.
    rw (← line-within text bytes from end c.in-Some.ensures.within.0 c.in-Some.ensures.ends)
    (c.in_err-take_line.ensures.err start begun (text ++ take from bytes) (drop (end + 1) bytes) (c.loop-end.invariant.goes-on start begun text p))))

pub loop-end-preserved : goal.loop-end-preserved
loop-end-preserved g c =
    let bytes = c.args.bytes.now in
    let from = c.loop-end.from in
    let end = c.in-Some.end in
    record {
      within = omega (arith, c.in-Some.ensures.within.1);
      goes-on = λ start begun text p.
          rw (← line-through text bytes from end c.in-Some.ensures.within.0 c.in-Some.ensures.ends)
          (c.in_ok-take_line.ensures.ok start begun (text ++ take from bytes) (c.loop-end.invariant.goes-on start begun text p));
      quiet = c.in_ok-take_line.ensures.quiet ∙ c.loop-end.invariant.quiet;
    }

pub returns-clause-ok : goal.returns-clause-ok
returns-clause-ok g c = λ start begun text p.
    let bytes = c.args.bytes.now in
    let from = c.loop-end.from in
    let rest : take (length bytes - from) (drop from bytes) ≡ drop from bytes = take_all (length bytes - from) (drop from bytes) (omega (arith, length-drop from bytes)) in
    let whole : (text ++ take from bytes) ++ drop from bytes ≡ text ++ bytes = append_assoc text (take from bytes) (drop from bytes) ∙ ap (λ xs. text ++ xs) (take-append-drop from bytes) in
    let holds : (line : List ℕ) → c.loop-end.piece ≡ held line → c.hold.new.self ≡ held (line ++ drop from bytes) = λ line is. c.hold.ensures line is ∙ ap (λ xs. held (line ++ xs)) rest in
    rw (← whole) (progress-held g.S.LineHandler.answers start _ begun (text ++ take from bytes) (drop from bytes) _ _ _ _ c.in_default.ensures.none holds (c.loop-end.invariant.goes-on start begun text p))
