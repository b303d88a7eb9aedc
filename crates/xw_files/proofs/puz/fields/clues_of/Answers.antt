use Rattle.std.proofs.Common.{◌≡◌, ◌+◌, ◌-◌, suc, arith, sym, ◌∙◌}
use Rattle.std.proofs.lemmas.List.{map-append}
use Rattle.std.proofs.lemmas.Result.{err_from_is_err_and}
use Rattle.xw_files.proofs.PuzLemmas.Clues.{clues-more, clues-stop}
use Rattle.xw_files.proofs.puz.fields.clues_of.Goals as goal

pub returns-in_err-clue : goal.returns-in_err-clue
returns-in_err-clue c =
    let e = err_from_is_err_and c.from_residual.result c.from_residual.ensures.1 in
    let left : c.args.count - c.loop-index.index ≡ suc (c.args.count - (c.loop-index.index + 1)) = omega arith in
    rw (e.1, e.2) (λ _. sym c.loop-index.invariant ∙ clues-stop _ (c.loop-index.index + 1) _ _ c.loop-index.rest.now _ left (rw c.from.ensures at c.in_err-clue.ensures))

pub loop-index-preserved : goal.loop-index-preserved
loop-index-preserved c =
    let left : c.args.count - c.loop-index.index ≡ suc (c.args.count - (c.loop-index.index + 1)) = omega arith in
    let read = rw c.from.ensures at c.in_ok-clue.ensures in
    rw (c.in_ok-push.ensures.items, map-append) (sym (clues-more _ (c.loop-index.index + 1) _ _ c.loop-index.rest.now _ _ left read) ∙ c.loop-index.invariant)
