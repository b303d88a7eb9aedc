use Rattle.std.proofs.Common.{◌≡◌, refl, sym, subst}
use Rattle.std.specs.Prelude.{Some, None}
use Rattle.std.proofs.lemmas.Result.{err_from_is_err_and}
use Rattle.xw_files.specs.Puz.Sums.{wrong_sum}
use Rattle.xw_files.proofs.puz.read.puzzle_of.Goals as goal

pub returns-in-Some : goal.returns-in-Some
returns-in-Some c known =
    let wrong = subst (λ sums. wrong_sum c.args.fields.now.header sums ≡ Some c.in-Some.sum) c.of.ensures (sym c.in-Some.ensures) in
    rw wrong refl

pub returns-in_err-grid : goal.returns-in_err-grid
returns-in_err-grid c =
    let right = subst (λ sums. wrong_sum c.args.fields.now.header sums ≡ None) c.of.ensures (sym c.in_default.ensures) in
    let e = err_from_is_err_and c.from_residual.result c.from_residual.ensures.1 in
    rw (e.1, e.2) (λ known. rw (right, c.in_err-grid.ensures known) refl)

pub returns-in_err-clues : goal.returns-in_err-clues
returns-in_err-clues c =
    let right = subst (λ sums. wrong_sum c.args.fields.now.header sums ≡ None) c.of.ensures (sym c.in_default.ensures) in
    let e = err_from_is_err_and c.from_residual-in_err-clues.result c.from_residual-in_err-clues.ensures.1 in
    rw (e.1, e.2) (λ known. rw (right, c.in_ok-grid.ensures, c.in_err-clues.ensures known) refl)

pub returns-in_err-circles : goal.returns-in_err-circles
returns-in_err-circles c =
    let right = subst (λ sums. wrong_sum c.args.fields.now.header sums ≡ None) c.of.ensures (sym c.in_default.ensures) in
    let e = err_from_is_err_and c.from_residual-in_err-circles.result c.from_residual-in_err-circles.ensures.1 in
    rw (e.1, e.2) (λ known. rw (right, c.in_ok-grid.ensures, c.in_ok-clues.ensures, c.in_err-circles.ensures known) refl)

pub returns-in_err-texts : goal.returns-in_err-texts
returns-in_err-texts c =
    let e = err_from_is_err_and c.from_residual-in_err-texts.result c.from_residual-in_err-texts.ensures.1 in
    rw (e.1, e.2) (λ known. absurd (known c.in_err-texts.ensures.memory))

pub returns : goal.returns
returns c =
    let right = subst (λ sums. wrong_sum c.args.fields.now.header sums ≡ None) c.of.ensures (sym c.in_default.ensures) in
    rw (right, c.in_ok-grid.ensures, c.in_ok-clues.ensures, c.in_ok-circles.ensures, c.in_ok-texts.ensures.title, c.in_ok-texts.ensures.author, c.in_ok-texts.ensures.copyright, c.in_ok-texts.ensures.notes) refl
