use Rattle.std.proofs.Common.{refl}
use Rattle.std.proofs.lemmas.Result.{err_from_is_err_and}
use Rattle.xw_files.specs.Text.Shape.{shape}
use Rattle.xw_files.proofs.text.reading.puzzle.Goals as goal

pub returns-in_err-header : goal.returns-in_err-header
unfolding shape
returns-in_err-header c =
    let e = err_from_is_err_and c.from_residual.result c.from_residual.ensures.1 in
    rw (e.1, e.2) (λ known. rw (c.in_err-header.ensures known) refl)

pub returns-in_err-texts : goal.returns-in_err-texts
unfolding shape
returns-in_err-texts c =
    let e = err_from_is_err_and c.from_residual-in_err-texts.result c.from_residual-in_err-texts.ensures.1 in
    rw (e.1, e.2) (λ known. rw (c.in_ok-header.ensures, c.in_err-texts.ensures known) refl)

pub returns-in_err-grid : goal.returns-in_err-grid
unfolding shape
returns-in_err-grid c =
    let e = err_from_is_err_and c.from_residual-in_err-grid.result c.from_residual-in_err-grid.ensures.1 in
    rw (e.1, e.2) (λ known. rw (c.in_ok-header.ensures, c.in_ok-texts.ensures, c.in_err-grid.ensures known) refl)

pub returns-in_err-clues : goal.returns-in_err-clues
unfolding shape
returns-in_err-clues c =
    let e = err_from_is_err_and c.from_residual-in_err-clues.result c.from_residual-in_err-clues.ensures.1 in
    rw (e.1, e.2) (λ known. rw (c.in_ok-header.ensures, c.in_ok-texts.ensures, c.in_ok-grid.ensures, c.in_err-clues.ensures known) refl)

pub returns-in_err-texts-2 : goal.returns-in_err-texts-2
unfolding shape
returns-in_err-texts-2 c =
    let e = err_from_is_err_and c.from_residual-in_err-texts-2.result c.from_residual-in_err-texts-2.ensures.1 in
    rw (e.1, e.2) (λ known. rw (c.in_ok-header.ensures, c.in_ok-texts.ensures, c.in_ok-grid.ensures, c.in_ok-clues.ensures, c.in_err-texts-2.ensures known) refl)

pub returns : goal.returns
unfolding shape
returns c = rw (c.in_ok-header.ensures, c.in_ok-texts.ensures, c.in_ok-grid.ensures, c.in_ok-clues.ensures, c.in_ok-texts-2.ensures, c.new.ensures) refl
