use Rattle.std.proofs.Common.{refl}
use Rattle.std.proofs.lemmas.Result.{err_from_is_err_and}
use Rattle.xw_files.specs.Text.Shape.{texts_at}
use Rattle.xw_files.proofs.text.reading.texts.Goals as goal

pub returns-in_err-tag : goal.returns-in_err-tag
unfolding texts_at
returns-in_err-tag c =
    let e = err_from_is_err_and c.from_residual.result c.from_residual.ensures.1 in
    rw (e.1, e.2) (λ known. rw (c.in_err-tag.ensures known) refl)

pub returns-in_err-title : goal.returns-in_err-title
unfolding texts_at
returns-in_err-title c =
    let e = err_from_is_err_and c.from_residual-in_err-title.result c.from_residual-in_err-title.ensures.1 in
    rw (e.1, e.2) (λ known. rw (c.in_ok-tag.ensures, c.in_err-title.ensures known) refl)

pub returns-in_err-tag-2 : goal.returns-in_err-tag-2
unfolding texts_at
returns-in_err-tag-2 c =
    let e = err_from_is_err_and c.from_residual-in_err-tag-2.result c.from_residual-in_err-tag-2.ensures.1 in
    rw (e.1, e.2) (λ known. rw (c.in_ok-tag.ensures, c.in_ok-title.ensures, c.in_err-tag-2.ensures known) refl)

pub returns-in_err-author : goal.returns-in_err-author
unfolding texts_at
returns-in_err-author c =
    let e = err_from_is_err_and c.from_residual-in_err-author.result c.from_residual-in_err-author.ensures.1 in
    rw (e.1, e.2) (λ known. rw (c.in_ok-tag.ensures, c.in_ok-title.ensures, c.in_ok-tag-2.ensures, c.in_err-author.ensures known) refl)

pub returns-in_err-tag-3 : goal.returns-in_err-tag-3
unfolding texts_at
returns-in_err-tag-3 c =
    let e = err_from_is_err_and c.from_residual-in_err-tag-3.result c.from_residual-in_err-tag-3.ensures.1 in
    rw (e.1, e.2) (λ known. rw (c.in_ok-tag.ensures, c.in_ok-title.ensures, c.in_ok-tag-2.ensures, c.in_ok-author.ensures, c.in_err-tag-3.ensures known) refl)

pub returns-in_err-copyright : goal.returns-in_err-copyright
unfolding texts_at
returns-in_err-copyright c =
    let e = err_from_is_err_and c.from_residual-in_err-copyright.result c.from_residual-in_err-copyright.ensures.1 in
    rw (e.1, e.2) (λ known. rw (c.in_ok-tag.ensures, c.in_ok-title.ensures, c.in_ok-tag-2.ensures, c.in_ok-author.ensures, c.in_ok-tag-3.ensures, c.in_err-copyright.ensures known) refl)

pub returns : goal.returns
unfolding texts_at
returns c = rw (c.in_ok-tag.ensures, c.in_ok-title.ensures, c.in_ok-tag-2.ensures, c.in_ok-author.ensures, c.in_ok-tag-3.ensures, c.in_ok-copyright.ensures, c.new.ensures.items) refl
