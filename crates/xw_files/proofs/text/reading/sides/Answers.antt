use Rattle.std.proofs.Common.{◌≡◌, ◌+◌, refl, sym, subst}
use Rattle.std.specs.Prelude.{Some, None}
use Rattle.xw_files.specs.Text.Lines.{trimmed}
use Rattle.xw_files.specs.Text.Shape.{side_of, sides_of}
use Rattle.xw_files.proofs.PuzLemmas.Texts.{range_from-drop}
use Rattle.xw_files.proofs.text.reading.sides.Goals as goal

pub returns-in_err-index-clause-numbers : goal.returns-in_err-index-clause-numbers
unfolding sides_of
returns-in_err-index-clause-numbers c = rw (c.from_residual.ensures, sym c.in_err-index.ensures.index) refl

pub returns-in_err-width-clause-numbers : goal.returns-in_err-width-clause-numbers
unfolding sides_of
returns-in_err-width-clause-numbers c =
    let width = subst (λ xs. side_of xs ≡ None) c.trim.ensures (sym c.in_err-width.ensures.number) in
    rw (c.from_residual-in_err-width.ensures, sym c.in_ok-index.ensures.index, width) refl

pub returns-in_err-height-clause-numbers : goal.returns-in_err-height-clause-numbers
unfolding sides_of
returns-in_err-height-clause-numbers c =
    let width = subst (λ xs. side_of xs ≡ Some c.in_ok-width.width) c.trim.ensures (sym c.in_ok-width.ensures.number) in
    let height = subst (λ xs. side_of (trimmed xs) ≡ None) (range_from-drop c.args.line.now (c.in_ok-index.index + 1)) (subst (λ xs. side_of xs ≡ None) c.trim-2.ensures (sym c.in_err-height.ensures.number)) in
    rw (c.from_residual-in_err-height.ensures, sym c.in_ok-index.ensures.index, width, height) refl

pub returns-clause-numbers : goal.returns-clause-numbers
unfolding sides_of
returns-clause-numbers c =
    let width = subst (λ xs. side_of xs ≡ Some c.in_ok-width.width) c.trim.ensures (sym c.in_ok-width.ensures.number) in
    let height = subst (λ xs. side_of (trimmed xs) ≡ Some c.in_ok-height.height) (range_from-drop c.args.line.now (c.in_ok-index.index + 1)) (subst (λ xs. side_of xs ≡ Some c.in_ok-height.height) c.trim-2.ensures (sym c.in_ok-height.ensures.number)) in
    rw (sym c.in_ok-index.ensures.index, width, height) refl

pub returns-clause-range : goal.returns-clause-range
returns-clause-range c = (c.in_ok-width.ensures.range, c.in_ok-height.ensures.range)
