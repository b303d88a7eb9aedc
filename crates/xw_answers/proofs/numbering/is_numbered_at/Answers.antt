use Rattle.std.proofs.Common.{◌≡◌, ◌∙◌, Bool, List, Some, ap, subst, sym}
use Rattle.std.specs.Prelude.{Option, slice_get}
use Rattle.std.proofs.lemmas.Option.{slice_get-get_or}
use Rattle.xw_grid.specs.Light.{begins_some}
use Rattle.xw_answers.proofs.Numbered.{known_more}
use Rattle.xw_answers.proofs.numbering.is_numbered_at.Goals as goal

pub returns-in-Some-Some-clause-is : goal.returns-in-Some-Some-clause-is
returns-in-Some-Some-clause-is c =
    let fact = c.in-Some-Some.field-0.now in
    let look = c.in-Some-Some.ensures.lookup.3 in
    let said : fact ≡ Some c.in-Some-Some.is' = c.in-Some-Some.field-0-is in
    let there : slice_get c.deref.result.now c.args.index ≡ Some (Some c.in-Some-Some.is') = slice_get-get_or c.deref.result.now c.args.index fact look.0 ∙ ap Some (sym (look.1 fact) ∙ said) in
    sym (c.requires.known c.args.index c.in-Some-Some.is' (subst (λ (facts : List (Option Bool)). slice_get facts c.args.index ≡ Some (Some c.in-Some-Some.is')) c.deref.ensures.value there))

pub returns-then-index-len-clause-known : goal.returns-then-index-len-clause-known
returns-then-index-len-clause-known c =
    known_more c.args.grid.now c.args.known.now.items c.args.index c.is_numbered-is.result (c.is_numbered-is.ensures ∙ ap (begins_some c.args.grid.now) c.cell_at.ensures.cell) c.requires.known
