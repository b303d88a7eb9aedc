use Rattle.std.proofs.Common.{◌≡◌, ap, ◌∙◌}
use Rattle.std.proofs.lemmas.List.Elements.{same_from_all_zip}
use Rattle.xw_grid.specs.Clue.{Texts}
use Rattle.xw_grid.specs.ClueView.{texts_in}
use Rattle.xw_grid.proofs.ClueLemmas.{texts_copied}
use Rattle.xw_grid.proofs.clues.Clues.copy.Goals as goal

pub returns-clause-ok : goal.returns-clause-ok
returns-clause-ok c =
    let inner = c.self.inside in
    let across : texts_in c.in_ok-clone.field-0 ≡ texts_in inner.across = texts_copied _ _ (λ x y e. e) (λ v w h. same_from_all_zip _ v.items w.items h.0 (λ x y e. e)) inner.across.entries c.in_ok-clone.field-0.entries c.in_ok-clone.ensures.cases in
    let down : texts_in c.in_ok-clone-2.field-0 ≡ texts_in inner.down = texts_copied _ _ (λ x y e. e) (λ v w h. same_from_all_zip _ v.items w.items h.0 (λ x y e. e)) inner.down.entries c.in_ok-clone-2.field-0.entries c.in_ok-clone-2.ensures.cases in
    ap (λ (texts : Texts). record { across = texts; down = texts_in c.in_ok-clone-2.field-0 }) across
    ∙ ap (λ (texts : Texts). record { across = texts_in inner.across; down = texts }) down
    ∙ c.self.view_is
