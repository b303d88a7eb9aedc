use Rattle.std.proofs.Common.{◌≡◌, ap, ◌∙◌}
use Rattle.std.proofs.lemmas.List.Elements.{same_from_all_zip}
use Rattle.xw_grid.proofs.grid.Grid.copy.Goals as goal

pub returns-clause-ok : goal.returns-clause-ok
returns-clause-ok c =
    let inner = c.self.inside in
    let squares : c.in_ok-clone.field-0.items ≡ inner.squares.items = same_from_all_zip _ inner.squares.items c.in_ok-clone.field-0.items c.in_ok-clone.ensures.cases.0 (λ x y e. e) in
    let right : c.in_ok-clone-2.field-0.items ≡ inner.right.items = same_from_all_zip _ inner.right.items c.in_ok-clone-2.field-0.items c.in_ok-clone-2.ensures.cases.0 (λ x y e. e) in
    let below : c.in_ok-clone-3.field-0.items ≡ inner.below.items = same_from_all_zip _ inner.below.items c.in_ok-clone-3.field-0.items c.in_ok-clone-3.ensures.cases.0 (λ x y e. e) in
    ap (λ squares. record { width = inner.width; height = inner.height; squares = squares; right = c.in_ok-clone-2.field-0.items; below = c.in_ok-clone-3.field-0.items; symmetry = inner.symmetry }) squares
    ∙ ap (λ right. record { width = inner.width; height = inner.height; squares = inner.squares.items; right = right; below = c.in_ok-clone-3.field-0.items; symmetry = inner.symmetry }) right
    ∙ ap (λ below. record { width = inner.width; height = inner.height; squares = inner.squares.items; right = inner.right.items; below = below; symmetry = inner.symmetry }) below
    ∙ c.self.view_is
