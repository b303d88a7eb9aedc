use Rattle.std.proofs.Common.{◌≡◌, ◌<◌, ℕ, [], ◌∷◌, true, length, subst}
use Rattle.std.specs.Prelude.{All}
use Rattle.std.proofs.lemmas.List.Elements.{All-nil, All-cons}
use Rattle.xw_grid.specs.Grid.{is_inside}
use Rattle.xw_grid.proofs.grid.Grid.indices.Goals as goal

four_below : (n first second third fourth : ℕ) → first < n → second < n → third < n → fourth < n → All (λ index. index < n) (first ∷ second ∷ third ∷ fourth ∷ [])
four_below n first second third fourth a b c d =
    let is_below = λ (index : ℕ). index < n in
    All-cons is_below first (second ∷ third ∷ fourth ∷ []) a (All-cons is_below second (third ∷ fourth ∷ []) b (All-cons is_below third (fourth ∷ []) c (All-cons is_below fourth [] d (All-nil is_below))))

pub returns-clause-inside : goal.returns-clause-inside
returns-clause-inside c = subst (All (λ image. is_inside c.args.self.now image ≡ true)) c.images.ensures.images c.images.ensures.inside

pub returns-clause-squares : goal.returns-clause-squares
returns-clause-squares c = four_below (length c.args.self.now.squares) _ _ _ _ c.index_inside.ensures.squares c.index_inside-2.ensures.squares c.index_inside-3.ensures.squares c.index_inside-4.ensures.squares

pub returns-clause-right : goal.returns-clause-right
returns-clause-right c = four_below (length c.args.self.now.right) _ _ _ _ c.index_inside.ensures.right c.index_inside-2.ensures.right c.index_inside-3.ensures.right c.index_inside-4.ensures.right

pub returns-clause-below : goal.returns-clause-below
returns-clause-below c = four_below (length c.args.self.now.below) _ _ _ _ c.index_inside.ensures.below c.index_inside-2.ensures.below c.index_inside-3.ensures.below c.index_inside-4.ensures.below
