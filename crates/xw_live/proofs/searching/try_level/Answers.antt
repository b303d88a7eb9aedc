use Rattle.std.proofs.Common.{◌≡◌, List, [], ◌∷◌, ◌++◌, length, sym, ap, ◌∙◌, subst, arith}
use Rattle.std.specs.Prelude.{Some}
use Rattle.std.proofs.lemmas.List.{same_from_push}
use Rattle.std.proofs.lemmas.List.Elements.{All-pop}
use Rattle.xw_grid.specs.Grid.{Grid}
use Rattle.xw_feas.proofs.Elements.{all_pushed}
use Rattle.xw_live.specs.Levels.{HasSizeOf}
use Rattle.xw_live.specs.declared.levels.Placement.{Placement}
use Rattle.xw_live.proofs.Placements.{pushed_back}
use Rattle.xw_live.proofs.searching.try_level.Goals as goal

pub returns-then-matches-clause-made : goal.returns-then-matches-clause-made
returns-then-matches-clause-made c is others last =
    let rest = c.pop.new.self.items in
    let popped = c.in-Some.placement in
    let placement : Placement = record c.in-Some.placement { level = c.try_letters-tried.new.level } in
    let made : c.args.levels.now.made.items ≡ c.pop.new.self.items ++ c.in-Some.placement ∷ [] = c.in-Some.ensures.items in
    let same = λ (other : Placement) (are : c.args.levels.now.made.items ≡ others ++ other ∷ []). same_from_push rest others popped other (sym made ∙ are) in
    let room : _ = c.push.ensures.succeeds (omega (arith, c.in-Some.ensures.len, c.in-Some.ensures.capacity, c.args.levels.now.made.ok.1)) in
    record {
      placement = placement;
      all_are = pushed_back rest c.push.new.self.items placement c.push.result c.push.ensures.items room ∙ ap (λ (list : List Placement). list ++ placement ∷ []) (same last.placement last.all_are).0;
      same_grid = λ other are. ap (λ (p : Placement). p.grid) (same other are).1;
      same_net = λ other are. ap (λ (p : Placement). p.net.value) (same other are).1;
      way = c.try_letters-tried.ensures.way is;
    }

pub returns-else-matches-clause-spare : goal.returns-else-matches-clause-spare
returns-else-matches-clause-spare c grid made spare =
    let rest = c.pop.new.self.items in
    let popped = c.in-Some.placement in
    let placement : Placement = record c.in-Some.placement { grid = c.exchange.new.grid; level = c.try_letters-tried.new.level } in
    let last = c.requires.last.1 in
    let same = (same_from_push rest c.requires.last.0 popped last.placement (sym c.in-Some.ensures.items ∙ last.all_are)).1 in
    let here : HasSizeOf c.args.position.now.grid c.in-Some.placement = subst (HasSizeOf c.args.position.now.grid) (sym same) last.shape.cells in
    let kept : HasSizeOf grid c.in-Some.placement = (All-pop (HasSizeOf grid) c.args.levels.now.made.items rest (Some popped) c.in-Some.ensures.items made).1 in
    all_pushed (HasSizeOf grid) c.args.levels.now.spare.items c.push-else-matches.new.self.items placement _ c.push-else-matches.ensures.items
    (ap (λ (grid : Grid). length grid.squares) c.exchange.ensures.before ∙ sym here ∙ kept) spare
