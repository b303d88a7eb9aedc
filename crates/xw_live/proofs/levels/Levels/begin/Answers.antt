use Rattle.std.proofs.Common.{◌≡◌, List, ◌∷◌, ◌++◌, [], ap, ◌∙◌}
use Rattle.xw_live.specs.declared.levels.Levels.{Levels}
use Rattle.xw_live.specs.declared.levels.Placement.{Placement}
use Rattle.xw_live.proofs.levels.Levels.begin.Goals as goal

pub returns-clause-last : goal.returns-clause-last
returns-clause-last c =
    let placement : Placement = record c.in_ok-placement.placement { level = c.begin-2.new.self } in
    record {
      placement = placement;
      all_are = c.in_ok-push.ensures.items ∙ ap (λ (levels : Levels). levels.made.items ++ placement ∷ []) c.take.ensures.rest;
      begun = record { grid_is = c.in_ok-placement.ensures.grid; net_is = c.in_ok-placement.ensures.net; way = c.in_ok-begin-2.ensures.way };
    }
