use Rattle.xw_search.specs.NamedFill.{flags, is_named}
use Rattle.xw_search.proofs.StateLemmas.{in_grid_light}
use Rattle.xw_best.proofs.ClimbLemmas.{best_same, one_same}
use Rattle.xw_best.proofs.best.best_named.Goals as goal

pub returns-clause-ok : goal.returns-clause-ok
returns-clause-ok g c =
    let start = g.E.Feasible.state c.args.engine.now in
    best_same (flags c.in_ok-named.named.items) (is_named start c.args.names.now) start (λ light in_grid. c.in_ok-named.ensures.ok light (in_grid_light start.grid light in_grid)) (g.E.Feasible.state c.best_flagged.new.engine) c.in_ok-best_flagged.field-0 c.in_ok-best_flagged.ensures.ok

pub returns-clause-one : goal.returns-clause-one
returns-clause-one g c =
    let start = g.E.Feasible.state c.args.engine.now in
    one_same g.E.Feasible.state g.E.Searchable.saved (flags c.in_ok-named.named.items) (is_named start c.args.names.now) c.args.engine.now c.best_flagged.new.engine c.args.allowance.now c.best_flagged.new.allowance c.in_ok-best_flagged.field-0
    (λ light in_grid. c.in_ok-named.ensures.ok light (in_grid_light start.grid light in_grid)) c.in_ok-best_flagged.ensures.one
