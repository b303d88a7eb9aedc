use Rattle.std.proofs.Common.{sym, subst}
use Rattle.xw_search.specs.NamedFill.{flags}
use Rattle.xw_best.specs.Inner.Climbing.{IsClimbing}
use Rattle.xw_feas.proofs.SnapshotLemmas.{IsTwin-then, CanSave-twin}
use Rattle.xw_best.proofs.ClimbLemmas.{filled_at_twin, found_more}
use Rattle.xw_best.proofs.best.climb.Climb.keep.Goals as goal

pub save-requires : goal.save-requires
save-requires g c =
    let climb = c.args.self.now in
    let start = g.E.Searchable.saved climb.start in
    let now = g.E.Feasible.state c.args.engine.now in
    CanSave-twin _ now (IsTwin-then (g.E.Searchable.saved climb.best) start now c.requires.climbing.best (filled_at_twin (flags climb.prober.plan.named.items) start now c.args.grade c.requires.filled))

pub go_back-requires : goal.go_back-requires
go_back-requires g c =
    let climb = c.args.self.now in
    CanSave-twin (g.E.Searchable.saved climb.start) (g.E.Feasible.state c.args.engine.now) (filled_at_twin (flags climb.prober.plan.named.items) (g.E.Searchable.saved climb.start) (g.E.Feasible.state c.args.engine.now) c.args.grade c.requires.filled)

pub returns-clause-climbing : goal.returns-clause-climbing
returns-clause-climbing g c =
    let saved = g.E.Searchable.saved in
    let climb = c.args.self.now in
    let start = saved climb.start in
    let now = g.E.Feasible.state c.args.engine.now in
    subst (IsClimbing saved c.go_back.new.self) (sym c.go_back.ensures.back)
    (c.go_back.ensures.climbing start (found_more saved climb c.save.new.snapshot c.args.grade c.args.sum start now c.requires.climbing c.requires.filled c.requires.sum c.save.ensures.saved))
