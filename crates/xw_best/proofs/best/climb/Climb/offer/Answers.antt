use Rattle.std.proofs.Common.{length, ap, sym, ◌∙◌}
use Rattle.xw_search.specs.NamedFill.{flags}
use Rattle.xw_feas.proofs.SnapshotLemmas.{CanSave-twin}
use Rattle.xw_best.proofs.ClimbLemmas.{filled_at_twin, filled_lights}
use Rattle.xw_best.proofs.best.climb.Climb.offer.Goals as goal

pub go_back-requires : goal.go_back-requires
go_back-requires g c =
    let climb = c.args.self.now in
    CanSave-twin (g.E.Searchable.saved climb.start) (g.E.Feasible.state c.args.engine.now) (filled_at_twin (flags climb.prober.plan.named.items) (g.E.Searchable.saved climb.start) (g.E.Feasible.state c.args.engine.now) c.args.grade c.requires.filled)

pub grade_sum-sum-requires : goal.grade_sum-sum-requires
grade_sum-sum-requires g c =
    let climb = c.args.self.now in
    let start = g.E.Searchable.saved climb.start in
    let now = g.E.Feasible.state c.args.engine.now in
    record { long = ap length c.deref.ensures.value ∙ c.requires.climbing.prober.fresh.long ∙ sym (filled_lights start now (filled_at_twin (flags climb.prober.plan.named.items) start now c.args.grade c.requires.filled)) }
