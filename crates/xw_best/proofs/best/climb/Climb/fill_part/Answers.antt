use Rattle.std.proofs.Common.{sym, subst, ◌∙◌}
use Rattle.xw_feas.specs.Snapshot.{CanSave}
use Rattle.xw_best.specs.Inner.Climbing.{IsClimbing}
use Rattle.xw_best.proofs.ClimbLemmas.{probed}
use Rattle.xw_best.proofs.best.climb.Climb.fill_part.Goals as goal

pub go_back-requires : goal.go_back-requires
go_back-requires g c =
    subst (λ s. CanSave s (g.E.Feasible.state c.fill_part-filling.new.engine)) (sym c.requires.climbing.began) c.fill_part-filling.ensures.saved

pub returns-clause-climbing : goal.returns-clause-climbing
returns-clause-climbing g c =
    let saved = g.E.Searchable.saved in
    let climb = c.args.self.now in
    let start = g.E.Feasible.state c.args.engine.now in
    let served = c.fill_part-filling.ensures in
    subst (IsClimbing saved c.go_back.new.self) (sym (c.go_back.ensures.back ∙ c.requires.climbing.began))
    (c.go_back.ensures.climbing start (probed saved climb (record climb { counted = c.of.result }) c.fill_part-filling.new.self start c.requires.climbing served.prober served.plan served.fresh))
