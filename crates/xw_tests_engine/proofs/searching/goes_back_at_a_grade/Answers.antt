use Rattle.std.proofs.Common.{refl, sym, subst}
use Rattle.xw_feas.specs.Snapshot.{CanSave}
use Rattle.xw_feas.specs.State.{State}
use Rattle.xw_feas.proofs.SnapshotLemmas.{CanSave-twin}
use Rattle.xw_tests_engine.proofs.Twins.{twin_of}
use Rattle.xw_tests_engine.proofs.searching.goes_back_at_a_grade.Goals as goal

pub save-requires : goal.save-requires
save-requires g c = subst (λ (state : State). CanSave state (g.E.Feasible.state c.choose_least.new.engine)) (sym c.in_ok-kept.ensures) c.choose_least.ensures

pub exchange-requires : goal.exchange-requires
exchange-requires g c = CanSave-twin _ _ (twin_of c.save.ensures.saved refl c.enter_o.ensures)
