use Rattle.std.proofs.Common.{refl, ◌∙◌}
use Rattle.xw_feas.proofs.SnapshotLemmas.{IsTwin-itself, IsTwin-turned, CanSave-twin}
use Rattle.xw_tests_engine.proofs.Twins.{twin_of}
use Rattle.xw_tests_engine.proofs.searching.goes_back.Goals as goal

pub exchange-requires : goal.exchange-requires
exchange-requires g c = CanSave-twin _ _ (twin_of c.in_ok-kept.ensures refl c.enter_o.ensures)

pub exchange-requires-2 : goal.exchange-requires-2
exchange-requires-2 g c = CanSave-twin _ _ (twin_of c.exchange.ensures.saved (c.exchange.ensures.now ∙ c.in_ok-kept.ensures) (IsTwin-turned _ _ c.enter_o.ensures))

pub save-requires : goal.save-requires
save-requires g c = CanSave-twin _ _ (twin_of (c.exchange-2.ensures.saved ∙ c.exchange.ensures.now ∙ c.in_ok-kept.ensures) (c.exchange-2.ensures.now ∙ c.exchange.ensures.saved) c.enter_o.ensures)

pub exchange-requires-3 : goal.exchange-requires-3
exchange-requires-3 g c = CanSave-twin _ _ (twin_of c.save.ensures.saved refl (IsTwin-itself _))
