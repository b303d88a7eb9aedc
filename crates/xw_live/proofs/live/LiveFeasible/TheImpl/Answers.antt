use Rattle.xw_live.proofs.Lending.{such_by_looser, clause_gives}
use Rattle.xw_live.proofs.live.LiveFeasible.TheImpl.Goals as goal

-- an edit within its cost is an edit
pub edit-meets : goal.edit-meets
edit-meets g x c = clause_gives g.world.𝓤 _ _ _ _ (λ r e. such_by_looser g.world.𝓛 _ _ _ _ _ _ (λ w n p. p) (λ n p. p.0))
