-- What an engine counts as placed.
use Rattle.std.proofs.Common.{◌≡◌, ℕ, refl, arith}
use Rattle.std.specs.Prelude.{Result, Ok, Err}
use Rattle.xw_feas.specs.Placings.{placings, placed_after}
use Rattle.xw_feas.specs.State.{Action}
use Rattle.xw_feas.specs.declared.changed.Changed.{Changed}
use Rattle.xw_feas.specs.declared.edit.Refusal.{Refusal}

-- an edit of a kind that places nothing
pub uncounted : (action : Action) (result : Result Changed Refusal) (placed : ℕ) → placings action ≡ 0 → placed_after placed action result ≡ placed
uncounted action (Ok changed) placed none = omega (arith, none)
uncounted action (Err refusal) placed none = refl
