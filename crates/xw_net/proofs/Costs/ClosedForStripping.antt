-- A region is closed in the way stripping needs, and stripping stays within its cost.
use Rattle.std.proofs.Common.{ℕ, Bool}
use Rattle.std.specs.Prelude.{List}
use Rattle.xw_feas.specs.Board.{board_of, light_at}
use Rattle.xw_feas.specs.Choices.{IsWithinBase}
use Rattle.xw_feas.specs.State.{State, Action}
use Rattle.xw_net.specs.Region.{IsRegion}
use Rattle.xw_net.specs.Due.{IsClosed}
use Rattle.xw_net.proofs.Costs.RegionIsClosed.{region_closed}

pub region_is_closed : (before after : State) (action : Action) (member : List ℕ → Bool) (words letters : ℕ → ℕ → Bool) → IsRegion before after action member → IsWithinBase (board_of after.grid) after.words words letters
    → IsClosed (board_of after.grid) after.words (λ light. member (light_at (board_of after.grid) light)) letters
region_is_closed before after action member words letters region within light position other other_position letter here there meets stands lost has =
    region_closed before after action member region words letters within light position other other_position letter here.0 here.1 there.0 there.1 meets stands lost has
