use Rattle.std.proofs.Common.{◌≡◌, length, sym, ◌∙◌, ap}
use Rattle.xw_grid.specs.Grid.{Grid}
use Rattle.xw_feas.specs.State.{State}
use Rattle.xw_feas.specs.EngineState.{state_of}
use Rattle.xw_live.specs.Engine.{IsKept}
use Rattle.xw_live.proofs.Keeping.{kept_from, kept_cells}
use Rattle.xw_live.proofs.Placements.{levels_none, none_sized, remembered_none}
use Rattle.xw_live.proofs.live.Live.new.Goals as goal

pub invariant_of-result : goal.invariant_of-result
invariant_of-result c =
    let position = c.in_ok-position.position in
    let net = c.in_ok-net.net in
    let same : position.grid ≡ c.args.grid = ap (λ (state : State). state.grid) c.in_ok-position.ensures.state in
    let kept : IsKept (state_of position) net = kept_from (state_of position) net ∣ c.in_ok-net.ensures.settled ∣₁ c.in_ok-net.ensures.none_waits in
    record {
      kept = kept;
      levels_kept = levels_none (state_of position) c.new-2.result net c.new-2.ensures.made (none_sized c.in_ok-position.position.grid c.new-2.result.spare.items c.new-2.ensures.spare) (remembered_none (state_of position) c.new-2.result.trail.seen.items c.new-2.ensures.seen);
      same_cells = c.in_ok-before.ensures.ok ∙ sym (ap (λ (grid : Grid). length grid.squares) same) ∙ sym (kept_cells (state_of position) net kept);
    }
