use Rattle.std.proofs.Common.{sym, ◌∙◌, subst}
use Rattle.xw_feas.specs.State.{State}
use Rattle.xw_live.specs.Engine.{IsKept}
use Rattle.xw_live.proofs.Keeping.{kept_from, kept_cells}
use Rattle.xw_feas.specs.EngineState.{state_of}
use Rattle.xw_live.proofs.Placements.{levels_none, none_sized, remembered_none}
use Rattle.xw_live.proofs.live.Live.take_grid.Goals as goal

pub invariant_of-self : goal.invariant_of-self
invariant_of-self c =
    let state : State = record { grid = c.args.grid; words = c.args.self.now.position.bank.words } in
    let net = c.in_ok-arrays.arrays.net in
    let kept : IsKept state net = kept_from state net ∣ c.in_ok-arrays.ensures.settled ∣₁ c.in_ok-arrays.ensures.none_waits in
    record {
      kept = subst (λ (state : State). IsKept state c.in_ok-arrays.arrays.net) (sym c.replace.ensures) kept;
      levels_kept = levels_none (state_of c.replace.new.self) c.new.result net c.new.ensures.made (none_sized c.replace.new.self.grid c.new.result.spare.items c.new.ensures.spare) (remembered_none (state_of c.replace.new.self) c.new.result.trail.seen.items c.new.ensures.seen);
      same_cells = c.in_ok-arrays.ensures.before ∙ sym (kept_cells state net kept);
    }
