use Rattle.std.proofs.Common.{sym, ap}
use Rattle.xw_feas.specs.EngineState.{state_of as position_state_of}
use Rattle.xw_feas.specs.State.{known_placed}
use Rattle.xw_net.specs.Change.{IsChange}
use Rattle.xw_live.specs.Engine.{IsKept}
use Rattle.xw_net.specs.declared.trying.Trail.{Trail}
use Rattle.xw_live.specs.Live.{state_of}
use Rattle.xw_live.proofs.Following.{entries_follow, entries_change, entries_cells}
use Rattle.xw_live.proofs.Placements.{levels_none, spare_cleared}
use Rattle.xw_live.proofs.Remembered.{remembered_written}
use Rattle.xw_live.proofs.live.Live.place_known.Goals as goal

pub settle-self-requires : goal.settle-self-requires
settle-self-requires c =
    let old = c.args.self.now in
    entries_follow old.position c.place_known.new.self (known_placed (state_of old) c.args.light c.args.index) old.net old.kept c.place_known.ensures.made c.place_known.ensures.effect c.place_known.ensures.told c.place_known.ensures.shape c.place_known.ensures.words

pub invariant_of-self : goal.invariant_of-self
invariant_of-self c =
    let old = c.args.self.now in
    let now = c.place_known.new.self in
    let action = known_placed (state_of old) c.args.light c.args.index in
    let change : IsChange (state_of old) (position_state_of now) action _ = entries_change old.position now action old.net old.kept c.place_known.ensures.made c.place_known.ensures.effect c.place_known.ensures.told in
    let kept : IsKept (position_state_of now) c.settle-self.new.net = c.settle-self.ensures.kept (state_of old) action change old.kept.settled in
    record {
      kept = kept;
      levels_kept = levels_none (position_state_of c.place_known.new.self) c.clear.new.self c.settle-self.new.net c.clear.ensures.made (spare_cleared (state_of old) old.levels c.clear.new.self old.net now.grid old.levels_kept c.clear.ensures.spare (sym c.place_known.ensures.shape.cells))
          (remembered_written (state_of old) (position_state_of now) action old.levels.trail.seen.items c.clear.new.self.trail.seen.items old.position.formed c.place_known.ensures.made c.place_known.ensures.shape c.place_known.ensures.words (ap (λ (trail : Trail). trail.seen.items) c.clear.ensures.trail) old.levels_kept.seen);
      same_cells = entries_cells old.position now action old.net old.kept c.place_known.ensures.made c.place_known.ensures.shape c.settle-self.new.net c.keep_letters.new.before.items c.keep_letters.ensures kept;
    }

pub returns-clause-done : goal.returns-clause-done
returns-clause-done c =
    let old = c.args.self.now in
    let now = c.place_known.new.self in
    let action = known_placed (state_of old) c.args.light c.args.index in
    let change : IsChange (state_of old) (position_state_of now) action _ = entries_change old.position now action old.net old.kept c.place_known.ensures.made c.place_known.ensures.effect c.place_known.ensures.told in
    record {
      made = c.place_known.ensures.made;
      letters = c.keep_letters.ensures;
      cost = c.settle-self.ensures.cost (state_of old) action change old.kept.settled;
      risen = c.settle-self.ensures.risen;
    }
