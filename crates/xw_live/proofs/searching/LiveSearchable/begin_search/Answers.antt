use Rattle.std.proofs.Common.{ap}
use Rattle.xw_net.specs.declared.trying.Trail.{Trail}
use Rattle.xw_live.specs.Live.{state_of}
use Rattle.xw_live.proofs.Placements.{levels_none, made_sizes, remembered_same}
use Rattle.xw_live.proofs.searching.LiveSearchable.begin_search.Goals as goal

pub invariant_of-self : goal.invariant_of-self
invariant_of-self c =
    let live = c.args.self.now in
    record {
      kept = live.kept;
      levels_kept = levels_none (state_of live) c.clear.new.self live.net c.clear.ensures.made (c.clear.ensures.spare live.position.grid (made_sizes (state_of live) live.levels live.net live.levels_kept) live.levels_kept.spare)
          (remembered_same (state_of live) live.levels.trail.seen.items c.clear.new.self.trail.seen.items (ap (λ (trail : Trail). trail.seen.items) c.clear.ensures.trail) live.levels_kept.seen);
      same_cells = live.same_cells;
    }
