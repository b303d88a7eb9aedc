use Rattle.xw_live.specs.Live.{state_of}
use Rattle.xw_live.proofs.Placements.{levels_either, seen_at_begin, seen_for_all}
use Rattle.xw_live.proofs.live.Live.keep_level.Goals as goal

pub invariant_of-self-2 : goal.invariant_of-self-2
invariant_of-self-2 c =
    let live = c.args.self.now in
    let begun = c.begin.ensures in
    record {
      kept = live.kept;
      levels_kept = levels_either (state_of live) live.levels c.begin.new.self live.net c.begin.result live.position.formed live.kept live.levels_kept begun.last begun.none begun.spare begun.seen;
      same_cells = live.same_cells;
    }

pub returns-clause-seen : goal.returns-clause-seen
returns-clause-seen c =
    let live = c.args.self.now in
    let seen = c.begin.new.self.trail.seen.items in
    seen_for_all (state_of live) seen live.position.formed c.in_ok-begin.ensures.long (seen_at_begin (state_of live) live.levels.trail.seen.items seen live.position.formed c.begin.ensures.seen live.levels_kept.seen)
