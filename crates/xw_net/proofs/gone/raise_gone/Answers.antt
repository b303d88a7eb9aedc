use Rattle.std.proofs.Common.{◌+◌}
use Rattle.xw_net.specs.Gone.{IsFreed, IsFreedAt}
use Rattle.xw_net.proofs.Revivals.FreedCells.{raises_more, freed_more, freed_last, freed_split}
use Rattle.xw_net.proofs.gone.raise_gone.Goals as goal

pub loop-other-preserved : goal.loop-other-preserved
loop-other-preserved c =
    raises_more c.args.board.now (IsFreed c.args.grid.now c.args.before.now c.args.lights.now c.loop-other.other) (IsFreedAt c.args.grid.now c.args.before.now c.args.lights.now c.loop-other.other)
    (IsFreed c.args.grid.now c.args.before.now c.args.lights.now (c.loop-other.other + 1)) _ _ _ _ _ _
    (freed_more c.args.grid.now c.args.before.now c.args.lights.now c.loop-other.other) (freed_last c.args.grid.now c.args.before.now c.args.lights.now c.loop-other.other)
    (freed_split c.args.grid.now c.args.before.now c.args.lights.now c.loop-other.other) c.loop-other.invariant c.raise_if_gone.ensures
