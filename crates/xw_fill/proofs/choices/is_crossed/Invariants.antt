use Rattle.std.proofs.Common.{ℕ, ◌<◌, get_or}
use Rattle.xw_feas.specs.Board.{board_of, light_at, IsCrossing}
use Rattle.xw_fill.proofs.choices.is_crossed.Given as goal

-- no other light passes through the cells before
abbrev pub invariant-loop-position : goal.invariant-loop-position
invariant-loop-position g l =
    let board = board_of (g.E.Feasible.state l.engine).grid in
    (position other : ℕ) → position < l.position → IsCrossing board l.light (get_or (light_at board l.light) position 0) other → ⊥
