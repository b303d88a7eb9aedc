use Rattle.std.proofs.Common.{◌≡◌, ℕ, Bool, length}
use Rattle.xw_net.specs.Spread.{SpreadsOn, ReachesFrom, either_position, positions_from}
use Rattle.xw_net.specs.Worklist.{Grows}
use Rattle.xw_net.proofs.spread.raise_light.Given as goal

abbrev pub invariant-loop-position : goal.invariant-loop-position
invariant-loop-position l = record {
  letters_len : length l.letters ≡ length l.fn.letters;
  grows : Grows l.fn.chain l.chain;
  spread : (start coming : ℕ → ℕ → Bool)
      → SpreadsOn l.board start (either_position (positions_from l.light 0) coming) l.fn.letters l.fn.chain (either_position (positions_from l.light l.position) coming) l.letters l.chain;
  within : (start coming : ℕ → ℕ → Bool) → ReachesFrom l.board start (either_position (positions_from l.light 0) coming) l.fn.letters l.fn.chain l.chain;
}
