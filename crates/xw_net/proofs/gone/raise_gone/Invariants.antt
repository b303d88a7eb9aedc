use Rattle.xw_net.specs.Gone.{IsFreed, Raises}
use Rattle.xw_net.proofs.gone.raise_gone.Given as goal

abbrev pub invariant-loop-other : goal.invariant-loop-other
invariant-loop-other l = Raises l.board (IsFreed l.grid l.before l.lights l.other) l.fn.letters l.fn.chain l.letters l.chain
