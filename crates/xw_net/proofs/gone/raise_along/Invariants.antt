use Rattle.xw_net.specs.Gone.{IsAmong, Raises}
use Rattle.xw_net.proofs.gone.raise_along.Given as goal

abbrev pub invariant-loop-k : goal.invariant-loop-k
invariant-loop-k l = Raises l.board (IsAmong l.grid l.light l.k) l.fn.letters l.fn.chain l.letters l.chain
