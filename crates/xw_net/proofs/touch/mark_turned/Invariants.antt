use Rattle.std.proofs.Common.{◌≡◌, ◌<◌, true, false, length, get_or}
use Rattle.xw_feas.specs.Board.{light_at}
use Rattle.xw_net.specs.Worklist.{Adds}
use Rattle.xw_net.proofs.touch.mark_turned.Given as goal

abbrev pub invariant-loop-light : goal.invariant-loop-light
invariant-loop-light l = Adds (λ other. (other < l.light) × (get_or l.turned (length (light_at l.board other)) false ≡ true)) l.fn.list l.list
