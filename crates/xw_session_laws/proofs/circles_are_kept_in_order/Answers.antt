use Rattle.xw_session_laws.proofs.InOrder.{all_circles}
use Rattle.xw_session_laws.proofs.circles_are_kept_in_order.Goals as goal

pub returns : goal.returns
returns c = λ state are. all_circles state.engine.grid state.circles are
