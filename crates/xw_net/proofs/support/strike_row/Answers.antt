use Rattle.std.proofs.Common.{sym, ◌∙◌}
use Rattle.xw_net.proofs.BaseRows.ClearRows.{none_set}
use Rattle.xw_net.proofs.support.strike_row.Goals as goal

pub returns-then-count-eq0-clause-strikes : goal.returns-then-count-eq0-clause-strikes
returns-then-count-eq0-clause-strikes g c apart =
    let clear = none_set c.args.row.now.bits (sym c.count.ensures ∙ c.if-count-eq0.true) in
    record {
      fewer = λ word stands. stands;
      struck = λ word letter pends has. clear word;
      kept = λ word letter alive has stands. stands;
    }
