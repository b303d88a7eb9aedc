use Rattle.std.proofs.Common.{◌≡◌, ◌≤◌, length, take}
use Rattle.xw_fill.proofs.ScanLemmas.{IsTakingBack}
use Rattle.xw_fill.proofs.trial.clear_blanks.Given as goal

-- the list clears those of the first cells that were empty before
abbrev pub invariant-loop-pos : goal.invariant-loop-pos
invariant-loop-pos g l = record {
  long : length l.list ≡ 255;
  few : l.count ≤ l.pos;
  within : l.count ≤ 255;
  back : IsTakingBack (g.E.Feasible.state l.initial.engine) l.trial.light l.trial.blanks (take l.count l.list) l.pos;
}
