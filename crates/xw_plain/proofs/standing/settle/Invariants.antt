use Rattle.std.proofs.Common.{◌≡◌, ◌+◌, cond, false}
use Rattle.xw_feas.specs.Flags.{set_has, flag_at, standing_counts, set_sum}
use Rattle.xw_feas.specs.Choices.{CoversSupported, IsWithinBase, SupportsItself}
use Rattle.xw_feas.specs.Standing.{HasRows}
use Rattle.xw_plain.proofs.standing.settle.Given as goal

abbrev pub invariant-loop-removed : goal.invariant-loop-removed
invariant-loop-removed l = record {
  rows : HasRows l.board l.bank.words l.words l.letters;
  covers : CoversSupported l.board l.bank.words (flag_at l.words) (set_has l.letters);
  within : IsWithinBase l.board l.bank.words (flag_at l.words) (set_has l.letters);
  supported : l.removed ≡ false → SupportsItself l.board l.bank.words (flag_at l.words) (set_has l.letters);
}

abbrev pub decreases-loop-removed : goal.decreases-loop-removed
decreases-loop-removed l = standing_counts l.words + set_sum l.letters + cond l.removed 1 0
