use Rattle.std.proofs.Common.{◌≡◌, ◌<◌, ℕ, false, length, get_or}
use Rattle.xw_feas.specs.State.{least_chosen}
use Rattle.xw_feas.specs.Written.{turns_words}
use Rattle.xw_feas.proofs.turned.turned_lengths.Given as goal

-- the flags so far are right
abbrev pub invariant-loop-len : goal.invariant-loop-len
invariant-loop-len l = record {
  long : length l.turned ≡ 256;
  done : (k : ℕ) → k < l.len → get_or l.turned k false ≡ turns_words l.fn.bank.words (least_chosen l.fn.grade) k;
}
