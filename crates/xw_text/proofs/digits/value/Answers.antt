use Rattle.std.proofs.Common.{arith, get_or}
use Rattle.xw_text.proofs.DigitLemmas.{digit_at, in_range, small_enough, one_more, ten_times}
use Rattle.xw_text.proofs.digits.value.Goals as goal

pub overflow_mul-value : goal.overflow_mul-value
overflow_mul-value c =
    let small = small_enough c.args.digits.now _ _ c.requires c.loop-digit-test.true c.loop-digit.invariant.small in
    omega (arith, small)

pub overflow_add-value : goal.overflow_add-value
overflow_add-value c =
    let small = small_enough c.args.digits.now _ _ c.requires c.loop-digit-test.true c.loop-digit.invariant.small in
    let range = in_range (get_or c.args.digits.now c.loop-digit.digit-index 0) (digit_at c.args.digits.now _ c.requires c.loop-digit-test.true) in
    omega (arith, small, range)

pub loop-digit-preserved : goal.loop-digit-preserved
loop-digit-preserved c = record {
  is = rw c.from.ensures (one_more c.args.digits.now _ _ c.requires c.loop-digit-test.true c.loop-digit.invariant.is);
  small = rw c.from.ensures (ten_times c.args.digits.now _ _ c.requires c.loop-digit-test.true c.loop-digit.invariant.small);
}
