use Rattle.std.proofs.Common.{◌≡◌, ◌+◌, sum_by, count_ones, take, length, sym, ◌∙◌, ap, arith}
use Rattle.std.proofs.lemmas.List.Sums.{sum_by_more}
use Rattle.xw_bits.proofs.Counts.{ones_few, ones_more}
use Rattle.xw_bits.proofs.BitLemmas.{ones_of_row}
use Rattle.std.proofs.Math.Seq.{take-length}
use Rattle.xw_bits.proofs.kernels.count_words.Goals as goal

pub overflow_add-total : goal.overflow_add-total
overflow_add-total c =
    let xs = c.args.words.now in
    let at = c.loop-at.at in
    record { fits = omega (arith, ones_few xs (at + 8) c.type_inv.words, ones_more xs at 8, c.loop-at.invariant.so_far, c.count_span-total.ensures) }

pub loop-at-preserved : goal.loop-at-preserved
loop-at-preserved c =
    let xs = c.args.words.now in
    let at = c.loop-at.at in
    let so_far : c.loop-at.total + c.count_span-total.result ≡ sum_by count_ones (take (at + 8) xs) = omega (arith, ones_more xs at 8, c.loop-at.invariant.so_far, c.count_span-total.ensures) in
    record { within = omega arith; so_far = so_far; small = omega (arith, ones_few xs (at + 8) c.type_inv.words, so_far) }

pub loop-at-2-preserved : goal.loop-at-2-preserved
loop-at-2-preserved c =
    let xs = c.args.words.now in
    let at = c.loop-at-2.at in
    let so_far : c.loop-at-2.total + c.from-total.result ≡ sum_by count_ones (take (at + 1) xs) =
    omega (arith, sum_by_more count_ones xs at 0 (omega arith), c.loop-at-2.invariant.so_far, c.from-total.ensures) in
    record { within = omega arith; so_far = so_far; small = omega (arith, ones_few xs (at + 1) c.type_inv.words, so_far) }

pub returns : goal.returns
returns c =
    let at_end : length c.args.words.now ≡ c.loop-at-2.at = omega arith in
    c.loop-at-2.invariant.so_far ∙ ap (sum_by count_ones) (sym (ap (λ n. take n c.args.words.now) at_end) ∙ take-length c.args.words.now) ∙ ones_of_row c.args.words.now c.type_inv.words
