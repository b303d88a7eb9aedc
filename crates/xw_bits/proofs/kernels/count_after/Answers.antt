use Rattle.std.proofs.Common.{◌≡◌, ◌*◌, IfSome, count_by, length, subst, arith}
use Rattle.std.proofs.lemmas.Nat.{ones-le}
use Rattle.xw_bits.specs.Bits.{bits_of}
use Rattle.xw_bits.proofs.Counts.{count_enough, count_small, count_replaced}
use Rattle.xw_bits.proofs.kernels.count_after.Goals as goal

pub overflow_sub-result : goal.overflow_sub-result
overflow_sub-result c =
    let xs = c.args.words.now in
    let known = subst (λ o. IfSome o (λ count. count ≡ count_by (λ b. b) (bits_of xs (64 * length xs)))) c.in-Some.is c.requires.counted in
    count_enough xs c.args.at c.args.word c.requires.within c.type_inv.words c.ranges.word.fits c.in-Some.count known

pub overflow_add-result : goal.overflow_add-result
overflow_add-result c =
    let xs = c.args.words.now in
    let known = subst (λ o. IfSome o (λ count. count ≡ count_by (λ b. b) (bits_of xs (64 * length xs)))) c.in-Some.is c.requires.counted in
    record { fits = omega (arith, count_small xs c.args.at c.args.word c.requires.within c.type_inv.words c.ranges.word.fits c.in-Some.count known, c.requires.small, ones-le 64 c.args.word c.ranges.word.fits) }

pub returns-in-Some : goal.returns-in-Some
returns-in-Some c =
    let xs = c.args.words.now in
    let known = subst (λ o. IfSome o (λ count. count ≡ count_by (λ b. b) (bits_of xs (64 * length xs)))) c.in-Some.is c.requires.counted in
    count_replaced xs c.args.at c.args.word c.requires.within c.type_inv.words c.ranges.word.fits c.in-Some.count known
