use Rattle.std.proofs.Common.{◌≡◌, ◌+◌, ◌-◌, ◌*◌, ◌<◌, List, ℕ, IfSome, count_by, length, map, take, drop, get_or, bit_and, sum_by, count_ones, Fits, w64, subst, sym, ap, ◌∙◌, arith}
use lib.Lanes.{zip2}
use Rattle.std.specs.Int.{bit_not}
use Rattle.std.proofs.Math.Seq.{take-length}
use Rattle.std.proofs.lemmas.List.Sums.{sum_by_more}
use Rattle.std.proofs.lemmas.Nat.{ones-le}
use Rattle.std.proofs.lemmas.Simd.{Each1-get_or}
use Rattle.xw_bits.specs.Bits.{bits_of}
use Rattle.xw_bits.proofs.KeptBlocks.{length-gone, count_left}
use Rattle.xw_bits.proofs.kernels.count_kept.Goals as goal

-- the bits that go
abbrev gone : List ℕ → ℕ → List ℕ → List ℕ
gone words at block = zip2 bit_and (take 8 (drop at words)) (map (bit_not w64) block)

all_gone : (words : List ℕ) (at : ℕ) (block : List ℕ) (k cleared : ℕ) → length (gone words at block) ≡ k → cleared ≡ sum_by count_ones (take k (gone words at block)) → cleared ≡ sum_by count_ones (gone words at block)
all_gone words at block k cleared whole so_far = so_far ∙ ap (sum_by count_ones) (ap (λ n. take n (gone words at block)) (sym whole) ∙ take-length (gone words at block))

pub overflow_add-cleared : goal.overflow_add-cleared
overflow_add-cleared c =
    let few = ones-le 64 (get_or (gone c.args.words.now c.args.at c.args.block) c.loop-k.k 0) c.loop-k-test.element_fits.fits in
    record { fits = omega (arith, few) }

pub loop-k-preserved : goal.loop-k-preserved
loop-k-preserved c =
    let its = gone c.args.words.now c.args.at c.args.block in
    let within : c.loop-k.k < length (gone c.args.words.now c.args.at c.args.block) = omega (arith, length-gone c.args.words.now c.args.block c.args.at c.requires.within c.fits-block.0) in
    let word = get_or (gone c.args.words.now c.args.at c.args.block) c.loop-k.k 0 in
    record {
      so_far = ap (λ n. n + count_ones word) c.loop-k.invariant.so_far ∙ sym (sum_by_more count_ones its c.loop-k.k 0 within);
      small = omega (arith, ones-le 64 word c.loop-k-test.element_fits.fits);
    }

pub overflow_sub-result : goal.overflow_sub-result
overflow_sub-result c =
    let xs = c.args.words.now in
    let known = subst (λ o. IfSome o (λ count. count ≡ count_by (λ b. b) (bits_of xs (64 * length xs)))) c.in_ok-count.was c.requires.counted in
    let its = length-gone xs c.args.block c.args.at c.requires.within c.fits-block.0 in
    let whole : length (gone c.args.words.now c.args.at c.args.block) ≡ c.loop-k.k = omega (arith, its) in
    let all = all_gone xs c.args.at c.args.block c.loop-k.k c.loop-k.cleared whole c.loop-k.invariant.so_far in
    let left = count_left xs c.args.block c.args.at c.requires.within c.fits-block.0 c.type_inv.words (λ k lt. Each1-get_or (Fits w64) c.args.block k 0 (omega (arith, lt, c.fits-block.0)) c.fits-block.1) c.in_ok-count.count known in
    omega (arith, all, left.0)

pub returns : goal.returns
returns c =
    let xs = c.args.words.now in
    let known = subst (λ o. IfSome o (λ count. count ≡ count_by (λ b. b) (bits_of xs (64 * length xs)))) c.in_ok-count.was c.requires.counted in
    let its = length-gone xs c.args.block c.args.at c.requires.within c.fits-block.0 in
    let whole : length (gone c.args.words.now c.args.at c.args.block) ≡ c.loop-k.k = omega (arith, its) in
    let all = all_gone xs c.args.at c.args.block c.loop-k.k c.loop-k.cleared whole c.loop-k.invariant.so_far in
    let left = count_left xs c.args.block c.args.at c.requires.within c.fits-block.0 c.type_inv.words (λ k lt. Each1-get_or (Fits w64) c.args.block k 0 (omega (arith, lt, c.fits-block.0)) c.fits-block.1) c.in_ok-count.count known in
    ap (λ n. c.in_ok-count.count - n) all ∙ left.1
