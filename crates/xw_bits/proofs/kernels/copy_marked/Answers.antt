use Rattle.std.proofs.Common.{◌≡◌, ◌+◌, ◌-◌, ◌*◌, ◌<◌, bit_or, get_or, set, sym, ap, ◌∙◌, inl, inr, w64, arith}
use Rattle.std.specs.Int.{trailing_zeros}
use Rattle.std.proofs.lemmas.Bool.{cases_lt, cases_eq}
use Rattle.std.proofs.lemmas.List.{ext_get_or, get_or-set_same, get_or-set_other}
use Rattle.std.proofs.lemmas.Nat.{or_lt}
use Rattle.xw_bits.specs.Bits.{has_bit}
use Rattle.xw_bits.proofs.Apart.{none_of_two}
use Rattle.xw_bits.proofs.BitLemmas.{has_bit-none}
use Rattle.xw_bits.proofs.Summaries.{past_words}
use Rattle.xw_bits.proofs.Marks.{lowest_marked, lowest_small}
use Rattle.xw_bits.proofs.MarkedWords.{unmarked_same, either_within}
use Rattle.xw_bits.proofs.kernels.copy_marked.Goals as goal

pub copy_part-requires-clause-within : goal.copy_part-requires-clause-within
copy_part-requires-clause-within c =
    let part = c.loop-part.part in
    let mine = get_or c.loop-part.summary c.loop-part.part 0 in
    let its = get_or c.args.other_summary.now c.loop-part.part 0 in
    let some : 0 < bit_or (get_or c.loop-part.summary c.loop-part.part 0) (get_or c.args.other_summary.now c.loop-part.part 0) = omega arith in
    let fits = or_lt 64 mine its (c.type_inv.summary part).fits (c.type_inv.other_summary part).fits in
    let low = trailing_zeros w64 (bit_or mine its) in
    let marked = ap (λ n. has_bit (bit_or n its) low) (sym (c.loop-part.invariant.left_marks part (omega arith))) ∙ lowest_marked (bit_or mine its) some fits in
    let within = either_within c.args.words.now c.args.summary.now c.args.other.now c.args.other_summary.now c.requires.summary c.requires.other part low (lowest_small (bit_or mine its) some fits) c.requires.same marked in
    omega (arith, c.loop-part.auto.words, within)

pub copy_part-requires-clause-marked : goal.copy_part-requires-clause-marked
copy_part-requires-clause-marked c k lt marked =
    let part = c.loop-part.part in
    let was = c.loop-part.invariant.left_marks part (omega arith) in
    omega (
      arith,
      c.loop-part.auto.words,
      either_within c.args.words.now c.args.summary.now c.args.other.now c.args.other_summary.now c.requires.summary c.requires.other part k lt c.requires.same
          (ap (λ n. has_bit (bit_or n (get_or c.args.other_summary.now c.loop-part.part 0)) k) (sym was) ∙ marked),
    )

pub copy_part-requires-clause-unmarked : goal.copy_part-requires-clause-unmarked
copy_part-requires-clause-unmarked c k lt none =
    let part = c.loop-part.part in
    let was = c.loop-part.invariant.left_marks part (omega arith) in
    c.loop-part.invariant.left (64 * part + k) (omega arith)
    ∙ unmarked_same c.args.words.now c.args.summary.now c.args.other.now c.args.other_summary.now c.requires.summary c.requires.other part k lt
    (ap (λ n. has_bit (bit_or n (get_or c.args.other_summary.now c.loop-part.part 0)) k) (sym was) ∙ none)

pub loop-part-preserved-then-marks-eq0 : goal.loop-part-preserved-then-marks-eq0
loop-part-preserved-then-marks-eq0 c =
    let inv = c.loop-part.invariant in
    let part = c.loop-part.part in
    let mine = get_or c.loop-part.summary c.loop-part.part 0 in
    let its = get_or c.args.other_summary.now c.loop-part.part 0 in
    let none : bit_or (get_or c.loop-part.summary c.loop-part.part 0) (get_or c.args.other_summary.now c.loop-part.part 0) ≡ 0 = omega arith in
    let both = none_of_two mine its none in
    let was = inv.left_marks part (omega arith) in
    record {
      done = λ k lt. elim (cases_lt k (64 * c.loop-part.part)) [
        | inl before ↦ inv.done k before
        | inr from ↦
            let there : 64 * c.loop-part.part + (k - 64 * c.loop-part.part) ≡ k = omega (arith, from) in
            inv.left k from ∙ ap (λ n. get_or c.args.words.now n 0) (sym there)
            ∙ unmarked_same c.args.words.now c.args.summary.now c.args.other.now c.args.other_summary.now c.requires.summary c.requires.other part (k - 64 * part) (omega (arith, lt, from))
            (ap (λ n. has_bit (bit_or n (get_or c.args.other_summary.now c.loop-part.part 0)) (k - 64 * part)) (sym was) ∙ ap (λ n. has_bit n (k - 64 * part)) none ∙ has_bit-none (k - 64 * part))
            ∙ ap (λ n. get_or c.args.other.now n 0) there
      ];
      left = λ k le. inv.left k (omega (arith, le));
      done_marks = λ k lt. elim (cases_eq k c.loop-part.part) [
        | inl here ↦ ap (λ n. get_or c.loop-part.summary n 0) here ∙ both.0 ∙ sym both.1 ∙ ap (λ n. get_or c.args.other_summary.now n 0) (sym here)
        | inr apart ↦ inv.done_marks k (omega (arith, lt, apart))
      ];
      left_marks = λ k le. inv.left_marks k (omega (arith, le));
    }

pub loop-part-preserved : goal.loop-part-preserved
loop-part-preserved c =
    let inv = c.loop-part.invariant in
    let part = c.loop-part.part in
    let marks = c.loop-part.summary in
    let its = get_or c.args.other_summary.now part 0 in
    record {
      done = λ k lt. elim (cases_lt k (64 * c.loop-part.part)) [
        | inl before ↦ c.copy_part.ensures.below k before ∙ inv.done k before
        | inr from ↦
            let there : 64 * c.loop-part.part + (k - 64 * c.loop-part.part) ≡ k = omega (arith, from) in
            ap (λ n. get_or c.copy_part.new.words n 0) (sym there)
            ∙ c.copy_part.ensures.inside (k - 64 * part) (omega (arith, lt, from))
            ∙ ap (λ n. get_or c.args.other.now n 0) there
      ];
      left = λ k le. c.copy_part.ensures.above k (omega (arith, le)) ∙ inv.left k (omega (arith, le));
      done_marks = λ k lt. elim (cases_eq k c.loop-part.part) [
        | inl here ↦
            ap (λ n. get_or (set marks part its) n 0) here ∙ get_or-set_same marks part its 0 (omega arith)
            ∙ ap (λ n. get_or c.args.other_summary.now n 0) (sym here)
        | inr apart ↦ get_or-set_other marks part k its 0 apart ∙ inv.done_marks k (omega (arith, lt, apart))
      ];
      left_marks = λ k le. get_or-set_other marks part k its 0 (λ e. omega (arith, e, le)) ∙ inv.left_marks k (omega (arith, le));
    }

pub returns-clause-words : goal.returns-clause-words
returns-clause-words c =
    ext_get_or 0 c.loop-part.words c.args.other.now (omega arith) (λ k lt. elim (cases_lt k (64 * c.loop-part.part)) [
      | inl before ↦ c.loop-part.invariant.done k before
      | inr from ↦
          c.loop-part.invariant.left k from
          ∙ c.requires.summary.clear k (past_words c.args.summary.now k (omega (arith, from)))
          ∙ sym (c.requires.other.clear k (past_words c.args.other_summary.now k (omega (arith, from))))
    ])

pub returns-clause-summary : goal.returns-clause-summary
returns-clause-summary c =
    ext_get_or 0 c.loop-part.summary c.args.other_summary.now (omega arith) (λ k lt. c.loop-part.invariant.done_marks k (omega (arith, lt)))
