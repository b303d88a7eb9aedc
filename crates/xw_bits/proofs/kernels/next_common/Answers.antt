use Rattle.std.proofs.Common.{◌+◌, ◌-◌, ◌*◌, ◌/◌, ◌%◌, not, length, sym, ap, ◌∙◌, inl, inr, arith}
use Rattle.std.proofs.lemmas.Bool.{cases_lt, lt-ltb, le-ltb}
use Rattle.xw_bits.specs.Bits.{words_have}
use Rattle.xw_bits.proofs.Marks.{marks_from, all_marks}
use Rattle.xw_bits.proofs.MarkedWords.{unmarked_apart, marked_here, part_apart, passed_before}
use Rattle.xw_bits.proofs.Summaries.{past_words, either_clear, other_clear, if_some_both, none_is}
use Rattle.xw_bits.proofs.kernels.next_common.Goals as goal

pub loop-part-init : goal.loop-part-init
loop-part-init c = record {
  near = omega arith;
  mask = λ k lt.
      let from = c.args.from in
      marks_from (c.args.from % 64) k (omega arith) lt
      ∙ ap not (elim (cases_lt k (c.args.from % 64)) [
        | inl below ↦ lt-ltb k (from % 64) below ∙ sym (lt-ltb (64 * (from / 64) + k) from (omega (arith, below)))
        | inr on ↦ le-ltb k (from % 64) on ∙ sym (le-ltb (64 * (from / 64) + k) from (omega (arith, on)))
      ]);
  clear = λ k low high. absurd (omega (arith, low, high));
}

pub common_in-found-requires-clause-words : goal.common_in-found-requires-clause-words
common_in-found-requires-clause-words c k lt marked =
    (marked_here c.args.words.now c.args.summary.now c.args.other.now c.args.other_summary.now c.requires.summary c.requires.other c.args.from c.loop-part.part c.loop-part.mask c.loop-part.invariant.mask k lt marked).1

pub common_in-found-requires-clause-other : goal.common_in-found-requires-clause-other
common_in-found-requires-clause-other c k lt marked =
    (marked_here c.args.words.now c.args.summary.now c.args.other.now c.args.other_summary.now c.requires.summary c.requires.other c.args.from c.loop-part.part c.loop-part.mask c.loop-part.invariant.mask k lt marked).2

pub returns-then-is_some-clause-found : goal.returns-then-is_some-clause-found
returns-then-is_some-clause-found c =
    let part = c.loop-part.part in
    if_some_both c.common_in-found.result (λ at found common.
    let k = at - 64 * part in
    let here = marked_here c.args.words.now c.args.summary.now c.args.other.now c.args.other_summary.now c.requires.summary c.requires.other c.args.from c.loop-part.part c.loop-part.mask c.loop-part.invariant.mask k (omega (arith, found.0, found.1)) found.2 in
    (omega (arith, here.0, found.0), omega (arith, here.1, found.0), omega (arith, here.2, found.0), common)) c.common_in-found.ensures.found c.common_in-found.ensures.common

pub returns-then-is_some-clause-passed : goal.returns-then-is_some-clause-passed
returns-then-is_some-clause-passed c =
    passed_before c.args.words.now c.args.summary.now c.args.other.now c.args.other_summary.now c.requires.summary c.requires.other c.args.from c.loop-part.part c.loop-part.mask c.loop-part.invariant.mask
    c.loop-part.invariant.clear c.common_in-found.result c.common_in-found.ensures.found c.common_in-found.ensures.passed

pub loop-part-preserved : goal.loop-part-preserved
loop-part-preserved c =
    let part = c.loop-part.part in
    let none = none_is c.common_in-found.result (sym c.is_some.ensures ∙ c.if-is_some.false) c.common_in-found.ensures.none in
    record {
      near = omega arith;
      mask = λ k lt. all_marks k lt ∙ sym (ap not (le-ltb (64 * (c.loop-part.part + 1) + k) c.args.from (omega arith)));
      clear = λ k low high. elim (cases_lt k (64 * c.loop-part.part)) [
        | inl earlier ↦ c.loop-part.invariant.clear k low earlier
        | inr here ↦
            part_apart c.args.words.now c.args.summary.now c.args.other.now c.args.other_summary.now c.requires.summary c.requires.other c.args.from c.loop-part.part c.loop-part.mask c.loop-part.invariant.mask (64 * part + 64)
            (λ j lt before marked. none j lt marked) k low here (omega (arith, high)) (omega (arith, high))
      ];
    }

pub returns-clause-none : goal.returns-clause-none
returns-clause-none c k low =
    let s = c.args.summary.now in
    let o = c.args.other_summary.now in
    elim (cases_lt k (64 * c.loop-part.part)) [
      | inl before ↦ c.loop-part.invariant.clear k low before
      | inr past ↦
          unmarked_apart c.args.words.now s c.args.other.now o c.requires.summary c.requires.other k (elim (cases_lt (k / 64) (length s)) [
            | inr past_first ↦ either_clear (words_have s k) (words_have o k) (past_words s k past_first)
            | inl within ↦ other_clear (words_have s k) (words_have o k) (past_words o k (omega (arith, past, within)))
          ])
    ]
