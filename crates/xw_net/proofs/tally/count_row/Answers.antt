use Rattle.std.proofs.Common.{ℕ, ◌*◌, List, length, refl, ap, sym, ◌∙◌, inl, inr, arith}
use Rattle.std.proofs.lemmas.Bool.{cases_lt}
use Rattle.xw_words.specs.Dictionary.{Entry}
use Rattle.xw_net.proofs.Nets.TalliedLetters.{tally_more, tally_whole, tally_clear}
use Rattle.xw_net.specs.Tally.{row_tally}
use Rattle.xw_net.proofs.tally.count_row.Goals as goal

pub loop-chunk-init : goal.loop-chunk-init
loop-chunk-init g c = record { entries = refl; tally = refl; small = omega arith; within = omega arith }

pub loop-chunk-preserved : goal.loop-chunk-preserved
loop-chunk-preserved g c =
    let row = c.args.row.now.bits in
    let words = g.R.Rows.entries c.args.rows.now c.args.len in
    let same = ap (λ (all : ℕ → List Entry). all c.args.len) c.loop-chunk.invariant.entries in
    let found = c.in-Some.ensures.found in
    record {
      entries = c.count_chunk-total.ensures.entries ∙ c.loop-chunk.invariant.entries;
      tally = omega (
        arith,
        tally_more row words c.args.position c.args.letter c.in-Some.chunk,
        tally_clear row words c.args.position c.args.letter (64 * c.loop-chunk.from) (64 * c.in-Some.chunk) (omega (arith, found.0)) c.in-Some.ensures.passed,
        c.loop-chunk.invariant.tally,
        c.count_chunk-total.ensures.tally ∙ ap (λ (all : List Entry). row_tally row all c.args.position c.args.letter (64 * c.in-Some.chunk) 64) same,
      );
      small = omega (arith, c.loop-chunk.invariant.small, c.count_chunk-total.ensures.small, found.0);
      within = omega (arith, found.1);
    }

pub returns-clause-tally : goal.returns-clause-tally
returns-clause-tally g c =
    let row = c.args.row.now.bits in
    let words = g.R.Rows.entries c.args.rows.now c.args.len in
    c.loop-chunk.invariant.tally
    ∙ elim (cases_lt (64 * c.loop-chunk.from) (length c.args.row.now.bits)) [
      | inl lt ↦
          sym (tally_clear row words c.args.position c.args.letter (64 * c.loop-chunk.from) (length row) (omega (arith, lt)) (λ i le _. c.in_default.ensures.none i le))
      | inr past ↦ tally_whole row words c.args.position c.args.letter (64 * c.loop-chunk.from) past
    ]
