use Rattle.std.proofs.Common.{◌*◌, ◌&&◌, false, get_or, take, sym, ap, ◌∙◌, inl, inr, arith}
use Rattle.std.specs.Prelude.{slice_get}
use Rattle.std.proofs.lemmas.Bool.{cases_lt}
use Rattle.xw_words.specs.Columns.{has_listed, stays}
use Rattle.xw_words.specs.Dictionary.{entry_at}
use Rattle.xw_words.proofs.Sieving.{none_stays}
use Rattle.xw_words.proofs.sieve.sift.Goals as goal

pub loop-chunk-preserved : goal.loop-chunk-preserved
loop-chunk-preserved c =
    let inv = c.loop-chunk.invariant in
    let found = c.in-Some.ensures.found in
    let now = c.loop-chunk.row.bits in
    let first = c.args.row.now.bits in
    record {
      long = c.sift_at-from.ensures.len ∙ inv.long;
      room = c.sift_at-from.ensures.room ∙ inv.room;
      inside = λ i lt entries position are.
          let stays_there = stays c.args.keep (has_listed entries position (take c.list_letters-count.result c.list_letters-count.new.list) i) in
          elim (cases_lt i (64 * c.in-Some.chunk)) [
            | inl before ↦
                c.sift_at-from.ensures.below i before
                ∙ elim (cases_lt i (64 * c.loop-chunk.from)) [
                  | inl done ↦ inv.inside i done entries position are
                  | inr from ↦
                      let clear = c.in-Some.ensures.passed i from before in
                      none_stays (get_or now i false) (get_or first i false) stays_there (inv.above i from) (sym (inv.above i from) ∙ clear)
                ]
            | inr on ↦
                c.sift_at-from.ensures.inside i on lt entries position are
                ∙ ap (λ b. b && stays_there) (inv.above i (omega (arith, on, found.0)))
          ];
      above = λ i le. c.sift_at-from.ensures.above i le ∙ inv.above i (omega (arith, le, found.0, c.sift_at-from.ensures.next));
    }

pub returns-clause-bits : goal.returns-clause-bits
returns-clause-bits c i entries position are =
    let inv = c.loop-chunk.invariant in
    let old = get_or c.args.row.now.bits i false in
    elim (cases_lt i (64 * c.loop-chunk.from)) [
      | inl done ↦ inv.inside i done entries position are
      | inr from ↦
          let clear = c.in_default.ensures.none i from in
          none_stays (get_or c.loop-chunk.row.bits i false) old (stays c.args.keep (has_listed entries position (take c.list_letters-count.result c.list_letters-count.new.list) i)) (inv.above i from) (sym (inv.above i from) ∙ clear)
    ]
    ∙ ap (λ b. old && stays c.args.keep b) (c.list_letters-count.ensures.lists (slice_get (entry_at entries i).word position))
