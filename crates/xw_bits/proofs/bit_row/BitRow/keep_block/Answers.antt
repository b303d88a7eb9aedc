use Rattle.std.proofs.Common.{ℕ, ◌≡◌, ◌≤◌, ◌+◌, ◌*◌, ◌&&◌, false, length, get_or, vec_len, IfSome, count_by, sym, subst, ap, ◌∙◌, arith}
use Rattle.std.proofs.lemmas.List.{with_items_is}
use Rattle.xw_bits.specs.Bits.{bits_of, words_have, has_bit, block_kept}
use Rattle.xw_bits.specs.Summary.{IsSummary}
use Rattle.xw_bits.proofs.BitLemmas.{length-bits_of}
use Rattle.xw_bits.proofs.Summaries.{written, fewer_words, if_some}
use Rattle.xw_bits.proofs.BitRowLemmas.{view_len, bit_is, counted_whole}
use Rattle.xw_bits.proofs.KeptBlocks.{is_kept}
use Rattle.xw_bits.proofs.RowBlocks.{row_bit, block_zero, block_below, block_inside, block_above, block_none}
use Rattle.xw_bits.proofs.bit_row.BitRow.keep_block.Goals as goal

pub count_kept-self-inside-requires-clause-within : goal.count_kept-self-inside-requires-clause-within
count_kept-self-inside-requires-clause-within c = omega (arith, c.deref.ensures.len, c.requires, view_len c.self.inside c.self.view_is, c.self.invariant.words_len)

pub count_kept-self-inside-requires-clause-counted : goal.count_kept-self-inside-requires-clause-counted
count_kept-self-inside-requires-clause-counted c =
    let r = c.self.inside in
    subst (λ n. IfSome r.counted (λ count. count ≡ n))
    (sym (ap (λ ws. count_by (λ b. b) (bits_of ws (64 * length ws))) c.deref.ensures.value ∙ counted_whole r.words.items r.len (omega (arith, c.self.invariant.words_len)) c.self.invariant.nothing_past))
    c.self.invariant.counted

pub keep_at-requires : goal.keep_at-requires
keep_at-requires c = omega (arith, c.deref_mut.ensures.len, c.requires, view_len c.self.inside c.self.view_is, c.self.invariant.words_len)

pub unmark_block-requires-clause-within : goal.unmark_block-requires-clause-within
unmark_block-requires-clause-within c = omega (arith, c.deref-2.ensures.len, c.requires, view_len c.self.inside c.self.view_is, c.self.invariant.words_len)

pub unmark_block-requires-clause-summary : goal.unmark_block-requires-clause-summary
unmark_block-requires-clause-summary c =
    let r = c.self.inside in
    let old = c.deref_mut.result.now in
    let new = c.keep_at.new.words in
    let before : IsSummary c.deref_mut.result.now c.deref_mut-2.result.now =
    subst (λ ws. IsSummary ws c.deref_mut-2.result.now) (sym c.deref_mut.ensures.value) (subst (λ ss. IsSummary r.words.items ss) (sym c.deref_mut-2.ensures.value) c.self.invariant.summary) in
    subst (λ ws. IsSummary ws c.deref_mut-2.result.now) (sym (c.deref-2.ensures.value ∙ with_items_is r.words new (omega (arith, c.keep_at.auto.words, c.deref_mut.ensures.len))))
    (fewer_words old new c.deref_mut-2.result.now before (omega (arith, c.keep_at.auto.words)) (block_zero old new c.args.block c.args.at c.keep_at.ensures.below c.keep_at.ensures.inside c.keep_at.ensures.above))

pub invariant_of-self : goal.invariant_of-self
invariant_of-self c = record {
  small = c.self.invariant.small;
  words_len = c.self.invariant.words_len;
  nothing_past = λ i le.
      ap (λ ws. words_have ws i) (with_items_is c.self.inside.words c.keep_at.new.words (omega (arith, c.keep_at.auto.words, c.deref_mut.ensures.len)))
      ∙ block_none c.deref_mut.result.now c.keep_at.new.words c.args.block c.args.at c.keep_at.ensures.below c.keep_at.ensures.inside c.keep_at.ensures.above i (ap (λ ws. words_have ws i) c.deref_mut.ensures.value ∙ c.self.invariant.nothing_past i le);
  summary_len = c.self.invariant.summary_len;
  summary = written c.self.inside.words c.self.inside.summary c.keep_at.new.words c.unmark_block.new.summary (omega (arith, c.keep_at.auto.words, c.deref_mut.ensures.len)) (omega (arith, c.unmark_block.auto.summary, c.deref_mut-2.ensures.len))
      (subst (λ ws. IsSummary ws c.unmark_block.new.summary) (c.deref-2.ensures.value ∙ with_items_is c.self.inside.words c.keep_at.new.words (omega (arith, c.keep_at.auto.words, c.deref_mut.ensures.len))) c.unmark_block.ensures);
  within = c.self.invariant.within;
  words_room = c.self.invariant.words_room;
  summary_room = c.self.invariant.summary_room;
  counted =
      let r = c.self.inside in
      let old = c.deref_mut.result.now in
      let new = c.keep_at.new.words in
      let at = c.args.at in
      let block = c.args.block in
      let long : length c.keep_at.new.words ≡ vec_len c.self.inside.words = omega (arith, c.keep_at.auto.words, c.deref_mut.ensures.len) in
      let none : (i : ℕ) → c.self.inside.len ≤ i → words_have c.keep_at.new.words i ≡ false = λ i le. block_none old new block at c.keep_at.ensures.below c.keep_at.ensures.inside c.keep_at.ensures.above i (ap (λ ws. words_have ws i) c.deref_mut.ensures.value ∙ c.self.invariant.nothing_past i le) in
      let room : at + 8 ≤ length c.deref_mut.result.now = omega (arith, c.deref_mut.ensures.len, c.requires, view_len c.self.inside c.self.view_is, c.self.invariant.words_len) in
      let kept = is_kept old block at room c.fits-block.0 new c.keep_at.auto.words c.keep_at.ensures.below c.keep_at.ensures.inside c.keep_at.ensures.above ∙ ap (λ ws. block_kept ws at block) c.deref_mut.ensures.value in
      if_some c.count_kept-self-inside.result (λ count is.
      is ∙ ap (λ ws. count_by (λ b. b) (bits_of (block_kept ws at block) (64 * length ws))) c.deref.ensures.value
      ∙ ap (λ n. count_by (λ b. b) (bits_of (block_kept r.words.items at block) (64 * n))) (sym (c.keep_at.auto.words ∙ ap length c.deref_mut.ensures.value))
      ∙ ap (λ ws. count_by (λ b. b) (bits_of ws (64 * length new))) (sym kept)
      ∙ counted_whole new r.len (omega (arith, long, c.self.invariant.words_len)) none
      ∙ sym (ap (λ ws. count_by (λ b. b) (bits_of ws r.len)) (with_items_is r.words new long))) c.count_kept-self-inside.ensures;
}

pub returns-clause-len : goal.returns-clause-len
returns-clause-len c = length-bits_of _ _ ∙ view_len c.self.inside c.self.view_is

pub returns-clause-below : goal.returns-clause-below
returns-clause-below c i lt =
    let r = c.self.inside in
    let old = c.deref_mut.result.now in
    let new = c.keep_at.new.words in
    ap (λ ws. get_or (bits_of ws r.len) i false) (with_items_is r.words c.keep_at.new.words (omega (arith, c.keep_at.auto.words, c.deref_mut.ensures.len)))
    ∙ row_bit c.keep_at.new.words r.len i (λ k le. block_none old new c.args.block c.args.at c.keep_at.ensures.below c.keep_at.ensures.inside c.keep_at.ensures.above k (ap (λ ws. words_have ws k) c.deref_mut.ensures.value ∙ c.self.invariant.nothing_past k le))
    ∙ block_below old new c.args.block c.args.at c.keep_at.ensures.below c.keep_at.ensures.inside c.keep_at.ensures.above i lt
    ∙ ap (λ ws. words_have ws i) c.deref_mut.ensures.value
    ∙ sym (bit_is r c.self.view_is c.self.invariant i)

pub returns-clause-inside : goal.returns-clause-inside
returns-clause-inside c chunk k in_block lt =
    let r = c.self.inside in
    let old = c.deref_mut.result.now in
    let new = c.keep_at.new.words in
    let i : ℕ = 64 * (c.args.at + chunk) + k in
    ap (λ ws. get_or (bits_of ws r.len) i false) (with_items_is r.words c.keep_at.new.words (omega (arith, c.keep_at.auto.words, c.deref_mut.ensures.len)))
    ∙ row_bit c.keep_at.new.words r.len i (λ k le. block_none old new c.args.block c.args.at c.keep_at.ensures.below c.keep_at.ensures.inside c.keep_at.ensures.above k (ap (λ ws. words_have ws k) c.deref_mut.ensures.value ∙ c.self.invariant.nothing_past k le))
    ∙ block_inside old new c.args.block c.args.at c.keep_at.ensures.below c.keep_at.ensures.inside c.keep_at.ensures.above chunk k in_block lt
    ∙ ap (λ b. b && has_bit (get_or c.args.block chunk 0) k) (ap (λ ws. words_have ws i) c.deref_mut.ensures.value ∙ sym (bit_is r c.self.view_is c.self.invariant i))

pub returns-clause-above : goal.returns-clause-above
returns-clause-above c i le =
    let r = c.self.inside in
    let old = c.deref_mut.result.now in
    let new = c.keep_at.new.words in
    ap (λ ws. get_or (bits_of ws r.len) i false) (with_items_is r.words c.keep_at.new.words (omega (arith, c.keep_at.auto.words, c.deref_mut.ensures.len)))
    ∙ row_bit c.keep_at.new.words r.len i (λ k le. block_none old new c.args.block c.args.at c.keep_at.ensures.below c.keep_at.ensures.inside c.keep_at.ensures.above k (ap (λ ws. words_have ws k) c.deref_mut.ensures.value ∙ c.self.invariant.nothing_past k le))
    ∙ block_above old new c.args.block c.args.at c.keep_at.ensures.below c.keep_at.ensures.inside c.keep_at.ensures.above i le
    ∙ ap (λ ws. words_have ws i) c.deref_mut.ensures.value
    ∙ sym (bit_is r c.self.view_is c.self.invariant i)
