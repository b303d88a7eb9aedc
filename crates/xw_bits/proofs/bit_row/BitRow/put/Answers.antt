use Rattle.std.proofs.Common.{ℕ, ◌≡◌, ◌+◌, ◌-◌, ◌*◌, ◌/◌, ◌%◌, ◌<◌, ◌≤◌, false, cond, eqb, ltb, min, ◌&&◌, set, get_or, length-set, IfSome, count_by, length, subst, sym, ap, ◌∙◌, arith}
use Rattle.std.proofs.lemmas.List.{get_or_default}
use Rattle.xw_bits.specs.Bits.{has_bit, words_have, bits_of}
use Rattle.xw_bits.proofs.Summaries.{written}
use Rattle.xw_bits.proofs.BitLemmas.{word_bit, length-bits_of, put_in_chunk}
use Rattle.xw_bits.proofs.BitRowLemmas.{is_written, view_len, chunk_within, counted_whole, replaced_none_past, replaced_inside, replaced_other, put_low, bit_is}
use Rattle.xw_bits.proofs.bit_row.BitRow.put.Goals as goal

pub index-requires : goal.index-requires
index-requires c = chunk_within c.self.inside c.self.view_is c.self.invariant (c.args.i / 64) (omega arith)

pub count_after-self-inside-requires-clause-within : goal.count_after-self-inside-requires-clause-within
count_after-self-inside-requires-clause-within c = omega (arith, c.deref.ensures.len, chunk_within c.self.inside c.self.view_is c.self.invariant (c.args.i / 64) (omega arith))

pub count_after-self-inside-requires-clause-counted : goal.count_after-self-inside-requires-clause-counted
count_after-self-inside-requires-clause-counted c =
    let r = c.self.inside in
    subst (λ n. IfSome r.counted (λ count. count ≡ n))
    (sym (ap (λ ws. count_by (λ b. b) (bits_of ws (64 * length ws))) c.deref.ensures.value ∙ counted_whole r.words.items r.len (omega (arith, c.self.invariant.words_len)) c.self.invariant.nothing_past))
    c.self.invariant.counted

pub put_word-requires-clause-within : goal.put_word-requires-clause-within
put_word-requires-clause-within c = omega (arith, c.deref_mut.ensures.len, chunk_within c.self.inside c.self.view_is c.self.invariant (c.args.i / 64) (omega arith))

pub put_word-requires-clause-long : goal.put_word-requires-clause-long
put_word-requires-clause-long c = omega (arith, c.deref_mut-2.ensures.len, view_len c.self.inside c.self.view_is, c.self.invariant.summary_len, c.requires)

pub invariant_of-self : goal.invariant_of-self
invariant_of-self c =
    let r = c.self.inside in
    let chunk = c.args.i / 64 in
    let word = c.with_bit-word.result in
    let within : 64 * (c.args.i / 64) < length c.args.self.now.bits = omega arith in
    let within_words = chunk_within r c.self.view_is c.self.invariant chunk within in
    let own : c.index.result.now ≡ get_or c.self.inside.words.items (c.args.i / 64) 0 = c.index.ensures ∙ get_or_default r.words.items chunk c.index.result.now 0 (omega (arith, within_words)) in
    let is_low : (k : ℕ) → k < 64 → has_bit c.with_bit-word.result k ≡ (ltb k (min (c.self.inside.len - 64 * (c.args.i / 64)) 64) && has_bit c.with_bit-word.result k) =
    put_low r c.self.view_is c.self.invariant c.args.i c.args.bit word c.requires (λ k lt. c.with_bit-word.ensures k lt ∙ ap (λ w. cond (eqb k (c.args.i % 64)) c.args.bit (has_bit w k)) own) in
    let is_new = is_written r.words c.put_word.new.words chunk word (omega (arith, c.put_word.auto.words, c.deref_mut.ensures.len)) c.deref_mut.ensures.value c.put_word.ensures.words in
    let new = set r.words.items chunk word in
    let none : (i : ℕ) → c.self.inside.len ≤ i → words_have (set c.self.inside.words.items (c.args.i / 64) c.with_bit-word.result) i ≡ false = replaced_none_past r c.self.view_is c.self.invariant chunk word word within is_low in
    record {
      small = c.self.invariant.small;
      words_len = c.self.invariant.words_len;
      nothing_past = λ i le. ap (λ ws. words_have ws i) is_new ∙ none i le;
      summary_len = c.self.invariant.summary_len;
      summary = written r.words r.summary c.put_word.new.words c.put_word.new.summary (omega (arith, c.put_word.auto.words, c.deref_mut.ensures.len)) (omega (arith, c.put_word.auto.summary, c.deref_mut-2.ensures.len)) c.put_word.ensures.summary;
      within = c.self.invariant.within;
      words_room = c.self.invariant.words_room;
      summary_room = c.self.invariant.summary_room;
      counted =
          subst (λ ws. IfSome c.count_after-self-inside.result (λ count. count ≡ count_by (λ b. b) (bits_of ws r.len))) (sym is_new)
          (subst (λ n. IfSome c.count_after-self-inside.result (λ count. count ≡ n))
          (ap (λ ws. count_by (λ b. b) (bits_of (set ws chunk word) (64 * length ws))) c.deref.ensures.value
          ∙ ap (λ n. count_by (λ b. b) (bits_of new (64 * n))) (sym (length-set r.words.items chunk word))
          ∙ counted_whole new r.len (omega (arith, c.self.invariant.words_len, length-set r.words.items chunk word)) none)
          c.count_after-self-inside.ensures);
    }

pub returns-clause-bits : goal.returns-clause-bits
returns-clause-bits c =
    let r = c.self.inside in
    let chunk = c.args.i / 64 in
    let word = c.with_bit-word.result in
    let within : 64 * (c.args.i / 64) < length c.args.self.now.bits = omega arith in
    let within_words = chunk_within r c.self.view_is c.self.invariant chunk within in
    let own : c.index.result.now ≡ get_or c.self.inside.words.items (c.args.i / 64) 0 = c.index.ensures ∙ get_or_default r.words.items chunk c.index.result.now 0 (omega (arith, within_words)) in
    let is_low : (k : ℕ) → k < 64 → has_bit c.with_bit-word.result k ≡ (ltb k (min (c.self.inside.len - 64 * (c.args.i / 64)) 64) && has_bit c.with_bit-word.result k) =
    put_low r c.self.view_is c.self.invariant c.args.i c.args.bit word c.requires (λ k lt. c.with_bit-word.ensures k lt ∙ ap (λ w. cond (eqb k (c.args.i % 64)) c.args.bit (has_bit w k)) own) in
    let is_new = is_written r.words c.put_word.new.words chunk word (omega (arith, c.put_word.auto.words, c.deref_mut.ensures.len)) c.deref_mut.ensures.value c.put_word.ensures.words in
    ap (λ ws. bits_of ws r.len) is_new
    ∙ put_in_chunk c.args.self.now.bits (bits_of (set r.words.items chunk word) r.len) c.args.i c.args.bit (get_or r.words.items chunk 0) word c.requires
    (length-bits_of (set r.words.items chunk word) r.len ∙ view_len r c.self.view_is)
    (λ k lt. sym (bit_is r c.self.view_is c.self.invariant (64 * chunk + k) ∙ word_bit r.words.items chunk k lt))
    (λ k lt. c.with_bit-word.ensures k lt ∙ ap (λ w. cond (eqb k (c.args.i % 64)) c.args.bit (has_bit w k)) own)
    (λ k lt inside. replaced_inside r c.self.view_is c.self.invariant chunk word word within is_low k lt inside)
    (λ j elsewhere. replaced_other r c.self.view_is c.self.invariant chunk word word within is_low j elsewhere)
