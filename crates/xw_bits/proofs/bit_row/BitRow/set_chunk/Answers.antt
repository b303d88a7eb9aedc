use Rattle.std.proofs.Common.{ℕ, ◌≡◌, ◌+◌, ◌*◌, ◌≤◌, false, set, get_or, length-set, ltb, ◌&&◌, IfSome, count_by, length, subst, sym, ap, ◌∙◌, arith}
use Rattle.xw_bits.specs.Bits.{has_bit, words_have, bits_of}
use Rattle.xw_bits.proofs.BitLemmas.{length-bits_of}
use Rattle.xw_bits.proofs.Summaries.{written}
use Rattle.xw_bits.proofs.BitRowLemmas.{is_written, view_len, chunk_within, counted_whole, replaced_none_past, replaced_inside, replaced_other}
use Rattle.xw_bits.proofs.bit_row.BitRow.set_chunk.Goals as goal

pub overflow_mul-left : goal.overflow_mul-left
overflow_mul-left c = omega (arith, view_len c.self.inside c.self.view_is, c.self.invariant.small)

pub overflow_sub-left : goal.overflow_sub-left
overflow_sub-left c = omega (arith, view_len c.self.inside c.self.view_is)

pub count_after-self-inside-requires-clause-within : goal.count_after-self-inside-requires-clause-within
count_after-self-inside-requires-clause-within c = omega (arith, c.deref.ensures.len, chunk_within c.self.inside c.self.view_is c.self.invariant c.args.chunk c.requires)

pub count_after-self-inside-requires-clause-counted : goal.count_after-self-inside-requires-clause-counted
count_after-self-inside-requires-clause-counted c =
    let r = c.self.inside in
    subst (λ n. IfSome r.counted (λ count. count ≡ n))
    (sym (ap (λ ws. count_by (λ b. b) (bits_of ws (64 * length ws))) c.deref.ensures.value ∙ counted_whole r.words.items r.len (omega (arith, c.self.invariant.words_len)) c.self.invariant.nothing_past))
    c.self.invariant.counted

pub put_word-requires-clause-within : goal.put_word-requires-clause-within
put_word-requires-clause-within c = omega (arith, c.deref_mut.ensures.len, chunk_within c.self.inside c.self.view_is c.self.invariant c.args.chunk c.requires)

pub put_word-requires-clause-long : goal.put_word-requires-clause-long
put_word-requires-clause-long c = omega (arith, c.deref_mut-2.ensures.len, view_len c.self.inside c.self.view_is, c.self.invariant.summary_len, c.requires)

pub invariant_of-self : goal.invariant_of-self
invariant_of-self c =
    let r = c.self.inside in
    let low = c.low_bits-word.result in
    let new = set r.words.items c.args.chunk low in
    let none : (i : ℕ) → r.len ≤ i → words_have new i ≡ false =
    replaced_none_past r c.self.view_is c.self.invariant c.args.chunk c.args.word low c.requires (λ k lt. c.low_bits-word.ensures k lt ∙ ap (λ n. ltb k n && has_bit c.args.word k) c.min.ensures) in
    let is_new = is_written r.words c.put_word.new.words c.args.chunk low (omega (arith, c.put_word.auto.words, c.deref_mut.ensures.len)) c.deref_mut.ensures.value c.put_word.ensures.words in
    record {
      small = c.self.invariant.small;
      words_len = c.self.invariant.words_len;
      nothing_past = λ i le. ap (λ ws. words_have ws i) is_new ∙ none i le;
      summary_len = c.self.invariant.summary_len;
      summary = written r.words r.summary c.put_word.new.words c.put_word.new.summary (omega (arith, c.put_word.auto.words, c.deref_mut.ensures.len)) (omega (arith, c.put_word.auto.summary, c.deref_mut-2.ensures.len)) c.put_word.ensures.summary;
      within = c.self.invariant.within;
      words_room = c.self.invariant.words_room;
      summary_room = c.self.invariant.summary_room;
      counted =
          subst (λ ws. IfSome c.count_after-self-inside.result (λ count. count ≡ count_by (λ b. b) (bits_of ws r.len))) (sym is_new)
          (subst (λ n. IfSome c.count_after-self-inside.result (λ count. count ≡ n))
          (ap (λ ws. count_by (λ b. b) (bits_of (set ws c.args.chunk low) (64 * length ws))) c.deref.ensures.value
          ∙ ap (λ n. count_by (λ b. b) (bits_of new (64 * n))) (sym (length-set r.words.items c.args.chunk low))
          ∙ counted_whole new r.len (omega (arith, c.self.invariant.words_len, length-set r.words.items c.args.chunk low)) none)
          c.count_after-self-inside.ensures);
    }

pub returns-clause-len : goal.returns-clause-len
returns-clause-len c = length-bits_of _ _ ∙ view_len c.self.inside c.self.view_is

pub returns-clause-inside : goal.returns-clause-inside
returns-clause-inside c k lt within =
    let is_new = is_written c.self.inside.words c.put_word.new.words c.args.chunk c.low_bits-word.result (omega (arith, c.put_word.auto.words, c.deref_mut.ensures.len)) c.deref_mut.ensures.value c.put_word.ensures.words in
    ap (λ ws. get_or (bits_of ws c.self.inside.len) (64 * c.args.chunk + k) false) is_new ∙ replaced_inside c.self.inside c.self.view_is c.self.invariant c.args.chunk c.args.word c.low_bits-word.result c.requires (λ k lt. c.low_bits-word.ensures k lt ∙ ap (λ n. ltb k n && has_bit c.args.word k) c.min.ensures) k lt within

pub returns-clause-others : goal.returns-clause-others
returns-clause-others c i elsewhere =
    let is_new = is_written c.self.inside.words c.put_word.new.words c.args.chunk c.low_bits-word.result (omega (arith, c.put_word.auto.words, c.deref_mut.ensures.len)) c.deref_mut.ensures.value c.put_word.ensures.words in
    ap (λ ws. get_or (bits_of ws c.self.inside.len) i false) is_new ∙ replaced_other c.self.inside c.self.view_is c.self.invariant c.args.chunk c.args.word c.low_bits-word.result c.requires (λ k lt. c.low_bits-word.ensures k lt ∙ ap (λ n. ltb k n && has_bit c.args.word k) c.min.ensures) i elsewhere
