use Rattle.std.proofs.Common.{◌≡◌, [], ◌∷◌, ◌++◌, IfSome, count_by, sym, subst, ◌+◌, eqb, cond, length, ap, ◌∙◌, arith}
use Rattle.std.proofs.lemmas.Bool.{cond-false, ne_eqb}
use Rattle.std.proofs.lemmas.List.{with_items_is}
use Rattle.xw_bits.specs.Bits.{RowOfBits, bits_of, words_have}
use Rattle.xw_bits.specs.Summary.{IsSummary}
use Rattle.xw_bits.proofs.Summaries.{longer_summary, written}
use Rattle.xw_bits.proofs.BitRowLemmas.{view_len, pushed, counted_pushed}
use Rattle.xw_bits.proofs.bit_row.BitRow.push.Goals as goal

pub make_room_for_bit-requires-clause-room : goal.make_room_for_bit-requires-clause-room
make_room_for_bit-requires-clause-room c = omega (arith, view_len c.self.inside c.self.view_is, ap (λ (r : RowOfBits). r.room) c.self.view_is, c.requires, c.self.invariant.words_room)

pub make_room_for_mark-requires-clause-room : goal.make_room_for_mark-requires-clause-room
make_room_for_mark-requires-clause-room c = omega (arith, view_len c.self.inside c.self.view_is, ap (λ (r : RowOfBits). r.room) c.self.view_is, c.requires, c.self.invariant.summary_room)

pub put_bit-requires-clause-summary : goal.put_bit-requires-clause-summary
put_bit-requires-clause-summary c =
    let longer = longer_summary c.self.inside.words.items c.self.inside.summary.items c.make_room_for_bit.new.words.items c.make_room_for_mark.new.summary.items c.self.invariant.summary
    (omega (arith, c.self.invariant.words_len, c.make_room_for_bit.ensures.words)) c.make_room_for_bit.ensures.values c.make_room_for_mark.ensures.bits in
    subst (λ ws. IsSummary ws c.deref_mut-2.result.now) (sym c.deref_mut.ensures.value) (subst (λ ss. IsSummary c.make_room_for_bit.new.words.items ss) (sym c.deref_mut-2.ensures.value) longer)

pub invariant_of-self : goal.invariant_of-self
invariant_of-self c =
    let r = c.self.inside in
    let long : length c.put_bit.new.words ≡ c.make_room_for_bit.new.words.len = omega (arith, c.put_bit.auto.words, c.deref_mut.ensures.len) in
    let bits : bits_of c.put_bit.new.words (r.len + 1) ≡ c.args.self.now.bits ++ c.args.bit ∷ [] =
    pushed r c.put_bit.new.words c.args.bit c.self.view_is c.self.invariant (λ j.
    c.put_bit.ensures.bits j ∙ ap (λ ws. cond (eqb j r.len) c.args.bit (words_have ws j)) c.deref_mut.ensures.value
    ∙ ap (cond (eqb j r.len) c.args.bit) (c.make_room_for_bit.ensures.bits j)) in
    record {
      small = omega (arith, view_len r c.self.view_is, ap (λ (r : RowOfBits). r.room) c.self.view_is, c.requires);
      words_len = omega (arith, c.make_room_for_bit.ensures.words);
      nothing_past = λ i le.
          ap (λ ws. words_have ws i) (with_items_is c.make_room_for_bit.new.words c.put_bit.new.words long) ∙ c.put_bit.ensures.bits i
          ∙ ap (λ ws. cond (eqb i r.len) c.args.bit (words_have ws i)) c.deref_mut.ensures.value
          ∙ cond-false (eqb i r.len) c.args.bit (words_have c.make_room_for_bit.new.words.items i) (ne_eqb i r.len (λ e. omega arith))
          ∙ c.make_room_for_bit.ensures.bits i ∙ c.self.invariant.nothing_past i (omega arith);
      summary_len = omega (arith, c.make_room_for_mark.ensures.words);
      summary = written c.make_room_for_bit.new.words c.make_room_for_mark.new.summary c.put_bit.new.words c.put_bit.new.summary long (omega (arith, c.put_bit.auto.summary, c.deref_mut-2.ensures.len)) c.put_bit.ensures.summary;
      within = omega (arith, view_len r c.self.view_is, c.make_room_for_bit.ensures.words, ap (λ (r : RowOfBits). r.room) c.self.view_is, c.requires);
      words_room = omega (arith, c.self.invariant.words_room, c.make_room_for_bit.ensures.capacity);
      summary_room = omega (arith, c.self.invariant.summary_room, c.make_room_for_mark.ensures.capacity);
      counted =
          subst (λ ws. IfSome c.count_with-counted.result (λ count. count ≡ count_by (λ b. b) (bits_of ws (r.len + 1)))) (sym (with_items_is c.make_room_for_bit.new.words c.put_bit.new.words long))
          (subst (λ o. IfSome o (λ count. count ≡ count_by (λ b. b) (bits_of c.put_bit.new.words (r.len + 1)))) (sym c.count_with-counted.ensures)
          (counted_pushed r c.put_bit.new.words c.args.bit c.self.view_is c.self.invariant bits));
    }

pub returns-clause-bits : goal.returns-clause-bits
returns-clause-bits c =
    let r = c.self.inside in
    let long : length c.put_bit.new.words ≡ c.make_room_for_bit.new.words.len = omega (arith, c.put_bit.auto.words, c.deref_mut.ensures.len) in
    ap (λ ws. bits_of ws (r.len + 1)) (with_items_is c.make_room_for_bit.new.words c.put_bit.new.words long)
    ∙ pushed r c.put_bit.new.words c.args.bit c.self.view_is c.self.invariant (λ j.
    c.put_bit.ensures.bits j ∙ ap (λ ws. cond (eqb j r.len) c.args.bit (words_have ws j)) c.deref_mut.ensures.value
    ∙ ap (cond (eqb j r.len) c.args.bit) (c.make_room_for_bit.ensures.bits j))
