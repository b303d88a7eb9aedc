use Rattle.std.proofs.Common.{◌+◌, ◌∙◌, ap, sym, inl, inr, arith, false}
use Rattle.std.proofs.lemmas.Bool.{cases_lt}
use Rattle.std.proofs.lemmas.List.{get_or_past}
use Rattle.xw_bits.specs.Bits.{RowOfBits, bits_of}
use Rattle.xw_bits.proofs.BitLemmas.{length-bits_of, get_or-bits_of}
use Rattle.xw_bits.proofs.BitRowLemmas.{view_len, bit_is}
use Rattle.xw_bits.proofs.Summaries.{longer_summary}
use Rattle.xw_bits.proofs.bit_row.BitRow.push_chunk.Goals as goal

pub make_room_for_bit-requires-clause-room : goal.make_room_for_bit-requires-clause-room
make_room_for_bit-requires-clause-room c = omega (arith, view_len c.self.inside c.self.view_is, ap (λ (r : RowOfBits). r.room) c.self.view_is, c.requires.room, c.self.invariant.words_room)

pub make_room_for_mark-requires-clause-room : goal.make_room_for_mark-requires-clause-room
make_room_for_mark-requires-clause-room c = omega (arith, view_len c.self.inside c.self.view_is, ap (λ (r : RowOfBits). r.room) c.self.view_is, c.requires.room, c.self.invariant.summary_room)

pub invariant_of-self : goal.invariant_of-self
invariant_of-self c =
    let known = view_len c.self.inside c.self.view_is in
    record {
      small = omega (arith, known, c.requires.small);
      words_len = omega (arith, known, c.requires.whole, c.make_room_for_bit.ensures.words);
      nothing_past = λ i le. c.make_room_for_bit.ensures.bits i ∙ c.self.invariant.nothing_past i (omega (arith, le));
      summary_len = omega (arith, known, c.requires.whole, c.make_room_for_mark.ensures.words);
      summary = longer_summary c.self.inside.words.items c.self.inside.summary.items c.make_room_for_bit.new.words.items c.make_room_for_mark.new.summary.items c.self.invariant.summary
          (omega (arith, c.self.invariant.words_len, c.make_room_for_bit.ensures.words)) c.make_room_for_bit.ensures.values c.make_room_for_mark.ensures.bits;
      within = omega (arith, known, c.requires.whole, c.make_room_for_bit.ensures.words, ap (λ (r : RowOfBits). r.room) c.self.view_is, c.requires.room);
      words_room = omega (arith, c.self.invariant.words_room, c.make_room_for_bit.ensures.capacity);
      summary_room = omega (arith, c.self.invariant.summary_room, c.make_room_for_mark.ensures.capacity);
      counted = tt;
    }

pub returns-clause-len : goal.returns-clause-len
returns-clause-len c = length-bits_of c.make_room_for_bit.new.words.items (c.self.inside.len + 64) ∙ ap (λ n. n + 64) (view_len c.self.inside c.self.view_is)

pub returns-clause-bits : goal.returns-clause-bits
returns-clause-bits c i =
    let r = c.self.inside in
    let words = c.make_room_for_bit.new.words.items in
    elim (cases_lt i (r.len + 64)) [
      | inl lt ↦ get_or-bits_of words (r.len + 64) i false lt ∙ c.make_room_for_bit.ensures.bits i ∙ sym (bit_is r c.self.view_is c.self.invariant i)
      | inr le ↦
          get_or_past (bits_of words (r.len + 64)) i false (omega (arith, le, length-bits_of words (r.len + 64)))
          ∙ sym (get_or_past c.args.self.now.bits i false (omega (arith, le, view_len r c.self.view_is)))
    ]
