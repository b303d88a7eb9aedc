use Rattle.std.proofs.Common.{◌/◌, ◌%◌, eqb, sym, ap, ◌∙◌, arith}
use Rattle.std.proofs.lemmas.List.{get_or_default}
use Rattle.std.proofs.lemmas.Nat.Bits.{shr_and_one}
use Rattle.xw_bits.specs.Bits.{has_bit, words_have}
use Rattle.xw_bits.proofs.BitRowLemmas.{chunk_within, bit_is}
use Rattle.xw_bits.proofs.bit_row.BitRow.has.Goals as goal

pub index-requires : goal.index-requires
index-requires c = chunk_within c.self.inside c.self.view_is c.self.invariant (c.args.i / 64) (omega arith)

pub returns : goal.returns
unfolding words_have has_bit
returns c =
    let within = chunk_within c.self.inside c.self.view_is c.self.invariant (c.args.i / 64) (omega arith) in
    ap (λ n. eqb n 1) (shr_and_one c.index.result.now (c.args.i % 64))
    ∙ ap (λ n. has_bit n (c.args.i % 64)) (c.index.ensures ∙ get_or_default c.self.inside.words.items (c.args.i / 64) c.index.result.now 0 (omega (arith, within)))
    ∙ sym (bit_is c.self.inside c.self.view_is c.self.invariant c.args.i)
