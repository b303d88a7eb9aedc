use Rattle.std.proofs.Common.{◌≡◌, ◌+◌, ◌*◌, ◌/◌, ◌%◌, get_or, sym, ap, ◌∙◌, arith}
use Rattle.std.proofs.lemmas.List.{get_or_default}
use Rattle.xw_bits.specs.Bits.{has_bit, words_have}
use Rattle.xw_bits.proofs.BitRowLemmas.{chunk_within, bit_is}
use Rattle.xw_bits.proofs.bit_row.BitRow.chunk.Goals as goal

pub index-requires : goal.index-requires
index-requires c = chunk_within c.self.inside c.self.view_is c.self.invariant c.args.chunk c.requires

pub returns : goal.returns
unfolding words_have
returns c k lt =
    let word : (64 * c.args.chunk + k) / 64 ≡ c.args.chunk = omega arith in
    let bit : (64 * c.args.chunk + k) % 64 ≡ k = omega arith in
    sym
    (bit_is c.self.inside c.self.view_is c.self.invariant (64 * c.args.chunk + k)
    ∙ ap (λ n. has_bit (get_or c.self.inside.words.items n 0) ((64 * c.args.chunk + k) % 64)) word
    ∙ ap (has_bit (get_or c.self.inside.words.items c.args.chunk 0)) bit
    ∙ ap (λ n. has_bit n k) (sym (c.index.ensures ∙ get_or_default c.self.inside.words.items c.args.chunk c.index.result.now 0 (omega (arith, chunk_within c.self.inside c.self.view_is c.self.invariant c.args.chunk c.requires)))))
