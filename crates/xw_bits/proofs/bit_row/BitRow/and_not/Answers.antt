use Rattle.std.proofs.Common.{◌&&◌, not, ap, ◌∙◌, arith}
use Rattle.std.proofs.lemmas.List.{with_items_is}
use Rattle.xw_bits.specs.Bits.{bits_of, words_have}
use Rattle.xw_bits.proofs.BitRowLemmas.{same_len, same_words, view-combined}
use Rattle.xw_bits.proofs.bit_row.BitRow.and_not.Goals as goal

pub sift_words-requires-clause-other : goal.sift_words-requires-clause-other
sift_words-requires-clause-other c =
    let same = same_len c.self.inside c.other.inside c.self.view_is c.other.view_is c.requires in
    let long = same_words c.self.inside c.other.inside c.self.invariant c.other.invariant same in
    omega (arith, c.deref_mut.ensures.len, c.deref.ensures.len, long)

pub returns-clause-bits : goal.returns-clause-bits
returns-clause-bits c =
    let r = c.self.inside in
    let same = same_len r c.other.inside c.self.view_is c.other.view_is c.requires in
    ap (λ ws. bits_of ws r.len) (with_items_is r.words c.sift_words.new.words (omega (arith, c.sift_words.auto.words, c.deref_mut.ensures.len)))
    ∙ view-combined (λ x y. x && not y) r c.other.inside c.sift_words.new.words c.self.view_is c.other.view_is same (λ i.
    c.sift_words.ensures.bits i ∙ ap (λ ws. let x = words_have ws i in let y = words_have c.deref.result.now i in x && not y) c.deref_mut.ensures.value
    ∙ ap (λ ws. let x = words_have r.words.items i in let y = words_have ws i in x && not y) c.deref.ensures.value)
