use Rattle.std.proofs.Common.{◌≡◌, ◌+◌, ◌*◌, ◌<◌, get_or, ap, ◌∙◌, arith, refl, ◌-◌, length-set}
use Rattle.std.proofs.lemmas.Grind.{common_steps}
use Rattle.std.proofs.lemmas.List.{get_or-replicate}
use Rattle.xw_bits.specs.Bits.{has_bit}
use Rattle.xw_bits.proofs.BitLemmas.{has_bit-none}
use Rattle.xw_words.proofs.FillLemmas.{done_next, left_next}
use Rattle.xw_words.proofs.columns.letter_bits.Goals as goal

pub loop-index-init : goal.loop-index-init
loop-index-init c = record {
  long = refl;
  done = λ k j lt below. absurd (omega (arith, below));
  left = λ k j lt above. ap (λ word. has_bit word j) (get_or-replicate 26 k 0 0 lt) ∙ has_bit-none j;
}

pub loop-index-preserved : goal.loop-index-preserved
loop-index-preserved c =
    let letters = c.args.letters.now in
    let bits = c.loop-index.bits in
    let index = c.loop-index.index in
    let letter = c.byte-letter.result in
    let long = c.loop-index.invariant.long in
    let there : get_or letters (index * c.args.word_len + c.args.position) 0 ≡ letter = grind (arith, common_steps) in
    let few : index < c.args.first + 64 = omega (arith, c.loop-index-test.true, c.min-index-end.ensures) in
    let from = c.loop-index.auto.index in
    let letter_is = c.byte-letter.ensures.letter in
    record {
      long = length-set bits (letter - 65) _ ∙ long;
      done = done_next bits letters c.args.word_len c.args.position c.args.first index letter long letter_is.0 letter_is.1 there (omega (arith, from)) few c.loop-index.invariant.done c.loop-index.invariant.left;
      left = left_next bits letters c.args.word_len c.args.position c.args.first index letter long letter_is.0 letter_is.1 there (omega (arith, from)) few c.loop-index.invariant.done c.loop-index.invariant.left;
    }
