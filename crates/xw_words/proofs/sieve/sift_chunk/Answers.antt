use Rattle.std.proofs.Common.{◌≡◌, ◌+◌, ◌*◌, ◌&&◌, not, false, get_or, sym, ap, ◌∙◌}
use Rattle.xw_bits.specs.Bits.{has_bit}
use Rattle.xw_words.specs.Columns.{has_listed, stays}
use Rattle.xw_bits.proofs.BitLemmas.{has_bit-not}
use Rattle.xw_words.proofs.Sieving.{in_chunk}
use Rattle.xw_words.proofs.sieve.sift_chunk.Goals as goal
use Rattle.xw_words.proofs.sieve.sift_chunk.Goals.{then-keep, else-keep}

pub returns-clause-inside : goal.returns-clause-inside
returns-clause-inside c i low high entries position are =
    let old = c.args.row.now.bits in
    in_chunk (λ i. get_or c.keep_chunk.new.self.bits i false ≡ (get_or c.args.row.now.bits i false && stays c.args.keep (has_listed entries position c.args.list.now i))) c.args.at (λ k lt.
    let i = 64 * c.args.at + k in
    let found = c.chunk_with-found.ensures k lt entries position are in
    c.keep_chunk.ensures.inside k lt
    ∙ ap (λ b. get_or old i false && b) (elim c.if-keep.branch [
      | then-keep w ↦ ap (λ n. has_bit n k) w.keep_chunk-is ∙ found ∙ ap (λ keep. stays keep (has_listed entries position c.args.list.now i)) (sym w.if-keep.true)
      | else-keep w ↦
          ap (λ n. has_bit n k) w.keep_chunk-is ∙ has_bit-not c.chunk_with-found.result k c.chunk_with-found.type_inv lt ∙ ap not found
          ∙ ap (λ keep. stays keep (has_listed entries position c.args.list.now i)) (sym w.if-keep.false)
    ])) i low high
