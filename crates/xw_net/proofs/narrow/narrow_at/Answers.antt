use Rattle.std.proofs.Common.{◌≡◌, ◌*◌, ◌/◌, ◌%◌, ◌+◌, ◌&&◌, false, length, get_or, sym, ap, ◌∙◌, inl, inr, arith}
use Rattle.std.proofs.lemmas.Bool.{cases_lt}
use Rattle.std.proofs.lemmas.List.{get_or_past}
use Rattle.xw_bits.specs.Bits.{has_bit}
use Rattle.xw_bits.proofs.BitLemmas.{has_bit-and}
use Rattle.xw_net.proofs.BaseRows.NarrowedRows.{chunk_narrowed}
use Rattle.xw_net.proofs.narrow.narrow_at.Goals as goal

pub returns-clause-narrowed : goal.returns-clause-narrowed
returns-clause-narrowed c len =
    let bits = c.args.row.now.bits in
    let base = c.args.base.now.bits in
    let chunk = c.args.index / 64 in
    chunk_narrowed len c.args.index bits base c.set_chunk.new.self.bits c.set_chunk.ensures.len
    (λ k here.
    let at : 64 * chunk + k % 64 ≡ k = omega arith in
    elim (cases_lt k (length bits)) [
      | inl lt ↦
          ap (λ n. get_or c.set_chunk.new.self.bits n false) (sym at)
          ∙ c.set_chunk.ensures.inside (k % 64) (omega arith) (omega (arith, lt, at))
          ∙ has_bit-and c.chunk.result c.chunk-2.result (k % 64)
          ∙ ap (λ b. b && has_bit c.chunk-2.result (k % 64)) (c.chunk.ensures (k % 64) (omega arith))
          ∙ ap (λ b. get_or bits (64 * chunk + k % 64) false && b) (c.chunk-2.ensures (k % 64) (omega arith))
          ∙ ap (λ n. get_or bits n false && get_or base n false) at
      | inr le ↦
          get_or_past c.set_chunk.new.self.bits k false (omega (arith, le, c.set_chunk.ensures.len))
          ∙ sym (ap (λ b. b && get_or base k false) (get_or_past bits k false le))
    ])
    c.set_chunk.ensures.others
