use Rattle.std.proofs.Common.{ℕ, ◌/◌, ◌≡◌, ◌*◌, ◌≤◌, ◌<◌, ◌&&◌, true, false, get_or, length, ap, sym, ◌∙◌, arith}
use Rattle.xw_bits.specs.Bits.{words_have}
use Rattle.xw_bits.proofs.BitRowLemmas.{view_len, unmarked_bit}
use Rattle.xw_bits.proofs.Summaries.{if_some, if_none, marked_within, twice}
use Rattle.xw_bits.proofs.bit_row.BitRow.next_chunk.Goals as goal

pub returns-clause-found : goal.returns-clause-found
returns-clause-found c = if_some c.next_both.result {P = λ at. (c.args.from ≤ at) × (words_have c.deref.result.now at ≡ true) × (words_have c.deref-2.result.now at ≡ true)} {Q = λ chunk. (c.args.from ≤ chunk) × (64 * chunk < length c.args.self.now.bits)} (λ chunk found.
    let r = c.self.inside in
    let lt = marked_within r.words.items r.summary.items c.self.invariant.summary chunk (ap (λ ws. words_have ws chunk) (sym c.deref.ensures.value) ∙ found.1) in
    (found.0, omega (arith, lt, view_len r c.self.view_is, c.self.invariant.words_len))) c.next_both.ensures.found

pub returns-clause-passed : goal.returns-clause-passed
returns-clause-passed c = if_some c.next_both.result {P = λ at. (k : ℕ) → c.args.from ≤ k → k < at → (words_have c.deref.result.now k && words_have c.deref-2.result.now k) ≡ false} {Q = λ chunk. (i : ℕ) → 64 * c.args.from ≤ i → i < 64 * chunk → get_or c.args.self.now.bits i false ≡ false} (λ chunk passed i low high.
    let r = c.self.inside in
    let marks : (words_have c.deref.result.now (i / 64) && words_have c.deref-2.result.now (i / 64)) ≡ (words_have r.summary.items (i / 64) && words_have r.summary.items (i / 64)) =
    ap (λ ws. words_have ws (i / 64) && words_have c.deref-2.result.now (i / 64)) c.deref.ensures.value ∙ ap (λ ws. words_have r.summary.items (i / 64) && words_have ws (i / 64)) c.deref-2.ensures.value in
    unmarked_bit r c.self.view_is c.self.invariant i (twice _ (sym marks ∙ passed (i / 64) (omega (arith, low)) (omega (arith, high))))) c.next_both.ensures.passed

pub returns-clause-none : goal.returns-clause-none
returns-clause-none c = if_none c.next_both.result {P = (k : ℕ) → c.args.from ≤ k → (words_have c.deref.result.now k && words_have c.deref-2.result.now k) ≡ false} {Q = (i : ℕ) → 64 * c.args.from ≤ i → get_or c.args.self.now.bits i false ≡ false} (λ none i low.
    let r = c.self.inside in
    let marks : (words_have c.deref.result.now (i / 64) && words_have c.deref-2.result.now (i / 64)) ≡ (words_have r.summary.items (i / 64) && words_have r.summary.items (i / 64)) =
    ap (λ ws. words_have ws (i / 64) && words_have c.deref-2.result.now (i / 64)) c.deref.ensures.value ∙ ap (λ ws. words_have r.summary.items (i / 64) && words_have ws (i / 64)) c.deref-2.ensures.value in
    unmarked_bit r c.self.view_is c.self.invariant i (twice _ (sym marks ∙ none (i / 64) (omega (arith, low))))) c.next_both.ensures.none
