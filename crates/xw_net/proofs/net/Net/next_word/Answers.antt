use Rattle.std.proofs.Common.{◌≡◌, ℕ, Bool, false, List, length, Some, get_or, slice_get, refl, sym, ap, ◌∙◌, arith}
use Rattle.std.proofs.lemmas.List.{get_or_default}
use Rattle.std.proofs.lemmas.Option.{slice_get_read}
use Rattle.xw_bits.proofs.SetBitLemmas.{within_row}
use Rattle.xw_net.specs.Nets.{bits_at, bits_for}
use Rattle.xw_net.proofs.Nets.SettledNets.{stands_shaped}
use Rattle.xw_net.proofs.Nets.FirstFlag.{first_listed, first_entered, first_nowhere}
use Rattle.xw_net.proofs.net.Net.next_word.Goals as goal
use Rattle.xw_net.proofs.net.Net.next_word.Goals.{else-from-len-via-then-from-len+else-index, else-from-len-via-else-from-len}

pub index-row-requires : goal.index-row-requires
index-row-requires c = omega (arith, (stands_shaped c.args.lights.now c.args.self.now c.args.light c.requires.settled c.requires.light).0)

pub index-requires : goal.index-requires
index-requires c = omega (arith, (stands_shaped c.args.lights.now c.args.self.now c.args.light c.requires.settled c.requires.light).1)

pub returns-in-Some : goal.returns-in-Some
returns-in-Some c =
    let net = c.args.self.now in
    let light = c.args.light in
    let index = c.in-Some.index in
    let shaped = stands_shaped c.args.lights.now net light c.requires.settled c.requires.light in
    let row_is : slice_get net.rows.items light ≡ Some c.index-row.result.now = slice_get_read net.rows.items (length net.rows.items) light c.index-row.result.now refl shaped.0 c.index-row.ensures in
    let bits : bits_for net light ≡ c.index-row.result.now.bits = ap bits_at row_is in
    sym (first_listed c.args.lights.now net light c.requires.light c.args.from index
    (omega (arith, within_row c.index-row.result.now.bits index c.in-Some.ensures.set.1, ap (λ (b : List Bool). length b) bits)) c.in-Some.ensures.set.0
    (ap (λ (b : List Bool). get_or b index false) bits ∙ c.in-Some.ensures.set.1)
    (λ k low high. ap (λ (b : List Bool). get_or b k false) bits ∙ c.in-Some.ensures.first k low high))

pub returns-then-index : goal.returns-then-index
returns-then-index c =
    let net = c.args.self.now in
    let light = c.args.light in
    let shaped = stands_shaped c.args.lights.now net light c.requires.settled c.requires.light in
    let row_is : slice_get net.rows.items light ≡ Some c.index-row.result.now = slice_get_read net.rows.items (length net.rows.items) light c.index-row.result.now refl shaped.0 c.index-row.ensures in
    let bits : bits_for net light ≡ c.index-row.result.now.bits = ap bits_at row_is in
    let long : length (bits_for net light) ≡ c.len-then-index.result = ap (λ (b : List Bool). length b) bits ∙ sym c.len-then-index.ensures.value in
    ap (λ (k : ℕ). Some k) (sym long)
    ∙ sym (first_entered c.args.lights.now net light c.requires.light c.args.from
    (omega (arith, long, c.if-from-len.true, c.len.ensures.value, c.len-then-index.ensures.value))
    (sym (get_or_default net.entered.items light c.index.result.now false shaped.1) ∙ sym c.index.ensures ∙ c.if-index.true)
    (λ k low high. ap (λ (b : List Bool). get_or b k false) bits ∙ c.in_default.ensures.none k low))

pub returns-else-from-len : goal.returns-else-from-len
returns-else-from-len c =
    let net = c.args.self.now in
    let light = c.args.light in
    let shaped = stands_shaped c.args.lights.now net light c.requires.settled c.requires.light in
    let row_is : slice_get net.rows.items light ≡ Some c.index-row.result.now = slice_get_read net.rows.items (length net.rows.items) light c.index-row.result.now refl shaped.0 c.index-row.ensures in
    let bits : bits_for net light ≡ c.index-row.result.now.bits = ap bits_at row_is in
    sym (first_nowhere c.args.lights.now net light c.requires.light c.args.from
    (λ k low high. ap (λ (b : List Bool). get_or b k false) bits ∙ c.in_default.ensures.none k low)
    (λ low. elim c.else-from-len.branch [
      | else-from-len-via-then-from-len+else-index w ↦ sym (get_or_default net.entered.items light w.index.result.now false shaped.1) ∙ sym w.index.ensures ∙ w.if-index.false
      | else-from-len-via-else-from-len w ↦ absurd (omega (arith, w.if-from-len.false, low, c.len.ensures.value, ap (λ (b : List Bool). length b) bits))
    ]))
