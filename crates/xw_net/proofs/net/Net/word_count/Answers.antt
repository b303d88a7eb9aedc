use Rattle.std.proofs.Common.{◌≡◌, ℕ, Bool, true, false, cond, List, length, Some, get_or, slice_get, refl, sym, ap, ◌∙◌, arith}
use Rattle.std.specs.Prelude.{count_by}
use Rattle.std.proofs.lemmas.List.{get_or_default}
use Rattle.std.proofs.lemmas.Option.{slice_get_read}
use Rattle.xw_net.specs.Nets.{bits_at, bits_for}
use Rattle.xw_net.proofs.Nets.SettledNets.{stands_shaped, count_flags}
use Rattle.xw_net.proofs.net.Net.word_count.Goals as goal

pub index-row-requires : goal.index-row-requires
index-row-requires c = omega (arith, (stands_shaped c.args.lights.now c.args.self.now c.args.light c.requires.settled c.requires.light).0)

pub index-requires : goal.index-requires
index-requires c = omega (arith, (stands_shaped c.args.lights.now c.args.self.now c.args.light c.requires.settled c.requires.light).1)

pub returns-then-index : goal.returns-then-index
returns-then-index c =
    let net = c.args.self.now in
    let light = c.args.light in
    let shaped = stands_shaped c.args.lights.now net light c.requires.settled c.requires.light in
    let row_is : slice_get net.rows.items light ≡ Some c.index-row.result.now = slice_get_read net.rows.items (length net.rows.items) light c.index-row.result.now refl shaped.0 c.index-row.ensures in
    let bits : bits_for net light ≡ c.index-row.result.now.bits = ap bits_at row_is in
    let entered : get_or net.entered.items light false ≡ true = sym (get_or_default net.entered.items light c.index.result.now false shaped.1) ∙ sym c.index.ensures ∙ c.if-index.true in
    omega (
      arith,
      c.count-listed.ensures,
      count_flags c.args.lights.now net light c.requires.light,
      ap (λ (b : List Bool). count_by (λ bit. bit) b) bits,
      ap {B = ℕ} (λ b. cond b 1 0) entered,
    )

pub returns-else-index : goal.returns-else-index
returns-else-index c =
    let net = c.args.self.now in
    let light = c.args.light in
    let shaped = stands_shaped c.args.lights.now net light c.requires.settled c.requires.light in
    let row_is : slice_get net.rows.items light ≡ Some c.index-row.result.now = slice_get_read net.rows.items (length net.rows.items) light c.index-row.result.now refl shaped.0 c.index-row.ensures in
    let bits : bits_for net light ≡ c.index-row.result.now.bits = ap bits_at row_is in
    let entered : get_or net.entered.items light false ≡ false = sym (get_or_default net.entered.items light c.index.result.now false shaped.1) ∙ sym c.index.ensures ∙ c.if-index.false in
    omega (
      arith,
      c.count-listed.ensures,
      count_flags c.args.lights.now net light c.requires.light,
      ap (λ (b : List Bool). count_by (λ bit. bit) b) bits,
      ap {B = ℕ} (λ b. cond b 1 0) entered,
    )
