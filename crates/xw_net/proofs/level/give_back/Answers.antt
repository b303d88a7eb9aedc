use Rattle.std.proofs.Common.{◌≡◌, ◌∷◌, [], ◌++◌, ◌<◌, ◌≤◌, List, length, sym, ap, ◌∙◌, subst, arith}
use Rattle.std.proofs.lemmas.List.{length-set}
use Rattle.std.proofs.lemmas.List.Elements.{Contains-push}
use Rattle.xw_bits.specs.Bits.{RowOfBits}
use Rattle.xw_net.specs.Level.{LeadBack, IsRowOf}
use Rattle.xw_net.specs.declared.level.KeptRow.{KeptRow}
use Rattle.xw_net.proofs.BaseRows.WrittenRows.{bits_read, room_other}
use Rattle.xw_net.proofs.Levels.KeptRows.{gives_row}
use Rattle.xw_net.proofs.level.give_back.Goals as goal

popped : (kept left : List KeptRow) (last : KeptRow) (rows before : List RowOfBits) → kept ≡ left ++ last ∷ [] → LeadBack kept rows before → LeadBack (left ++ last ∷ []) rows before
popped kept left last rows before is back = subst (λ kept. LeadBack kept rows before) is back

of_last : (kept left : List KeptRow) (last : KeptRow) (rows before : List RowOfBits) → kept ≡ left ++ last ∷ [] → LeadBack kept rows before → IsRowOf last before
of_last kept left last rows before is back = (popped kept left last rows before is back).right last (Contains-push left last)

below : (kept left : List KeptRow) (last : KeptRow) (rows before : List RowOfBits) → kept ≡ left ++ last ∷ [] → LeadBack kept rows before → last.light < length rows
below kept left last rows before is back = omega (arith, (of_last kept left last rows before is back).within, back.many)

pub index_mut-requires : goal.index_mut-requires
index_mut-requires c =
    omega (arith, below c.loop-last.kept.items c.pop.new.self.items c.in-Some.last c.loop-last.rows.items c.requires.0 c.in-Some.ensures.items (c.loop-last.invariant.back c.requires.0 c.requires.1), c.loop-last.rows.ok.0)

pub exchange-unneeded-requires : goal.exchange-unneeded-requires
exchange-unneeded-requires c =
    let kept = c.loop-last.kept.items in
    let left = c.pop.new.self.items in
    let last = c.in-Some.last in
    let rows = c.loop-last.rows.items in
    let before = c.requires.0 in
    let back = c.loop-last.invariant.back before c.requires.1 in
    let is = c.in-Some.ensures.items in
    ap (λ (r : RowOfBits). length r.bits) c.index_mut.ensures.value ∙ ap length (bits_read rows last.light (below kept left last rows before is back) c.index_mut.result.now)
    ∙ back.long last.light ∙ ap length (sym (of_last kept left last rows before is back).bits)

pub loop-last-preserved : goal.loop-last-preserved
loop-last-preserved c =
    let kept = c.loop-last.kept.items in
    let left = c.pop.new.self.items in
    let last = c.in-Some.last in
    let rows = c.loop-last.rows.items in
    let row = c.exchange-unneeded.new.place in
    let inv = c.loop-last.invariant in
    let is = c.in-Some.ensures.items in
    let within = below kept left last rows c.requires.0 is (inv.back c.requires.0 c.requires.1) in
    record {
      back = λ before lead. gives_row left last rows before row c.exchange-unneeded.ensures.bits (popped kept left last rows before is (inv.back before lead));
      many = length-set rows last.light row ∙ inv.many;
      room = λ other. omega (arith, inv.room other, room_other rows last.light within row c.index_mut.result.now (subst (λ (r : RowOfBits). r.room ≤ c.exchange-unneeded.new.place.room) c.index_mut.ensures.value c.exchange-unneeded.ensures.room) other);
    }

pub returns-clause-back : goal.returns-clause-back
returns-clause-back c before lead light =
    let empty : length c.loop-last.kept.items ≡ 0 = omega (arith, c.in_default.ensures.cases.0, c.loop-last.kept.ok.0) in
    (c.loop-last.invariant.back before lead).others light (λ has. let below = has.1.1 in omega (arith, below, empty))
