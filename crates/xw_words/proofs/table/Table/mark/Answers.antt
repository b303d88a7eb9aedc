use Rattle.std.proofs.Common.{◌<◌, length, subst, sym, ap, ◌∙◌, arith, length-set}
use Rattle.xw_words.specs.Row.{AreClearFrom}
use Rattle.xw_words.specs.Table.{Table}
use Rattle.xw_words.proofs.RowLemmas.{length-entries_of}
use Rattle.xw_words.proofs.TableLemmas.{IsKeptTable-marked, AreClearFrom-set}
use Rattle.xw_words.proofs.table.Table.mark.Goals as goal

pub invariant_of-self : goal.invariant_of-self
invariant_of-self c =
    let r = c.self.inside in
    let kept = c.self.invariant in
    let index = c.args.index in
    let within : index < length r.active.bits = omega (arith, c.requires, length-entries_of r.word_len r.letters.items r.active.bits r.regraded.bits r.marks.items, ap (λ (table : Table). length table.entries) c.self.view_is) in
    IsKeptTable-marked r c.put.new.self c.put-2.new.self _ c.note.new.self kept
    (ap length c.put.ensures.bits ∙ length-set r.active.bits index c.args.active)
    (ap length c.put-2.ensures.bits ∙ length-set r.regraded.bits index c.args.regraded)
    (subst (AreClearFrom (length r.active.bits)) (sym c.put-2.ensures.bits) (AreClearFrom-set (length r.active.bits) r.regraded.bits index c.args.regraded within kept.regraded_past))
    (ap length c.put-3.ensures.items ∙ length-set r.marks.items index c.args.marks) (omega (arith, c.put.ensures.room)) (omega (arith, c.put-3.ensures.room))
