use Rattle.std.proofs.Common.{◌≡◌, List, Bool, map, length, refl, ap, ◌∙◌, arith}
use Rattle.std.proofs.lemmas.List.{length-map}
use Rattle.xw_words.specs.Dictionary.{all_limited}
use Rattle.xw_words.specs.Marks.{are_left}
use Rattle.xw_words.specs.Row.{entries_of}
use Rattle.xw_words.specs.Table.{Table}
use Rattle.xw_words.proofs.RowLemmas.{entries_of-limited}
use Rattle.xw_words.proofs.TableLemmas.{IsKeptTable-marked}
use Rattle.xw_words.proofs.table.Table.limit.Goals as goal

pub invariant_of-self : goal.invariant_of-self
invariant_of-self c =
    let r = c.self.inside in
    let kept = c.self.invariant in
    let limited : c.limit_flags.new.active.bits ≡ map (are_left c.args.least) r.marks.items = c.limit_flags.ensures.bits in
    IsKeptTable-marked r c.limit_flags.new.active r.regraded r.marks r.weights kept (ap length limited ∙ length-map r.marks.items (are_left c.args.least) ∙ kept.marks) refl kept.regraded_past refl (omega (arith, c.limit_flags.ensures.room)) (omega arith)

pub returns-clause-entries : goal.returns-clause-entries
returns-clause-entries c =
    let r = c.self.inside in
    let limited : c.limit_flags.new.active.bits ≡ map (are_left c.args.least) r.marks.items = c.limit_flags.ensures.bits in
    ap (λ (flags : List Bool). entries_of r.word_len r.letters.items flags r.regraded.bits r.marks.items) limited
    ∙ entries_of-limited r.word_len r.letters.items r.active.bits r.regraded.bits r.marks.items c.args.least c.self.invariant.marks
    ∙ ap (λ (table : Table). all_limited c.args.least table.entries) c.self.view_is
