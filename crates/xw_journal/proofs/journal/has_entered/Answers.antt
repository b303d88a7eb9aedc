use Rattle.std.proofs.Common.{rules, ◌≡◌, ◌<◌, ◌*◌, ◌∙◌, sym, ap, subst, inl, inr, true, false, arith}
use Rattle.std.specs.Prelude.{flat_map, is_some}
use Rattle.std.proofs.lemmas.List.{take_all}
use Rattle.xw_grid.specs.Grid.{cell_at, cells, entry}
use Rattle.xw_grid.proofs.GridLemmas.{length-cells}
use Rattle.xw_journal.specs.Journal.{entered_at, is_same_entry}
use Rattle.xw_journal.proofs.Entered.{entry_before, is_none, none_at, none_so_far, some_at, some_entered}
use Rattle.xw_journal.proofs.journal.has_entered.Goals.{else-is_some-via-then-is_some+else-not-has, else-is_some-via-else-is_some}
use Rattle.xw_journal.proofs.journal.has_entered.Goals as goal

pub returns-then-not-has-clause-some : goal.returns-then-not-has-clause-some
returns-then-not-has-clause-some c = λ was before yes.
    let grid = c.args.grid.now in
    let index = c.loop-index.index in
    let below : index < grid.width * grid.height = omega (arith, c.loop-index-test.true, c.size-index-end.ensures.size) in
    let there : c.entry-entry.result ≡ entry grid (cell_at grid index) = c.entry-entry.ensures.entry ∙ ap (entry grid) c.cell_at.ensures.cell in
    let same = c.has.ensures (entry was (cell_at grid index)) (entry_before was grid c.args.before.now index before below) ∙ ap (is_same_entry (entry was (cell_at grid index))) there in
    let other : c.has.result ≡ false = search (rules, c.if-not-has.true) in
    let some : is_some c.entry-entry.result ≡ true = sym c.is_some.ensures ∙ c.if-is_some.true in
    some_entered was grid index below (some_at was grid (cell_at grid index) (subst (λ e. is_some e ≡ true) there some) (sym same ∙ other))

pub loop-index-preserved : goal.loop-index-preserved
loop-index-preserved c = λ was before.
    let grid = c.args.grid.now in
    let index = c.loop-index.index in
    let below : index < grid.width * grid.height = omega (arith, c.loop-index-test.true, c.size-index-end.ensures.size) in
    let there : c.entry-entry.result ≡ entry grid (cell_at grid index) = c.entry-entry.ensures.entry ∙ ap (entry grid) c.cell_at.ensures.cell in
    none_so_far was grid index below (none_at was grid (cell_at grid index) (elim c.else-is_some.branch [
      | else-is_some-via-then-is_some+else-not-has w ↦
          let same = w.has.ensures (entry was (cell_at grid index)) (entry_before was grid c.args.before.now index before below) ∙ ap (is_same_entry (entry was (cell_at grid index))) there in
          let kept : w.has.result ≡ true = search (rules, w.if-not-has.false) in
          inr (sym same ∙ kept)
      | else-is_some-via-else-is_some w ↦ inl (is_none there (sym c.is_some.ensures ∙ w.if-is_some.false))
    ])) (c.loop-index.invariant was before)

pub returns-clause-none : goal.returns-clause-none
returns-clause-none c = λ was before none.
    let grid = c.args.grid.now in
    ap (flat_map (entered_at was grid)) (sym (take_all c.loop-index.index (cells grid) (omega (arith, c.loop-index-test.false, length-cells grid, c.size-index-end.ensures.size)))) ∙ c.loop-index.invariant was before
