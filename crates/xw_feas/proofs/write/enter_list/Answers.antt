use Rattle.std.proofs.Common.{◌≡◌, None, sym, ◌∙◌, ap}
use Rattle.xw_grid.specs.Edit.{with_entry}
use Rattle.xw_feas.specs.Shape.{fault_at}
use Rattle.xw_grid.proofs.ChangeLemmas.{SameShape-entry}
use Rattle.xw_feas.proofs.ShapeLemmas.{SameShape-then}
use Rattle.xw_feas.proofs.WriteLemmas.{taking_is_open, fault_kept, write_more}
use Rattle.xw_feas.proofs.write.enter_list.Goals as goal

pub enter-requires : goal.enter-requires
enter-requires c =
    let written = c.written-item.result in
    taking_is_open c.loop-written.grid written.0 c.well_formed-in-loop-written.ensures (c.loop-written.invariant.faults written.0 ∙ ap (λ w. fault_at c.args.grid.now w.0) c.written-item.is ∙ c.requires c.loop-written.written-index written c.loop-written-test.true)

pub loop-written-preserved : goal.loop-written-preserved
loop-written-preserved c =
    let start = c.args.grid.now in
    let grid = c.loop-written.grid in
    let written = c.written-item.result in
    let none : fault_at grid written.0 ≡ None = c.loop-written.invariant.faults written.0 ∙ ap (λ w. fault_at start w.0) c.written-item.is ∙ c.requires c.loop-written.written-index written c.loop-written-test.true in
    let opened = taking_is_open grid written.0 c.well_formed-in-loop-written.ensures none in
    rw c.enter.ensures (record {
      written = sym (write_more c.args.list.now grid c.loop-written.written-index written c.loop-written-test.true c.written-item.is none) ∙ c.loop-written.invariant.written;
      shape = SameShape-then start grid (with_entry grid written.0 written.1) c.loop-written.invariant.shape (SameShape-entry grid written.0 written.1 c.well_formed-in-loop-written.ensures opened);
      faults = λ cell. fault_kept grid written.0 written.1 none cell ∙ c.loop-written.invariant.faults cell;
    })
