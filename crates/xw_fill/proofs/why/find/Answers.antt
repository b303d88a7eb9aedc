use Rattle.xw_search.specs.Writing.{entries_of}
use Rattle.xw_fill.proofs.EntryLemmas.{IsPart-itself}
use Rattle.xw_fill.proofs.ReasonLemmas.{good_by, back_by}
use Rattle.xw_fill.proofs.why.find.Goals as goal

pub write-requires : goal.write-requires
write-requires g c =
    let start = g.E.Feasible.state c.args.engine.now in
    good_by start (g.E.Feasible.state c.leave_reason.new.engine) (entries_of start) c.deref-3.result.now c.args.room.now.entered.items (g.met.E.Feasible.well_formed c.args.engine.now) c.leave_reason.ensures.rest (IsPart-itself (entries_of start)) c.requires.room.entered c.deref-3.ensures.value

pub returns-clause-unchanged : goal.returns-clause-unchanged
returns-clause-unchanged g c =
    let start = g.E.Feasible.state c.args.engine.now in
    back_by start (g.E.Feasible.state c.leave_reason.new.engine) (g.E.Feasible.state c.write.new.engine) c.deref-3.result.now c.args.room.now.entered.items c.leave_reason.ensures.rest c.leave_reason.ensures.reason.part c.requires.room.entered c.deref-3.ensures.value c.write.ensures.entries c.write.ensures.rest
