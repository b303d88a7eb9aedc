use Rattle.xw_commands.specs.declared.change.Change.TheVariants as changes
use Rattle.xw_session.specs.State.{grid_seen, seen}
use Rattle.xw_session.proofs.DrawnLines.{edits-seen}
use Rattle.xw_session.proofs.session.Session.begin.Goals as goal

pub returns-in-Write-clause-begun : goal.returns-in-Write-clause-begun
returns-in-Write-clause-begun g c =
    let change = changes.Write c.in-Write.field c.bytes-in-Write.result.now in
    rw (c.in-Write.is, ← c.bytes-in-Write.ensures) (c.for_end.ensures (seen c.args.self.now c.args.draft) change (seen c.write.new.self c.args.draft) (edits-seen c.args.self.now c.write.new.self c.args.draft change c.write.result c.write.ensures.engine (c.write.ensures.done (grid_seen c.args.self.now.engine.grid c.args.draft))))

pub returns-in-Watch-clause-begun : goal.returns-in-Watch-clause-begun
returns-in-Watch-clause-begun g c =
    let change = changes.Watch c.in-Watch.is_on in
    rw c.in-Watch.is (c.for_end-in-Watch.ensures (seen c.args.self.now c.args.draft) change (seen c.watch.new.self c.args.draft) (edits-seen c.args.self.now c.watch.new.self c.args.draft change c.watch.result c.watch.ensures.engine (c.watch.ensures.done (grid_seen c.args.self.now.engine.grid c.args.draft))))
