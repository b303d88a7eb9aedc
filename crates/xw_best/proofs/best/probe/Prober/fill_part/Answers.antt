use Rattle.std.specs.Prelude.{All}
use Rattle.std.proofs.Common.{sym, subst}
use Rattle.xw_feas.proofs.SnapshotLemmas.{CanSave-then}
use Rattle.xw_search.specs.NamedFill.{flags}
use Rattle.xw_search.specs.Writing.{CanBeWritten}
use Rattle.xw_best.proofs.CandidateLemmas.{for_targets-good}
use Rattle.xw_best.proofs.GradeLemmas.{served_more, saved_at}
use Rattle.xw_search.proofs.StateLemmas.{CanSave-entries}
use Rattle.xw_best.proofs.best.probe.Prober.fill_part.Goals as goal

pub write-requires : goal.write-requires
write-requires g c =
    let before = g.E.Feasible.state c.args.engine.now in
    subst (All (CanBeWritten before.grid)) (sym c.deref-2.ensures.value) (for_targets-good (flags c.args.self.now.plan.named.items) before c.in_ok-list.list.items c.in_ok-list.ensures)

pub returns-clause-prober : goal.returns-clause-prober
returns-clause-prober g c =
    let filled = c.fill_empty.ensures in
    served_more c.args.self.now c.fill_empty.new.self (g.E.Feasible.state c.args.engine.now) c.requires.prober filled.plan filled.fresh filled.least

pub returns-clause-saved : goal.returns-clause-saved
returns-clause-saved g c =
    let before = g.E.Feasible.state c.args.engine.now in
    let written = g.E.Feasible.state c.write.new.engine in
    let filled = g.E.Feasible.state c.fill_empty.new.engine in
    CanSave-then before written filled (CanSave-entries before written c.write.ensures.rest)
    (saved_at written (g.E.Feasible.state c.choose_least.new.engine) filled c.args.parts.now.grade c.choose_least.ensures.state c.fill_empty.ensures.saved)
