use Rattle.std.proofs.Common.{◌≡◌, ◌∙◌, Bool, true, refl, ap, sym, subst}
use Rattle.std.specs.declared.alloc.AllocError.{AllocError}
use Rattle.std.specs.Prelude.{All, Result, Ok}
use Rattle.xw_search.specs.Position.{Position}
use Rattle.xw_search.specs.Lights.{light_count}
use Rattle.xw_search.specs.Writing.{CanBeWritten, by_index, written_in}
use Rattle.xw_search.specs.NamedFill.{flags}
use Rattle.xw_search.specs.Progress.{entries_of}
use Rattle.xw_search.proofs.LetterSearch.{position_at}
use Rattle.xw_search.proofs.StateLemmas.{DiffersInEntries-itself}
use Rattle.xw_best.proofs.CandidateLemmas.{for_targets-good, candidate_filled}
use Rattle.xw_best.proofs.best.candidate.enter.Goals as goal

ok_is : (one other : Bool) (result : Result Bool AllocError) → result ≡ Ok one → result ≡ Ok other → one ≡ other
ok_is one other result is told = cc

pub write-requires : goal.write-requires
write-requires g c =
    let before = g.E.Feasible.state c.args.engine.now in
    subst (All (CanBeWritten before.grid)) (sym c.deref.ensures.value) (for_targets-good (flags c.args.plan.now.named.items) before c.in_ok-list.list.items c.in_ok-list.ensures)

pub is_complete-requires-clause-watched : goal.is_complete-requires-clause-watched
is_complete-requires-clause-watched g c =
    c.requires.plan.watched.long ∙ sym (ap (λ (p : Position). light_count p) (position_at (g.E.Feasible.state c.args.engine.now) (g.E.Feasible.state c.write.new.engine) c.write.ensures.rest))

pub is_complete-requires-clause-fresh : goal.is_complete-requires-clause-fresh
is_complete-requires-clause-fresh g c =
    c.requires.fresh.long ∙ sym (ap (λ (p : Position). light_count p) (position_at (g.E.Feasible.state c.args.engine.now) (g.E.Feasible.state c.write.new.engine) c.write.ensures.rest))

pub returns-clause-filled : goal.returns-clause-filled
returns-clause-filled g c told =
    let before = g.E.Feasible.state c.args.engine.now in
    let now = g.E.Feasible.state c.write.new.engine in
    let list = c.in_ok-list.list.items in
    let written = c.write.ensures.entries ∙ ap (λ items. written_in (entries_of before) (by_index before.grid items)) c.deref.ensures.value in
    (candidate_filled before now c.args.plan.now c.args.fresh.now list (g.met.E.Feasible.well_formed c.write.new.engine) c.requires.plan c.requires.fresh c.write.ensures.rest written c.in_ok-list.ensures (c.is_complete.ensures (ok_is c.is_complete.result true (Ok c.is_complete.result) refl told)), c.write.ensures.rest)

pub returns-in_err-list-clause-entries : goal.returns-in_err-list-clause-entries
returns-in_err-list-clause-entries g c = DiffersInEntries-itself (g.E.Feasible.state c.args.engine.now)
