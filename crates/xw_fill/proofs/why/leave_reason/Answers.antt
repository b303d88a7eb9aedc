use Rattle.std.proofs.Common.{◌≡◌, ◌∙◌, subst, refl, sym, true, arith}
use Rattle.std.proofs.lemmas.Bool.{false≢true}
use Rattle.std.proofs.lemmas.List.Elements.{All-weaker}
use Rattle.xw_grid.specs.Grid.{is_open}
use Rattle.xw_search.specs.Position.{position_of}
use Rattle.xw_search.proofs.StateLemmas.{DiffersInEntries-itself, DiffersInEntries-then}
use Rattle.xw_search.specs.Writing.{entries_of, CanBeWritten}
use Rattle.xw_fill.specs.Reason.{no_entries, IsPart}
use Rattle.xw_fill.proofs.EntryLemmas.{IsPart-none, IsPart-itself}
use Rattle.xw_fill.proofs.ReasonLemmas.{light_there, dead_count, alive_count, good_by, written_by, reason_none, reason_spared, back-more, back-all}
use Rattle.xw_fill.proofs.why.leave_reason.Goals as goal

pub write-requires : goal.write-requires
write-requires g c =
    let start = g.E.Feasible.state c.args.engine.now in
    good_by start start (no_entries (entries_of start)) c.args.emptied.now c.args.emptied.now (g.met.E.Feasible.well_formed c.args.engine.now) (DiffersInEntries-itself start) (IsPart-none (entries_of start)) c.requires.emptied refl

pub word_count-requires : goal.word_count-requires
word_count-requires g c = light_there (g.E.Feasible.state c.args.engine.now) (g.E.Feasible.state c.write.new.engine) c.args.light c.write.ensures.rest c.requires.light

pub returns-then-word_count-eq0-clause-reason : goal.returns-then-word_count-eq0-clause-reason
returns-then-word_count-eq0-clause-reason g c =
    let start = g.E.Feasible.state c.args.engine.now in
    let empty = g.E.Feasible.state c.write.new.engine in
    reason_none start empty c.args.light c.write.ensures.rest
    (written_by start start empty (no_entries (entries_of start)) c.args.emptied.now c.args.emptied.now (DiffersInEntries-itself start) (IsPart-itself (entries_of start)) (IsPart-none (entries_of start)) c.requires.emptied refl c.write.ensures.entries)
    (dead_count (position_of empty) c.args.light c.word_count.result c.word_count.ensures c.if-word_count-eq0.true)

pub nearest-init : goal.nearest-init
nearest-init g c =
    let start = g.E.Feasible.state c.args.engine.now in
    let empty = g.E.Feasible.state c.write.new.engine in
    let emptied = written_by start start empty (no_entries (entries_of start)) c.args.emptied.now c.args.emptied.now (DiffersInEntries-itself start) (IsPart-itself (entries_of start)) (IsPart-none (entries_of start)) c.requires.emptied refl c.write.ensures.entries in
    record {
      back = record { rest = c.write.ensures.rest; part = subst (λ entries. IsPart entries (entries_of start)) (sym emptied) (IsPart-none (entries_of start)) };
      within = omega arith;
    }

pub overflow_sub-entered : goal.overflow_sub-entered
overflow_sub-entered g c = c.nearest.invariant.within

pub write_from-requires-clause-from : goal.write_from-requires-clause-from
write_from-requires-clause-from g c = omega (arith, c.nearest.invariant.within, c.saturating_sub-from.ensures)

pub write_from-requires-clause-good : goal.write_from-requires-clause-good
write_from-requires-clause-good g c =
    let start = g.E.Feasible.state c.args.engine.now in
    good_by start (g.E.Feasible.state c.nearest.engine) (entries_of start) c.args.entered.now c.args.entered.now (g.met.E.Feasible.well_formed c.args.engine.now) c.nearest.invariant.back.rest (IsPart-itself (entries_of start)) c.requires.entered refl

pub word_count-requires-in-nearest : goal.word_count-requires-in-nearest
word_count-requires-in-nearest g c =
    let start = g.E.Feasible.state c.args.engine.now in
    let now = g.E.Feasible.state c.write_from.new.engine in
    light_there start now c.args.light (DiffersInEntries-then start (g.E.Feasible.state c.nearest.engine) now c.nearest.invariant.back.rest c.write_from.ensures.rest) c.requires.light

pub nearest-smaller : goal.nearest-smaller
nearest-smaller g c =
    let start = g.E.Feasible.state c.args.engine.now in
    let before = g.E.Feasible.state c.nearest.engine in
    let now = g.E.Feasible.state c.write_from.new.engine in
    let alive = alive_count (position_of now) c.args.light c.word_count-in-nearest.result c.word_count-in-nearest.ensures c.if-word_count-eq0-2.false in
    let some_left : c.saturating_sub-from.result ≡ 0 → ⊥ =
    λ none. false≢true (sym alive ∙ back-all start before now c.args.light c.args.entered.now c.saturating_sub-from.result c.requires.entered c.nearest.invariant.back c.requires.dead c.write_from.ensures.entries c.write_from.ensures.rest none) in
    omega (arith, some_left, c.saturating_sub-from.ensures, c.max.ensures)

pub nearest-preserved : goal.nearest-preserved
nearest-preserved g c =
    let start = g.E.Feasible.state c.args.engine.now in
    record {
      back = back-more start (g.E.Feasible.state c.nearest.engine) (g.E.Feasible.state c.write_from.new.engine) c.args.entered.now c.saturating_sub-from.result c.requires.entered c.nearest.invariant.back c.write_from.ensures.entries c.write_from.ensures.rest;
      within = omega (arith, c.nearest.invariant.within, c.saturating_sub-from.ensures);
    }

pub spare_all-requires-clause-light : goal.spare_all-requires-clause-light
spare_all-requires-clause-light g c =
    let start = g.E.Feasible.state c.args.engine.now in
    let now = g.E.Feasible.state c.write_from.new.engine in
    light_there start now c.args.light (DiffersInEntries-then start (g.E.Feasible.state c.nearest.engine) now c.nearest.invariant.back.rest c.write_from.ensures.rest) c.requires.light

pub spare_all-requires-clause-open : goal.spare_all-requires-clause-open
spare_all-requires-clause-open g c =
    let start = g.E.Feasible.state c.args.engine.now in
    let now = g.E.Feasible.state c.write_from.new.engine in
    let rest = DiffersInEntries-then start (g.E.Feasible.state c.nearest.engine) now c.nearest.invariant.back.rest c.write_from.ensures.rest in
    All-weaker (CanBeWritten now.grid) (λ written. is_open now.grid written.0 ≡ true) (λ written can. can.0) c.args.entered.now
    (good_by start now (entries_of start) c.args.entered.now c.args.entered.now (g.met.E.Feasible.well_formed c.args.engine.now) rest (IsPart-itself (entries_of start)) c.requires.entered refl)

pub spare_all-requires-clause-dead : goal.spare_all-requires-clause-dead
spare_all-requires-clause-dead g c = dead_count (position_of (g.E.Feasible.state c.write_from.new.engine)) c.args.light c.word_count-in-nearest.result c.word_count-in-nearest.ensures c.if-word_count-eq0-2.true

pub returns-clause-reason : goal.returns-clause-reason
returns-clause-reason g c =
    let start = g.E.Feasible.state c.args.engine.now in
    let empty = g.E.Feasible.state c.write.new.engine in
    let some = g.E.Feasible.state c.write_from.new.engine in
    let emptied = written_by start start empty (no_entries (entries_of start)) c.args.emptied.now c.args.emptied.now (DiffersInEntries-itself start) (IsPart-itself (entries_of start)) (IsPart-none (entries_of start)) c.requires.emptied refl c.write.ensures.entries in
    let back = back-more start (g.E.Feasible.state c.nearest.engine) some c.args.entered.now c.saturating_sub-from.result c.requires.entered c.nearest.invariant.back c.write_from.ensures.entries c.write_from.ensures.rest in
    reason_spared start empty some (g.E.Feasible.state c.spare_all.new.engine) c.args.light c.args.entered.now c.requires.entered c.write.ensures.rest emptied
    (alive_count (position_of empty) c.args.light c.word_count.result c.word_count.ensures c.if-word_count-eq0.false)
    back.rest back.part c.spare_all.ensures.rest c.spare_all.ensures.part c.spare_all.ensures.dead c.spare_all.ensures.needed

pub returns-clause-rest : goal.returns-clause-rest
returns-clause-rest g c =
    let start = g.E.Feasible.state c.args.engine.now in
    let some = g.E.Feasible.state c.write_from.new.engine in
    DiffersInEntries-then start some (g.E.Feasible.state c.spare_all.new.engine) (DiffersInEntries-then start (g.E.Feasible.state c.nearest.engine) some c.nearest.invariant.back.rest c.write_from.ensures.rest) c.spare_all.ensures.rest
