use Rattle.std.proofs.Common.{◌≡◌, ◌∙◌, subst, sym, true}
use Rattle.std.specs.Prelude.{All}
use Rattle.std.proofs.lemmas.List.Elements.{All-weaker}
use Rattle.xw_grid.specs.Grid.{is_open, index_of}
use Rattle.xw_feas.specs.State.{State}
use Rattle.xw_search.specs.Position.{position_of}
use Rattle.xw_search.proofs.StateLemmas.{DiffersInEntries-itself, DiffersInEntries-then, differs_open}
use Rattle.xw_search.specs.Writing.{entries_of}
use Rattle.xw_fill.specs.Sparing.{IsNeeded}
use Rattle.xw_fill.proofs.EntryLemmas.{IsPart-itself, IsPart-then}
use Rattle.xw_fill.proofs.ReasonLemmas.{light_there, needed_along}
use Rattle.xw_fill.proofs.why.sparing.spare_all.Goals as goal

pub loop-light-init : goal.loop-light-init
loop-light-init g c =
    let start = g.E.Feasible.state c.args.engine.now in
    record { rest = DiffersInEntries-itself start; part = IsPart-itself (entries_of start); dead = c.requires.dead }

pub spare_once-requires-clause-light : goal.spare_once-requires-clause-light
spare_once-requires-clause-light g c = light_there (g.E.Feasible.state c.args.engine.now) (g.E.Feasible.state c.loop-light.engine) c.args.light c.loop-light.invariant.rest c.requires.light

pub spare_once-requires-clause-open : goal.spare_once-requires-clause-open
spare_once-requires-clause-open g c =
    let start = g.E.Feasible.state c.args.engine.now in
    let now = g.E.Feasible.state c.loop-light.engine in
    All-weaker (λ written. is_open start.grid written.0 ≡ true) (λ written. is_open now.grid written.0 ≡ true) (λ written h. differs_open start now written.0 c.loop-light.invariant.rest ∙ h) c.args.list.now c.requires.open

pub spare_once-requires-clause-dead : goal.spare_once-requires-clause-dead
spare_once-requires-clause-dead g c = c.loop-light.invariant.dead

pub returns-then-not-spare_once-clause-rest : goal.returns-then-not-spare_once-clause-rest
returns-then-not-spare_once-clause-rest g c =
    DiffersInEntries-then (g.E.Feasible.state c.args.engine.now) (g.E.Feasible.state c.loop-light.engine) (g.E.Feasible.state c.spare_once.new.engine) c.loop-light.invariant.rest c.spare_once.ensures.rest

pub returns-then-not-spare_once-clause-part : goal.returns-then-not-spare_once-clause-part
returns-then-not-spare_once-clause-part g c =
    IsPart-then (entries_of (g.E.Feasible.state c.args.engine.now)) (entries_of (g.E.Feasible.state c.loop-light.engine)) (entries_of (g.E.Feasible.state c.spare_once.new.engine)) c.loop-light.invariant.part c.spare_once.ensures.part

pub returns-then-not-spare_once-clause-needed : goal.returns-then-not-spare_once-clause-needed
returns-then-not-spare_once-clause-needed g c =
    let start = g.E.Feasible.state c.args.engine.now in
    let before = g.E.Feasible.state c.loop-light.engine in
    let same = c.spare_once.ensures.same c.if-not-spare_once.true in
    subst (λ (s : State). All (λ written. IsNeeded (position_of start) c.args.light (entries_of s) (index_of start.grid written.0)) c.args.list.now) (sym same)
    (needed_along start before c.args.light c.args.list.now c.loop-light.invariant.rest (c.spare_once.ensures.needed c.if-not-spare_once.true))

pub loop-light-smaller : goal.loop-light-smaller
loop-light-smaller g c = c.spare_once.ensures.fewer c.if-not-spare_once.false

pub loop-light-preserved : goal.loop-light-preserved
loop-light-preserved g c =
    let start = g.E.Feasible.state c.args.engine.now in
    let before = g.E.Feasible.state c.loop-light.engine in
    let now = g.E.Feasible.state c.spare_once.new.engine in
    record {
      rest = DiffersInEntries-then start before now c.loop-light.invariant.rest c.spare_once.ensures.rest;
      part = IsPart-then (entries_of start) (entries_of before) (entries_of now) c.loop-light.invariant.part c.spare_once.ensures.part;
      dead = c.spare_once.ensures.dead;
    }
