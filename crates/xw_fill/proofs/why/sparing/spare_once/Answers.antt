use Rattle.std.proofs.Common.{◌≡◌, ◌∙◌, ◌+◌, sym, true, subst}
use Rattle.xw_grid.specs.Grid.{is_open, index_of}
use Rattle.xw_search.proofs.StateLemmas.{differs_open}
use Rattle.xw_fill.proofs.ReasonLemmas.{IsSparing, light_there, sparing-begun, sparing-spared, sparing-needed, sparing-all, of_item}
use Rattle.xw_fill.proofs.why.sparing.spare_once.Goals.{then-spare, else-spare}
use Rattle.xw_fill.proofs.why.sparing.spare_once.Goals as goal

pub loop-written-init : goal.loop-written-init
loop-written-init g c = sparing-begun (g.E.Feasible.state c.args.engine.now) c.args.light c.args.list.now c.requires.dead

pub spare-requires-clause-light : goal.spare-requires-clause-light
spare-requires-clause-light g c = light_there (g.E.Feasible.state c.args.engine.now) (g.E.Feasible.state c.loop-written.engine) c.args.light c.loop-written.invariant.rest c.requires.light

pub spare-requires-clause-open : goal.spare-requires-clause-open
spare-requires-clause-open g c =
    let start = g.E.Feasible.state c.args.engine.now in
    differs_open start (g.E.Feasible.state c.loop-written.engine) c.written-item.result.0 c.loop-written.invariant.rest
    ∙ of_item (λ written. is_open start.grid written.0 ≡ true) c.args.list.now c.loop-written.written-index c.written-item.result c.loop-written-test.true c.written-item.is c.requires.open

pub loop-written-preserved : goal.loop-written-preserved
loop-written-preserved g c =
    let start = g.E.Feasible.state c.args.engine.now in
    let before = g.E.Feasible.state c.loop-written.engine in
    let now = g.E.Feasible.state c.spare.new.engine in
    let cell = index_of before.grid c.written-item.result.0 in
    elim c.if-spare.branch [
      | then-spare w ↦
          subst (λ spared. IsSparing start c.args.light c.args.list.now spared (c.loop-written.written-index + 1) now) (sym w.spared-is)
          (sparing-spared start c.args.light c.args.list.now c.loop-written.spared c.loop-written.written-index (c.loop-written.written-index + 1) cell before now c.loop-written.invariant (c.spare.ensures.spared w.if-spare.true))
      | else-spare w ↦
          subst (λ spared. IsSparing start c.args.light c.args.list.now spared (c.loop-written.written-index + 1) now) (sym w.spared-is)
          (sparing-needed start c.args.light c.args.list.now c.loop-written.spared c.loop-written.written-index c.written-item.result before now c.loop-written.invariant c.loop-written-test.true c.written-item.is (c.spare.ensures.same w.if-spare.false) (c.spare.ensures.needed w.if-spare.false))
    ]

pub returns-clause-rest : goal.returns-clause-rest
returns-clause-rest g c = c.loop-written.invariant.rest

pub returns-clause-part : goal.returns-clause-part
returns-clause-part g c = c.loop-written.invariant.part

pub returns-clause-dead : goal.returns-clause-dead
returns-clause-dead g c = c.loop-written.invariant.dead

pub returns-clause-fewer : goal.returns-clause-fewer
returns-clause-fewer g c = c.loop-written.invariant.fewer

pub returns-clause-same : goal.returns-clause-same
returns-clause-same g c = c.loop-written.invariant.same

pub returns-clause-needed : goal.returns-clause-needed
returns-clause-needed g c =
    sparing-all (g.E.Feasible.state c.args.engine.now) c.args.light c.args.list.now c.loop-written.spared c.loop-written.written-index (g.E.Feasible.state c.loop-written.engine) c.loop-written.invariant c.loop-written-test.false
