use Rattle.std.proofs.Common.{get_or, refl, sym, ap, ◌∙◌, subst, arith}
use Rattle.std.specs.Prelude.{is_some}
use Rattle.std.proofs.lemmas.Bool.{false≢true}
use Rattle.std.proofs.lemmas.List.{take_all}
use Rattle.xw_grid.specs.declared.cell.LightName.{LightName}
use Rattle.xw_grid.specs.declared.cell.Direction.TheVariants.{Across}
use Rattle.xw_grid.specs.Light.{index_named}
use Rattle.xw_feas.proofs.WordsLemmas.{named_within}
use Rattle.xw_search.specs.NamedFill.{AreFlagged}
use Rattle.xw_search.proofs.Naming.{flagged_none, flagged_more}
use Rattle.xw_search.proofs.flags.flag_lights.Goals as goal

-- the name that the list reads past its end
abbrev nobody : LightName
nobody = record { number = 0; direction = Across }

pub loop-index-init : goal.loop-index-init
loop-index-init g c = record { flagged = flagged_none (g.E.Feasible.state c.args.engine.now) c.args.named.now }

pub bounds-named-light : goal.bounds-named-light
bounds-named-light g c =
    let state = g.E.Feasible.state c.args.engine.now in
    let found = sym c.in-Some.ensures in
    let below = named_within state.grid (get_or c.args.names.now c.loop-index.index nobody) c.in-Some.light (ap (λ lights. index_named lights (get_or c.args.names.now c.loop-index.index nobody)) (sym c.lights.ensures) ∙ found) in
    omega (arith, c.requires, c.loop-index.auto.named, below)

pub returns-in-None-clause-refused : goal.returns-in-None-clause-refused
returns-in-None-clause-refused g c = (
  refl,
  λ are.
      let there = are c.loop-index.index nobody c.loop-index-test.true in
      let found = ap (λ lights. index_named lights (get_or c.args.names.now c.loop-index.index nobody)) (sym c.lights.ensures) ∙ sym c.in-None.ensures in
      false≢true (sym (ap is_some found) ∙ there),
)

pub loop-index-preserved : goal.loop-index-preserved
loop-index-preserved g c =
    let state = g.E.Feasible.state c.args.engine.now in
    let found = ap (λ lights. index_named lights (get_or c.args.names.now c.loop-index.index nobody)) (sym c.lights.ensures) ∙ sym c.in-Some.ensures in
    let below = named_within state.grid (get_or c.args.names.now c.loop-index.index nobody) c.in-Some.light found in
    record { flagged = flagged_more state c.args.names.now c.loop-index.index c.in-Some.light c.args.named.now c.loop-index.named nobody c.loop-index-test.true (omega (arith, c.requires, c.loop-index.auto.named, below)) found c.loop-index.invariant.flagged }

pub returns-clause-ok : goal.returns-clause-ok
returns-clause-ok g c =
    let state = g.E.Feasible.state c.args.engine.now in
    subst (λ names. AreFlagged state names c.args.named.now c.loop-index.named) (take_all c.loop-index.index c.args.names.now c.loop-index-test.false) c.loop-index.invariant.flagged
