use Rattle.std.proofs.Common.{◌≡◌, ℕ, ◌+◌, length, get_or, sym, ap, subst, ◌∙◌, cond, arith}
use Rattle.std.specs.Prelude.{Some, None}
use Rattle.std.specs.Option.{unwrap_or}
use Rattle.std.specs.Vec.{with_items}
use Rattle.std.proofs.lemmas.List.{with_items_is}
use Rattle.xw_grid.specs.Grid.{cell_at}
use Rattle.xw_grid.specs.Light.{no_light, passes}
use Rattle.xw_grid.specs.LightTable.{IsFirstOf}
use Rattle.xw_grid.proofs.LightTableLemmas.{lights_inside, first_more, first_is}
use Rattle.xw_grid.proofs.light_table.through.Goals as goal

pub enter_towards-requires-clause-inside : goal.enter_towards-requires-clause-inside
enter_towards-requires-clause-inside c = λ k below. lights_inside c.args.grid.now c.args.lights.now c.requires c.loop-index.index no_light c.loop-index-test.true k below

pub loop-index-preserved : goal.loop-index-preserved
loop-index-preserved c =
    let grid = c.args.grid.now in
    let lights = c.args.lights.now in
    let table = c.loop-index.table in
    let index = c.loop-index.index in
    let kept_long : length c.enter_towards.new.table ≡ table.len = c.enter_towards.ensures.long ∙ c.deref_mut.ensures.len in
    let items = with_items_is table c.enter_towards.new.table kept_long in
    let old : c.deref_mut.result.now ≡ table.items = c.deref_mut.ensures.value in
    record {
      long = ap length items ∙ c.enter_towards.ensures.long ∙ ap length old ∙ c.loop-index.invariant.long;
      each = λ s within.
          let test = λ (i : ℕ). passes c.args.direction (cell_at grid s) (get_or lights i no_light) in
          let now : get_or (with_items table c.enter_towards.new.table).items s None ≡ cond (test index) (Some (unwrap_or (get_or table.items s None) index)) (get_or table.items s None) =
          ap (λ ps. get_or ps s None) items
          ∙ c.enter_towards.ensures.each s (let long = ap length old ∙ c.loop-index.invariant.long in omega (arith, long))
          ∙ ap (λ ps. cond (test index) (Some (unwrap_or (get_or ps s None) index)) (get_or ps s None)) old in
          subst (IsFirstOf test (index + 1)) (sym now) (first_more test index (get_or table.items s None) (c.loop-index.invariant.each s within));
    }

pub returns : goal.returns
returns c =
    let lights = c.args.lights.now in
    let all : c.loop-index.index ≡ length lights = omega arith in
    record {
      long = c.loop-index.invariant.long;
      each = λ s within.
          let test = passes c.args.direction (cell_at c.args.grid.now s) in
          first_is test lights no_light (get_or c.loop-index.table.items s None)
          (subst (λ n. IsFirstOf (λ i. test (get_or lights i no_light)) n (get_or c.loop-index.table.items s None)) all (c.loop-index.invariant.each s within));
    }
