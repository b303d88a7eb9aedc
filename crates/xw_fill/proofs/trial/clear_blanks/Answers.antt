use Rattle.std.proofs.Common.{◌+◌, ◌<◌, ◌≤◌, length, take, None, sym, ◌∙◌, subst, arith}
use Rattle.std.proofs.lemmas.List.{length-set, take_more_set}
use Rattle.xw_feas.specs.Board.{board_of, light_at}
use Rattle.xw_feas.proofs.ShapeLemmas.{light_small}
use Rattle.xw_search.proofs.StateLemmas.{in_grid_light, light_size}
use Rattle.xw_fill.proofs.ScanLemmas.{IsTakingBack, take_back-init, take_back-step, take_back-pass, take_back-end}
use Rattle.xw_fill.proofs.trial.clear_blanks.Goals as goal
use Rattle.xw_fill.proofs.trial.clear_blanks.Goals.{then-trial-pos, else-trial-pos}

pub loop-pos-init : goal.loop-pos-init
loop-pos-init g c = record {
  long = omega arith;
  few = omega arith;
  within = omega arith;
  back = take_back-init (g.E.Feasible.state c.args.engine.now) c.args.trial.now.light c.args.trial.now.blanks (g.met.E.Feasible.well_formed c.args.engine.now).grid;
}

pub bounds-trial-pos : goal.bounds-trial-pos
bounds-trial-pos g c =
    let before = g.E.Feasible.state c.args.engine.now in
    let in_grid = in_grid_light before.grid c.args.trial.now.light c.requires in
    let size : c.light_at-light.result.size ≤ 255 = omega (arith, light_size before.grid c.args.trial.now.light c.light_at-light.result in_grid c.light_at-light.ensures, (g.met.E.Feasible.well_formed c.args.engine.now).board.short c.args.trial.now.light) in
    omega (arith, size, c.loop-pos-test.true)

pub cell-requires : goal.cell-requires
cell-requires g c =
    let before = g.E.Feasible.state c.args.engine.now in
    light_small before.grid c.args.trial.now.light c.loop-pos.pos c.light_at-light.result (g.met.E.Feasible.well_formed c.args.engine.now).grid (in_grid_light before.grid c.args.trial.now.light c.requires) c.light_at-light.ensures c.loop-pos-test.true

pub loop-pos-preserved : goal.loop-pos-preserved
loop-pos-preserved g c =
    let before = g.E.Feasible.state c.args.engine.now in
    let light = c.args.trial.now.light in
    let blanks = c.args.trial.now.blanks in
    let found = c.light_at-light.result in
    let list = c.loop-pos.list in
    let so_far = c.loop-pos.invariant in
    let in_grid = in_grid_light before.grid c.args.trial.now.light c.requires in
    let size = light_size before.grid c.args.trial.now.light c.light_at-light.result in_grid c.light_at-light.ensures in
    let below : c.loop-pos.pos < length (light_at (board_of before.grid) c.args.trial.now.light) = omega (arith, size, c.loop-pos-test.true) in
    elim c.if-trial-pos.branch [
      | then-trial-pos w ↦
          let short = (g.met.E.Feasible.well_formed c.args.engine.now).board.short c.args.trial.now.light in
          let within : c.loop-pos.count < length c.loop-pos.list = omega (arith, c.loop-pos.invariant.long, c.loop-pos.invariant.few, below, short) in
          let back = take_back-step before light c.loop-pos.pos found blanks (take c.loop-pos.count list) w.cell.result so_far.back in_grid c.light_at-light.ensures c.loop-pos-test.true w.cell.ensures w.if-trial-pos.true in
          rw (w.list-is, w.count-is) (record {
            long = length-set list c.loop-pos.count (w.cell.result, None) ∙ so_far.long;
            few = omega (arith, c.loop-pos.invariant.few);
            within = omega (arith, within, c.loop-pos.invariant.long);
            back = subst (λ l. IsTakingBack before light blanks l (c.loop-pos.pos + 1)) (sym (take_more_set list c.loop-pos.count (w.cell.result, None) within)) back;
          })
      | else-trial-pos w ↦
          rw (w.list-is, w.count-is) (record {
            long = so_far.long;
            few = omega (arith, c.loop-pos.invariant.few);
            within = c.loop-pos.invariant.within;
            back = take_back-pass before light c.loop-pos.pos blanks (take c.loop-pos.count list) so_far.back below w.if-trial-pos.false;
          })
    ]

pub returns-clause-back : goal.returns-clause-back
returns-clause-back g c =
    let before = g.E.Feasible.state c.args.engine.now in
    let found = c.light_at-light.result in
    let all : length (light_at (board_of before.grid) c.args.trial.now.light) ≤ c.loop-pos.pos = omega (arith, light_size before.grid c.args.trial.now.light c.light_at-light.result (in_grid_light before.grid c.args.trial.now.light c.requires) c.light_at-light.ensures, c.loop-pos-test.false) in
    (take_back-end before (g.E.Feasible.state c.edit.follows.lender-at-none) (g.E.Feasible.answers c.args.engine.now) (g.E.Feasible.answers c.edit.follows.lender-at-none) c.args.trial.now _ c.loop-pos.pos c.edit.result c.loop-pos.invariant.back all c.edit.follows.holds-at-none.0).0

pub returns-clause-entries : goal.returns-clause-entries
returns-clause-entries g c =
    let before = g.E.Feasible.state c.args.engine.now in
    let all : length (light_at (board_of before.grid) c.args.trial.now.light) ≤ c.loop-pos.pos = omega (arith, light_size before.grid c.args.trial.now.light c.light_at-light.result (in_grid_light before.grid c.args.trial.now.light c.requires) c.light_at-light.ensures, c.loop-pos-test.false) in
    (take_back-end before (g.E.Feasible.state c.edit.follows.lender-at-none) (g.E.Feasible.answers c.args.engine.now) (g.E.Feasible.answers c.edit.follows.lender-at-none) c.args.trial.now _ c.loop-pos.pos c.edit.result c.loop-pos.invariant.back all c.edit.follows.holds-at-none.0).1
