use Rattle.std.proofs.Common.{◌≡◌, ◌∙◌, ◌<◌, ◌*◌, [], ◌∷◌, ◌++◌, if◌then◌else◌, true, sym, ap, subst, get_or}
use Rattle.std.specs.Prelude.{All}
use Rattle.std.specs.Result.{is_ok}
use Rattle.std.proofs.lemmas.List.Elements.{All-push}
use Rattle.xw_grid.specs.Grid.{Grid, cell_at}
use Rattle.xw_feas.specs.Board.{board_of}
use Rattle.xw_search.specs.Position.{position_of}
use Rattle.xw_search.specs.NamedFill.{flags}
use Rattle.xw_best.specs.Inner.Candidate.{IsForTarget}
use Rattle.xw_search.specs.Progress.{is_target}
use Rattle.xw_search.proofs.Shaped.{shaped}
use Rattle.xw_search.proofs.Entering.{open_within}
use Rattle.xw_search.proofs.LetterSearch.{target_open}
use Rattle.xw_best.proofs.CandidateLemmas.{target_written}
use Rattle.xw_best.proofs.best.candidate.written_of.Goals as goal

pub cell_at-cell-requires : goal.cell_at-cell-requires
cell_at-cell-requires g c =
    let state = g.E.Feasible.state c.args.engine.now in
    let named = flags c.args.plan.now.named.items in
    let formed = g.met.E.Feasible.well_formed c.args.engine.now in
    let target = get_or c.as_slice-targets.result.now c.loop-index.index 0 in
    let is : is_target named (position_of state) target ≡ true = (subst (All (λ cell. is_target named (position_of state) cell ≡ true)) (sym c.as_slice-targets.ensures.value) c.requires.targets.sound) c.loop-index.index 0 c.loop-index-test.true in
    subst (λ (grid : Grid). target < grid.width * grid.height) (sym c.grid.ensures)
    (open_within state.grid target formed.grid (target_open named (position_of state) target (shaped (board_of state.grid) formed.board) is))

pub loop-index-preserved : goal.loop-index-preserved
loop-index-preserved g c =
    let state = g.E.Feasible.state c.args.engine.now in
    let named = flags c.args.plan.now.named.items in
    let formed = g.met.E.Feasible.well_formed c.args.engine.now in
    let target = get_or c.as_slice-targets.result.now c.loop-index.index 0 in
    let is : is_target named (position_of state) target ≡ true = (subst (All (λ cell. is_target named (position_of state) cell ≡ true)) (sym c.as_slice-targets.ensures.value) c.requires.targets.sound) c.loop-index.index 0 c.loop-index-test.true in
    let before = c.loop-index.list.items in
    let cell_is = c.cell_at-cell.ensures.cell ∙ ap (λ (grid : Grid). cell_at grid target) c.grid.ensures in
    let is_pushed = ap is_ok c.in_ok-push.was in
    let items : c.push.new.self.items ≡ before ++ (c.cell_at-cell.result, c.entry_of.result) ∷ [] =
    c.push.ensures.items ∙ ap (λ pushed. if pushed then before ++ (c.cell_at-cell.result, c.entry_of.result) ∷ [] else before) is_pushed in
    subst (All (IsForTarget named state)) (sym items)
    (All-push (IsForTarget named state) before (c.cell_at-cell.result, c.entry_of.result) c.loop-index.invariant (target_written named state target c.cell_at-cell.result c.entry_of.result formed is cell_is c.entry_of.ensures))
