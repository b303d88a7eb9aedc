use Rattle.std.proofs.Common.{◌≡◌, ◌∙◌, ◌+◌, sym, ap, subst, arith, length, [], ◌∷◌, ◌++◌, if◌then◌else◌}
use Rattle.std.specs.Result.{is_ok}
use Rattle.xw_feas.specs.Board.{board_of}
use Rattle.xw_search.specs.Position.{position_of}
use Rattle.xw_search.proofs.Shaped.{shaped}
use Rattle.xw_search.specs.NamedFill.{flags}
use Rattle.xw_search.specs.Progress.{is_target}
use Rattle.xw_search.proofs.NamedFills.{target_within}
use Rattle.xw_search.proofs.PlanLemmas.{AreThose, those-none, those-more, those-same}
use Rattle.xw_search.proofs.plan.targets_of.Goals.{then-is_target+in_ok-push, else-is_target}
use Rattle.xw_search.proofs.plan.targets_of.Goals as goal

pub loop-cell-init : goal.loop-cell-init
loop-cell-init g c = those-none (is_target (flags c.args.named.now) (position_of (g.E.Feasible.state c.args.engine.now))) c.new-targets.result.items c.new-targets.ensures.items

pub loop-cell-preserved : goal.loop-cell-preserved
loop-cell-preserved g c =
    let test = is_target (flags c.args.named.now) (position_of (g.E.Feasible.state c.args.engine.now)) in
    let cell = c.loop-cell.cell in
    let before = c.loop-cell.targets.items in
    elim c.if-is_target.branch [
      | then-is_target+in_ok-push w ↦
          let is_pushed = ap is_ok w.in_ok-push.was in
          let items : c.if-is_target.targets.items ≡ before ++ cell ∷ [] =
          ap (λ targets. targets.items) w.targets-is ∙ w.push.ensures.items
          ∙ ap (λ pushed. if pushed then before ++ cell ∷ [] else before) is_pushed in
          those-more test cell before c.if-is_target.targets.items c.loop-cell.invariant items (sym c.is_target.ensures ∙ w.if-is_target.true)
      | else-is_target w ↦
          subst (AreThose test (cell + 1)) (sym (ap (λ targets. targets.items) w.targets-is))
          (those-same test cell before c.loop-cell.invariant (sym c.is_target.ensures ∙ w.if-is_target.false))
    ]

pub returns : goal.returns
returns g c =
    let state = g.E.Feasible.state c.args.engine.now in
    let named = flags c.args.named.now in
    let board = (g.met.E.Feasible.well_formed c.args.engine.now).board in
    record {
      sound = c.loop-cell.invariant.sound;
      all = λ cell target.
          let within = target_within named (position_of state) cell (shaped (board_of state.grid) board) target in
          c.loop-cell.invariant.all cell (omega (arith, within, c.loop-cell-test.false, c.cell_count-cell-end.ensures.entries, ap (λ b. length b.entries) c.board.ensures)) target;
    }
