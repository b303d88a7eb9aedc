use Rattle.std.proofs.Common.{get_or, length, sym, ap, subst, ◌∙◌, arith, inl, inr}
use Rattle.std.specs.Prelude.{is_some}
use Rattle.std.proofs.lemmas.Bool.{true≢false, cases_eq}
use Rattle.xw_feas.specs.Board.{Board, board_of, light_at, IsCrossing}
use Rattle.xw_fill.proofs.choices.is_crossed.Goals as goal

pub loop-position-preserved : goal.loop-position-preserved
loop-position-preserved g c position other below crossing =
    let board = board_of (g.E.Feasible.state c.args.engine.now).grid in
    let light = c.args.light in
    elim (cases_eq position c.loop-position.position) [
      | inl e ↦
          let here = subst (λ k. IsCrossing board light (get_or (light_at board light) k 0) other) e crossing in
          let there = subst (λ (b : Board). IsCrossing b light (get_or (light_at b light) c.loop-position.position 0) other) (sym c.board-board.ensures) here in
          absurd (true≢false (sym (ap is_some (c.crossing.ensures.only other there)) ∙ sym c.is_some.ensures ∙ c.if-is_some.false))
      | inr differs ↦ c.loop-position.invariant position other (omega (arith, below, differs)) crossing
    ]

pub returns : goal.returns
returns g c = λ e position other below crossing.
    let all = ap (λ (b : Board). length (light_at b c.args.light)) c.board-board.ensures in
    c.loop-position.invariant position other (omega (arith, below, c.loop-position-test.false, c.len-position-end.ensures, ap length c.light.ensures.cells, all)) crossing
