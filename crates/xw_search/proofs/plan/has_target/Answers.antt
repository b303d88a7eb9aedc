use Rattle.std.proofs.Common.{◌≡◌, ◌∙◌, sym, ap, arith, false, get_or}
use Rattle.std.specs.List.{list_any}
use Rattle.xw_feas.specs.Board.{light_at}
use Rattle.xw_search.specs.Position.{position_of}
use Rattle.xw_search.specs.NamedFill.{flags}
use Rattle.xw_search.specs.Progress.{is_target}
use Rattle.xw_search.proofs.PlanLemmas.{any_none, one_more}
use Rattle.xw_search.proofs.plan.has_target.Goals as goal

pub loop-pos-init : goal.loop-pos-init
loop-pos-init g c k below = absurd (omega arith)

pub loop-pos-preserved : goal.loop-pos-preserved
loop-pos-preserved g c =
    let test = is_target (flags c.args.named.now) (position_of (g.E.Feasible.state c.args.engine.now)) in
    one_more (λ k. test (get_or c.light-cells.result k 0) ≡ false) c.loop-pos.pos c.loop-pos.invariant
    (ap test (sym c.at.ensures) ∙ sym c.is_target.ensures ∙ c.if-is_target.false)

pub returns : goal.returns
returns g c =
    let position = position_of (g.E.Feasible.state c.args.engine.now) in
    let test = is_target (flags c.args.named.now) position in
    let cells : c.light-cells.result ≡ light_at position.board c.args.light = c.light-cells.ensures.cells ∙ ap (λ board. light_at board c.args.light) c.board.ensures in
    sym (ap (list_any test) (sym cells) ∙ any_none test c.light-cells.result c.loop-pos.pos (omega (arith, c.loop-pos-test.false, c.len-pos-end.ensures)) c.loop-pos.invariant)
