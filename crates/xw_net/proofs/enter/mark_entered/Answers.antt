use Rattle.std.proofs.Common.{◌<◌, ◌+◌, ℕ, length, subst, sym, ◌∙◌, inl, inr, arith}
use Rattle.xw_net.specs.Entered.{IsThroughNew}
use Rattle.xw_net.specs.Spread.{IsThrough}
use Rattle.xw_net.proofs.Levels.NewCells.{IsNewBelow, new_none, new_from, new_to, new_more, new_split, new_before, new_here}
use Rattle.xw_net.proofs.Lists.ListsOfLights.{adds_none, adds_more, adds_as}
use Rattle.xw_net.proofs.enter.mark_entered.Goals as goal

pub loop-at-init : goal.loop-at-init
loop-at-init c =
    adds_none (λ light. (cell : ℕ) × IsNewBelow c.args.grid.now c.args.written.now 0 cell × IsThrough c.args.board.now cell light) c.args.list.now
    (λ light through. new_none c.args.grid.now c.args.written.now through.0 through.1)

pub loop-at-preserved-then-is_some : goal.loop-at-preserved-then-is_some
loop-at-preserved-then-is_some c =
    let grid = c.args.grid.now in
    let board = c.args.board.now in
    let written = c.args.written.now in
    let at = c.loop-at.at in
    let inside : at < length written = c.loop-at-test.true in
    adds_as (λ light. (cell : ℕ) × IsNewBelow grid written at cell × IsThrough board cell light) (λ light. (cell : ℕ) × IsNewBelow grid written (at + 1) cell × IsThrough board cell light) c.args.list.now c.loop-at.list
    (λ light through. (through.0, new_more grid written at inside through.0 through.1, through.2))
    (λ light through. (through.0, new_before grid written at inside c.index-written-at-in-loop-at.result through.0 (sym c.is_some.ensures ∙ c.if-is_some.true) through.1, through.2))
    c.loop-at.invariant

pub mark_through-requires-clause-list : goal.mark_through-requires-clause-list
mark_through-requires-clause-list c = omega (arith, c.requires.list, c.loop-at.invariant.grows.size)

pub loop-at-preserved : goal.loop-at-preserved
loop-at-preserved c =
    let grid = c.args.grid.now in
    let board = c.args.board.now in
    let written = c.args.written.now in
    let at = c.loop-at.at in
    let inside : at < length written = c.loop-at-test.true in
    let here = c.index_in.result in
    let index = c.index_in.ensures.index in
    adds_more (λ light. (cell : ℕ) × IsNewBelow grid written at cell × IsThrough board cell light) (IsThrough board here)
    (λ light. (cell : ℕ) × IsNewBelow grid written (at + 1) cell × IsThrough board cell light) c.args.list.now c.loop-at.list c.mark_through.new.list
    (λ light through. (through.0, new_more grid written at inside through.0 through.1, through.2))
    (λ light through. (here, subst (IsNewBelow grid written (at + 1)) (sym index) (new_here grid written at inside c.index-written-at.result c.index-written-at-in-loop-at.result (sym c.is_some.ensures ∙ c.if-is_some.false)), through))
    (λ light through. elim (new_split grid written at inside c.index-written-at.result through.0 through.1) [
      | inl was ↦ inl (through.0, was, through.2)
      | inr now ↦ inr (through.2.0, through.2.1, through.2.2 ∙ sym (index ∙ now))
    ])
    c.loop-at.invariant c.mark_through.ensures

pub returns : goal.returns
returns c =
    let grid = c.args.grid.now in
    let board = c.args.board.now in
    let written = c.args.written.now in
    let at = c.loop-at.at in
    adds_as (λ light. (cell : ℕ) × IsNewBelow grid written at cell × IsThrough board cell light) (IsThroughNew grid board written) c.args.list.now c.loop-at.list
    (λ light through. (through.0, new_from grid written at through.0 through.1, through.2))
    (λ light through. (through.0, new_to grid written at through.0 c.loop-at-test.false through.1, through.2))
    c.loop-at.invariant
