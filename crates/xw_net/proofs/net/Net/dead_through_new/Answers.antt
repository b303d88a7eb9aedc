use Rattle.std.proofs.Common.{◌≡◌, ℕ, true, false, sym, ◌∙◌, subst, inl, inr}
use Rattle.std.specs.Prelude.{Option, Some, None, IfNone, is_some}
use Rattle.xw_feas.specs.Passes.{Passes}
use Rattle.xw_net.proofs.Levels.NewCells.{new_none, new_to, new_split, new_before}
use Rattle.xw_net.proofs.net.Net.dead_through_new.Goals as goal

if_empty : (o : Option ℕ) {X : Type 0} → is_some o ≡ false → IfNone o X → X
if_empty None is found = found
if_empty (Some light) is found = let never : true ≡ false = is in cc

pub loop-at-init : goal.loop-at-init
loop-at-init c cell light new = absurd (new_none c.args.search.grid.now c.args.search.written.now cell new)

pub loop-at-preserved-then-is_some : goal.loop-at-preserved-then-is_some
loop-at-preserved-then-is_some c cell light new passes watched emptied =
    c.loop-at.invariant cell light (new_before c.args.search.grid.now c.args.search.written.now c.loop-at.at c.loop-at-test.true c.index-search-at-in-loop-at.result cell (sym c.is_some.ensures ∙ c.if-is_some.true) new) passes watched emptied

pub loop-at-preserved : goal.loop-at-preserved
loop-at-preserved c cell light new passes watched emptied =
    elim (new_split c.args.search.grid.now c.args.search.written.now c.loop-at.at c.loop-at-test.true c.index-search-at.result cell new) [
      | inl was ↦ c.loop-at.invariant cell light was passes watched emptied
      | inr now ↦ if_empty c.dead_through-dead.result (sym c.is_some-in-loop-at.ensures ∙ c.if-is_some-2.false) c.dead_through-dead.ensures.none light (subst (λ n. Passes c.args.board.now n light) (sym (c.index_in.ensures.index ∙ now)) passes) watched emptied
    ]

pub returns-clause-none : goal.returns-clause-none
returns-clause-none c cell light new passes watched emptied =
    c.loop-at.invariant cell light (new_to c.args.search.grid.now c.args.search.written.now c.loop-at.at cell c.loop-at-test.false new) passes watched emptied
