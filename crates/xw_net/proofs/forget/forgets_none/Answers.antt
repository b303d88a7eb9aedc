use Rattle.std.proofs.Common.{◌≡◌, ℕ, List, None, Some, length, sym, subst, ◌∙◌, arith}
use Rattle.std.specs.Prelude.{Option}
use Rattle.xw_feas.specs.Board.{light_at}
use Rattle.xw_net.specs.Change.{before_of}
use Rattle.xw_net.specs.Inner.Forget.{nowhere, lost_from}
use Rattle.xw_net.specs.Renumber.{same_before}
use Rattle.xw_grid.specs.declared.lights.Light.{Light}
use Rattle.xw_net.proofs.Edits.ShapeNotes.{none_there}
use Rattle.xw_net.proofs.Revivals.Forgetting.{lost_same, lost_none, not_true}
use Rattle.xw_net.proofs.forget.forgets_none.Goals as goal

pub returns-in-Some : goal.returns-in-Some
returns-in-Some g c board lights is light within long =
    let entries = g.R.Rows.entries c.args.rows.now in
    let size = length (light_at board light) in
    subst (λ (word : Option (ℕ × ℕ)). lost_from word (same_before (before_of lights c.args.change.now) lights light) size (length (entries size)) ≡ nowhere) (sym c.in-Some.is ∙ c.word.ensures)
    (subst (λ (before : List Light). lost_from (Some (c.in-Some.len, c.in-Some.index)) (same_before before lights light) size (length (entries size)) ≡ nowhere) (sym (none_there c.before-2.result (sym c.is_some.ensures ∙ c.if-is_some.false) c.before-2.ensures.none lights))
    (lost_same lights light (omega (arith, within, long)) (Some (c.in-Some.len, c.in-Some.index)) size (length (entries size))
    ∙ lost_none (λ n. length (entries n)) c.in-Some.len c.in-Some.index size (sym c.is_last.ensures ∙ not_true c.is_last.result is)))

pub returns-in-None : goal.returns-in-None
returns-in-None g c board lights is light within long =
    let entries = g.R.Rows.entries c.args.rows.now in
    let size = length (light_at board light) in
    subst (λ (word : Option (ℕ × ℕ)). lost_from word (same_before (before_of lights c.args.change.now) lights light) size (length (entries size)) ≡ nowhere) (sym c.in-None.is ∙ c.word.ensures)
    (subst (λ (before : List Light). lost_from None (same_before before lights light) size (length (entries size)) ≡ nowhere) (sym (none_there c.before-2.result (sym c.is_some.ensures ∙ c.if-is_some.false) c.before-2.ensures.none lights))
    (lost_same lights light (omega (arith, within, long)) None size (length (entries size))))
