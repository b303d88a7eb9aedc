use Rattle.std.proofs.Common.{◌≡◌, ◌<◌, ◌+◌, ℕ, Some, None, sym, ap, ◌∙◌, subst, inl, inr, arith}
use Rattle.std.specs.Prelude.{Option, slice_index, unwrap_or}
use Rattle.std.proofs.lemmas.Bool.{cases_eq}
use Rattle.xw_net.specs.Entered.{IsNew}
use Rattle.xw_net.proofs.Levels.NewCells.{none_from}
use Rattle.xw_net.proofs.enter.only_new.Goals as goal

some_none : (cell : ℕ) → ¬ (Some cell ≡ None)
some_none cell same = cc

pub loop-position-preserved-then-not-is_new : goal.loop-position-preserved-then-not-is_new
loop-position-preserved-then-not-is_new c =
    let cells = c.light-cells.result in
    let position = c.loop-position.position in
    let not_here : (k : ℕ) → k ≡ position → ¬ IsNew c.args.grid.now c.args.written.now (slice_index cells k) =
    λ k e new. c.is_new.ensures.no c.if-not-is_new.true (subst (IsNew c.args.grid.now c.args.written.now) (ap (slice_index cells) e ∙ sym c.at-cell.ensures) new) in
    record {
      one = λ cell found.
          let was = c.loop-position.invariant.one cell found in (
            was.0,
            λ k below new. elim (cases_eq k position) [
              | inl e ↦ absurd (not_here k e new)
              | inr apart ↦ was.1 k (omega (arith, below, apart)) new
            ],
          );
      none = λ found k below new. elim (cases_eq k position) [
        | inl e ↦ not_here k e new
        | inr apart ↦ c.loop-position.invariant.none found k (omega (arith, below, apart)) new
      ];
    }

pub loop-position-preserved : goal.loop-position-preserved
loop-position-preserved c =
    let cells = c.light-cells.result in
    let position = c.loop-position.position in
    let was_none = none_from c.loop-position.found (sym c.is_some.ensures ∙ c.if-is_some.false) in
    record {
      one = λ cell found.
          let same : c.at-cell.result ≡ cell = ap (λ (o : Option ℕ). unwrap_or o 0) found in (
            subst (IsNew c.args.grid.now c.args.written.now) same (c.is_new.ensures.yes c.if-not-is_new.false),
            λ k below new. elim (cases_eq k position) [
              | inl e ↦ ap (slice_index cells) e ∙ sym c.at-cell.ensures ∙ same
              | inr apart ↦ absurd (c.loop-position.invariant.none was_none k (omega (arith, below, apart)) new)
            ],
          );
      none = λ found. absurd (some_none c.at-cell.result found);
    }
