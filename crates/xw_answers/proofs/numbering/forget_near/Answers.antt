use Rattle.std.proofs.Common.{◌⊎◌, ◌+◌, ◌*◌, ◌-◌, ◌/◌, ◌<◌, ◌≤◌, ℕ, arith, subst, sym}
use Rattle.std.specs.Prelude.{All}
use Rattle.std.proofs.lemmas.List.Elements.{All-cons, All-nil}
use Rattle.xw_answers.specs.Numbering.{AreApart}
use Rattle.xw_answers.proofs.Numbered.{row_apart}
use Rattle.xw_answers.proofs.numbering.forget_near.Goals as goal

pub loop-member-preserved : goal.loop-member-preserved
loop-member-preserved c = record {
  kept = λ index is found. c.loop-member.invariant.kept index is (c.forget_between.ensures.kept index is found);
  gone = λ index is found others.
      let width = c.args.grid.now.width in
      let row : ℕ = c.in-Some.member.row in
      let apart : (index < (row - 2) * width) ⊎ ((row + 1) * width ≤ index) = rw (c.saturating_sub.ensures, c.width-width.ensures.width) at (c.forget_between.ensures.gone index is found) in
      c.loop-member.invariant.gone index is (c.forget_between.ensures.kept index is found)
      (subst (All (AreApart (index / width + 1))) (sym c.in-Some.ensures.steps) (All-cons (AreApart (index / width + 1)) c.in-Some.member c.next.new.self (row_apart width index row (omega (arith, c.well_formed-2.ensures.wide.0)) apart) others));
}

pub returns-clause-gone : goal.returns-clause-gone
returns-clause-gone c = λ index is found. c.loop-member.invariant.gone index is found (subst (All (AreApart (index / c.args.grid.now.width + 1))) (sym c.in_default.ensures.steps.0) (All-nil (AreApart (index / c.args.grid.now.width + 1))))
