use Rattle.std.proofs.Common.{◌≡◌, ◌∙◌, ◌+◌, sym, ap, subst, arith, true, false, not, is_some, Some, None}
use Rattle.std.proofs.lemmas.Bool.{false≢true, true≢false}
use Rattle.xw_letters.specs.LetterSet.{has}
use Rattle.xw_search.specs.Position.{position_of}
use Rattle.xw_search.specs.Progress.{IsNextLetter, HasNoLetter}
use Rattle.xw_search.proofs.PlanLemmas.{one_more}
use Rattle.xw_search.proofs.LetterLemmas.{if_some, if_none, same_value, letters_by_number}
use Rattle.xw_search.proofs.choice.next_letter.Goals.{then-has+then-not-has+then-is_none, then-has+then-not-has+else-is_none+else-promise-most, else-has, else-has-via-then-has+else-not-has, else-has-via-else-has}
use Rattle.xw_search.proofs.choice.next_letter.Goals as goal

pub loop-number-init : goal.loop-number-init
loop-number-init g c = record {
  some = λ letter e. cc;
  none = λ e k below. absurd (omega arith);
}

pub loop-number-preserved : goal.loop-number-preserved
loop-number-preserved g c =
    let letters = c.letters_at-letters.result in
    let tried = c.args.tried in
    let letter = c.at-letter.result in
    let before = c.loop-number.invariant in
    elim c.if-has.branch [
      | then-has+then-not-has+then-is_none w ↦ record {
        some = λ other e.
            let same : letter ≡ other = same_value (sym w.best-is ∙ e) in
            (subst (λ x. has letters x ≡ true) same (sym c.has.ensures ∙ w.if-has.true), subst (λ x. has tried x ≡ false) same (sym w.has-then-has.ensures ∙ w.if-not-has.true));
        none = λ e. let wrong : Some letter ≡ None = sym w.best-is ∙ e in cc;
      }
      | then-has+then-not-has+else-is_none+else-promise-most w ↦ record {
        some = λ other e. before.some other (sym w.best-is ∙ e);
        none = λ e. absurd (false≢true (ap is_some (sym e ∙ w.best-is) ∙ w.is_none.ensures ∙ ap not w.if-is_none.false));
      }
      | else-has w ↦ record {
        some = λ other e. before.some other (sym w.best-is ∙ e);
        none = λ e. one_more (λ k. has letters (65 + k) ≡ true → has tried (65 + k) ≡ true) c.loop-number.number (before.none (sym w.best-is ∙ e)) (λ has_it. elim w.else-has.branch [
          | else-has-via-then-has+else-not-has w' ↦ ap (has tried) (sym c.at-letter.ensures) ∙ sym w'.has-then-has.ensures ∙ w'.if-not-has.false
          | else-has-via-else-has w' ↦ absurd (true≢false (sym has_it ∙ ap (has letters) (sym c.at-letter.ensures) ∙ sym c.has.ensures ∙ w'.if-has.false))
        ]);
      }
    ]

pub returns-clause-some : goal.returns-clause-some
returns-clause-some g c =
    let position = position_of (g.E.Feasible.state c.args.engine.now) in
    if_some (IsNextLetter position c.args.cell c.args.tried) c.loop-number.best (λ letter e.
    let found = c.loop-number.invariant.some letter e in
    (sym (c.letters_at-letters.ensures letter) ∙ found.0, found.1))

pub returns-clause-none : goal.returns-clause-none
returns-clause-none g c =
    let position = position_of (g.E.Feasible.state c.args.engine.now) in
    if_none (HasNoLetter position c.args.cell c.args.tried) c.loop-number.best (λ e letter feasible.
    letters_by_number (λ letter. has c.args.tried letter ≡ true) c.letters_at-letters.result
    (λ number below has_it. c.loop-number.invariant.none e number (omega (arith, below, c.loop-number-test.false)) has_it)
    letter (c.letters_at-letters.ensures letter ∙ feasible))
