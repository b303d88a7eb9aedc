use Rattle.std.proofs.Common.{◌≡◌, ◌∙◌, sym, ap, subst, arith, All, Contains, true, not, is_some, Some, None, get_or}
use Rattle.std.proofs.lemmas.Bool.{false≢true}
use Rattle.std.proofs.lemmas.List.{get_or_default}
use Rattle.std.proofs.lemmas.List.Elements.{Contains-get_or}
use Rattle.xw_feas.specs.Board.{Board, entry}
use Rattle.xw_search.specs.NamedFill.{entry_in}
use Rattle.xw_search.specs.Progress.{entries_of}
use Rattle.xw_search.proofs.PlanLemmas.{one_more}
use Rattle.xw_search.proofs.LetterLemmas.{if_some, if_none, is_empty, same_value}
use Rattle.xw_search.proofs.choice.next_cell.Goals.{then-is_none+then-is_none-2, then-is_none+else-is_none-2+else-is_before, else-is_none}
use Rattle.xw_search.proofs.choice.next_cell.Goals as goal

pub loop-index-init : goal.loop-index-init
loop-index-init g c = record {
  some = λ cell e. cc;
  none = λ e k below. absurd (omega arith);
}

pub loop-index-preserved : goal.loop-index-preserved
loop-index-preserved g c =
    let entries = entries_of (g.E.Feasible.state c.args.engine.now) in
    let targets = c.args.targets.now in
    let cell = get_or targets c.loop-index.index 0 in
    let before = c.loop-index.invariant in
    let here : c.entry.result ≡ entry_in entries cell = c.entry.ensures.entry ∙ ap (λ (board : Board). entry board cell) c.board-board.ensures in
    elim c.if-is_none.branch [
      | then-is_none+then-is_none-2 w ↦ record {
        some = λ other e.
            let same : cell ≡ other = same_value (sym w.best-is ∙ e) in
            let empty : entry_in entries cell ≡ None = sym here ∙ is_empty c.entry.result (c.is_none.ensures ∙ ap not w.if-is_none.true) in
            (subst (Contains targets) same (Contains-get_or targets c.loop-index.index 0 c.loop-index-test.true), subst (λ x. entry_in entries x ≡ None) same empty);
        none = λ e. let wrong : Some cell ≡ None = sym w.best-is ∙ e in cc;
      }
      | then-is_none+else-is_none-2+else-is_before w ↦ record {
        some = λ other e. before.some other (sym w.best-is ∙ e);
        none = λ e. absurd (false≢true (ap is_some (sym e ∙ w.best-is) ∙ w.is_none-then-is_none.ensures ∙ ap not w.if-is_none-2.false));
      }
      | else-is_none w ↦ record {
        some = λ other e. before.some other (sym w.best-is ∙ e);
        none = λ e. one_more (λ k. is_some (entry_in entries (get_or targets k 0)) ≡ true) c.loop-index.index (before.none (sym w.best-is ∙ e))
            (ap is_some (sym here) ∙ c.is_none.ensures ∙ ap not w.if-is_none.false);
      }
    ]

pub returns-clause-some : goal.returns-clause-some
returns-clause-some g c =
    let entries = entries_of (g.E.Feasible.state c.args.engine.now) in
    if_some (λ cell. Contains c.args.targets.now cell × (entry_in entries cell ≡ None)) c.loop-index.best c.loop-index.invariant.some

pub returns-clause-none : goal.returns-clause-none
returns-clause-none g c =
    let entries = entries_of (g.E.Feasible.state c.args.engine.now) in
    let targets = c.args.targets.now in
    if_none (All (λ cell. is_some (entry_in entries cell) ≡ true) targets) c.loop-index.best (λ e k d below.
    subst (λ cell. is_some (entry_in entries cell) ≡ true) (get_or_default targets k 0 d below)
    (c.loop-index.invariant.none e k (omega (arith, below, c.loop-index-test.false))))
