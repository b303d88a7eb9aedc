use Rattle.std.proofs.Common.{◌≡◌, ◌∙◌, sym, ap, subst, arith, true, not, is_some, get_or}
use Rattle.std.proofs.lemmas.List.{get_or_default}
use Rattle.xw_feas.specs.Board.{Board, entry}
use Rattle.xw_search.specs.NamedFill.{entry_in}
use Rattle.xw_search.specs.Progress.{entries_of}
use Rattle.xw_search.proofs.PlanLemmas.{one_more}
use Rattle.xw_best.proofs.best.candidate.are_entered.Goals as goal

pub loop-index-init : goal.loop-index-init
loop-index-init g c k below = absurd (omega (arith, below))

pub loop-index-preserved : goal.loop-index-preserved
loop-index-preserved g c =
    let entries = entries_of (g.E.Feasible.state c.args.engine.now) in
    let cells = c.args.cells.now in
    let here : c.entry.result ≡ entry_in entries (get_or cells c.loop-index.index 0) = c.entry.ensures.entry ∙ ap (λ (board : Board). entry board (get_or cells c.loop-index.index 0)) c.board.ensures in
    one_more (λ k. is_some (entry_in entries (get_or cells k 0)) ≡ true) c.loop-index.index c.loop-index.invariant
    (ap is_some (sym here) ∙ c.is_none.ensures ∙ ap not c.if-is_none.false)

pub returns : goal.returns
returns g c told k d below =
    let entries = entries_of (g.E.Feasible.state c.args.engine.now) in
    let cells = c.args.cells.now in
    subst (λ cell. is_some (entry_in entries cell) ≡ true) (get_or_default cells k 0 d below) (c.loop-index.invariant k (omega (arith, below, c.loop-index-test.false)))
