use Rattle.std.proofs.Common.{◌≡◌, get_or, [], true, sym, subst}
use Rattle.std.specs.Prelude.{is_none}
use Rattle.xw_feas.specs.State.{State}
use Rattle.xw_search.specs.Position.{position_of, placed}
use Rattle.xw_fill.specs.Words.{spellings_at, IsNextWord, HasNoMore}
use Rattle.xw_fill.specs.Suggesting.{first_blocked}
use Rattle.xw_fill.proofs.SuggestingLemmas.{index_to_try-here, index_to_try-none}
use Rattle.xw_fill.proofs.suggesting.find_index.Goals as goal

pub returns-then-can_be_placed-clause-found : goal.returns-then-can_be_placed-clause-found
returns-then-can_be_placed-clause-found g c =
    let start = g.E.Feasible.state c.args.engine.now in
    let next = subst (λ (s : State). IsNextWord (position_of s) c.args.light c.loop-index.from c.in-Some.index) c.loop-index.invariant.same c.in-Some.ensures in
    let safe = subst (λ (s : State). true ≡ is_none (first_blocked (placed (position_of s) c.args.light (get_or (spellings_at (position_of s) c.args.light) c.in-Some.index [])))) c.loop-index.invariant.same c.if-can_be_placed.ensures.found in
    sym (index_to_try-here (position_of start) c.args.light c.loop-index.from c.in-Some.index c.loop-index.invariant.failed next (sym safe))

pub returns-clause-found : goal.returns-clause-found
returns-clause-found g c =
    let start = g.E.Feasible.state c.args.engine.now in
    sym (index_to_try-none (position_of start) c.args.light c.loop-index.from c.loop-index.invariant.failed (subst (λ (s : State). HasNoMore (position_of s) c.args.light c.loop-index.from) c.loop-index.invariant.same c.in_default.ensures))
