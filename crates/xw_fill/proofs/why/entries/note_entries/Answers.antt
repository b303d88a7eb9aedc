use Rattle.std.proofs.Common.{refl, sym, ap, ◌∙◌, arith}
use Rattle.std.proofs.lemmas.List.{take_all}
use Rattle.xw_feas.specs.Board.{entry}
use Rattle.xw_search.specs.Writing.{entries_of}
use Rattle.xw_fill.proofs.EntryLemmas.{next_entry}
use Rattle.xw_fill.proofs.why.entries.note_entries.Goals as goal

pub loop-index-init : goal.loop-index-init
loop-index-init g c = refl

pub loop-index-preserved : goal.loop-index-preserved
loop-index-preserved g c =
    let state = g.E.Feasible.state c.args.engine.now in
    next_entry c.loop-index.entries (entries_of state) c.loop-index.index c.entry.result (omega (arith, c.loop-index.auto.entries, c.loop-index-test.true)) (omega (arith, c.requires, c.loop-index-test.true)) c.loop-index.invariant
    (c.entry.ensures.entry ∙ ap (λ b. entry b c.loop-index.index) c.board.ensures)

pub returns : goal.returns
returns g c =
    let state = g.E.Feasible.state c.args.engine.now in
    sym (take_all c.loop-index.index c.loop-index.entries (omega (arith, c.loop-index.auto.entries, c.loop-index-test.false)))
    ∙ c.loop-index.invariant
    ∙ take_all c.loop-index.index (entries_of state) (omega (arith, c.requires, c.loop-index-test.false))
