use Rattle.std.proofs.Common.{◌≡◌, ◌<◌, ◌+◌, ◌*◌, ◌++◌, [], ◌∷◌, take, is_ok, true, sym, ap, ◌∙◌, arith}
use Rattle.std.proofs.lemmas.Bool.{cond-true}
use Rattle.std.proofs.lemmas.List.{take_all, length-map}
use Rattle.xw_grid.specs.Grid.{cells, entry}
use Rattle.xw_grid.proofs.GridLemmas.{length-cells}
use Rattle.xw_journal.specs.Journal.{entries_of}
use Rattle.xw_journal.proofs.Entered.{one_more_entry}
use Rattle.xw_journal.proofs.entries.Entries.copy.Goals as goal

pub loop-index-preserved : goal.loop-index-preserved
loop-index-preserved c =
    let grid = c.args.grid.now in
    let now = c.loop-index.self-inside.items in
    let below : c.loop-index.index < grid.width * grid.height = omega (arith, c.loop-index-test.true, c.size-index-end.ensures.size) in
    let pushed : is_ok c.push.result ≡ true = c.push.ensures.succeeds (omega (arith, c.loop-index.invariant.count, c.loop-index.invariant.room, c.loop-index-test.true, c.size-index-end.ensures.small)) in
    record {
      items = c.push.ensures.items ∙ cond-true (is_ok c.push.result) (now.items ++ c.entry.result ∷ []) now.items pushed
          ∙ ap (λ xs. xs ++ c.entry.result ∷ []) c.loop-index.invariant.items
          ∙ ap (λ e. take c.loop-index.index (entries_of grid) ++ e ∷ []) (c.entry.ensures.entry ∙ ap (entry grid) c.cell_at.ensures.cell)
          ∙ sym (one_more_entry grid c.loop-index.index below);
      count = c.push.ensures.len ∙ cond-true (is_ok c.push.result) (now.len + 1) now.len pushed ∙ ap (λ n. n + 1) c.loop-index.invariant.count;
      room = omega (arith, c.loop-index.invariant.room, c.push.ensures.capacity);
    }

pub returns : goal.returns
returns c =
    let grid = c.args.grid.now in
    c.loop-index.invariant.items ∙ take_all c.loop-index.index (entries_of grid) (omega (arith, c.loop-index-test.false, c.size-index-end.ensures.size, length-map (cells grid) (entry grid), length-cells grid))
