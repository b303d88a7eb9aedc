use Rattle.std.proofs.Common.{◌∙◌, map}
use Rattle.xw_grid.specs.Puzzle.{puzzle_view}
use Rattle.xw_files.proofs.PuzLemmas.Written.{unsealed-same, spelled-is}
use Rattle.xw_files.proofs.puz.write.bytes_of.Goals as goal

pub returns-clause-ok : goal.returns-clause-ok
returns-clause-ok c =
    let puzzle = puzzle_view c.args.puzzle.now in
    let lights = c.in_ok-lights.ensures.ok in
    let header = rw (c.width.ensures.width, c.height.ensures.height, c.len.ensures.len, lights) at c.unsealed.ensures in
    let clues = rw lights at c.in_ok-clues.ensures in
    let same = unsealed-same puzzle c.unsealed.result c.deref.result.now c.deref-2.result.now c.deref-3.result.now c.deref-4.result.now c.deref-5.result.now c.deref-6.result.now c.deref-7.result.now (map (λ text. text.now) c.in_ok-clues.clues.items)
    header
    (c.deref.ensures.value ∙ c.in_ok-solution.ensures)
    (c.deref-2.ensures.value ∙ c.in_ok-state.ensures)
    c.deref-3.ensures.value
    c.deref-4.ensures.value
    c.deref-5.ensures.value
    clues
    c.deref-6.ensures.value
    (c.deref-7.ensures.value ∙ c.in_ok-section.ensures) in
    spelled-is puzzle _ _ _ _ _ _ _ _ _ c.in_ok-spell.field-0.items _ same c.sealed_header-fields.ensures c.in_ok-spell.ensures
