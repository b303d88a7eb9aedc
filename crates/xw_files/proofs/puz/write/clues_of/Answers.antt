use Rattle.std.proofs.Common.{◌≡◌, ◌<◌, Some, length, sym, ap, ◌∙◌, arith}
use Rattle.std.specs.Prelude.{slice_get}
use Rattle.std.proofs.lemmas.List.{map-append}
use Rattle.std.proofs.lemmas.Option.{slice_get-get_or}
use Rattle.xw_files.proofs.CellLemmas.{map-got}
use Rattle.xw_grid.specs.Light.{no_light}
use Rattle.xw_grid.specs.Puzzle.{clue_of}
use Rattle.xw_files.proofs.puz.write.clues_of.Goals as goal

pub loop-index-preserved : goal.loop-index-preserved
loop-index-preserved c =
    let lights = c.args.lights.now in
    let below : c.loop-index.index < length lights = omega (arith, c.loop-index-test.true, c.len-index-end.ensures.len) in
    let there : slice_get lights c.loop-index.index ≡ Some c.at-light.result = slice_get-get_or lights c.loop-index.index no_light below ∙ ap Some (sym c.at-light.ensures) in
    rw (c.in_ok-push.ensures.items)
    (map-append (λ text. text.now) c.loop-index.texts.items _
    ∙ rw (c.loop-index.invariant, c.get.ensures) (sym (map-got (clue_of c.args.clues.now) lights c.loop-index.index c.at-light.result there)))
