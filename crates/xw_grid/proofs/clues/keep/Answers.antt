use Rattle.std.proofs.Common.{◌≡◌, ◌<◌, length, arith}
use Rattle.std.proofs.lemmas.Bool.Decides.{nat_tests}
use Rattle.std.proofs.lemmas.List.{nil_from_length}
use Rattle.xw_grid.proofs.ClueLemmas.{text_removed, text_kept}
use Rattle.xw_grid.proofs.clues.keep.Goals as goal

pub returns-then-is_empty-clause-ok : goal.returns-then-is_empty-clause-ok
returns-then-is_empty-clause-ok c =
    let none : length c.args.text.now ≡ 0 = grind (arith, nat_tests, c.is_empty.ensures, c.if-is_empty.true) in
    text_removed c.args.texts.now c.remove.new.self c.args.cell c.args.text.now (nil_from_length c.args.text.now none) c.remove.ensures.entries c.remove.ensures.updates.1

pub returns-clause-ok : goal.returns-clause-ok
returns-clause-ok c =
    let some : 0 < length c.args.text.now = grind (arith, nat_tests, c.is_empty.ensures, c.if-is_empty.false) in
    text_kept c.args.texts.now c.insert.new.self c.args.cell c.in_ok-from_slice.field-0 c.args.text.now some c.in_ok-from_slice.ensures.items c.in_ok-insert.ensures.entries
