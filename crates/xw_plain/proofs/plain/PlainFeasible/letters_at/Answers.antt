use Rattle.std.proofs.Common.{◌≡◌, ◌<◌, length, get_or, sym, ap, ◌∙◌, arith}
use Rattle.xw_letters.specs.LetterSet.{letters_in}
use Rattle.std.proofs.lemmas.List.{get_or_read}
use Rattle.xw_feas.specs.Board.{board_of}
use Rattle.xw_feas.proofs.BoardLemmas.{length-open_cells}
use Rattle.xw_feas.proofs.AnswersLemmas.{sets_at}
use Rattle.xw_plain.proofs.plain.PlainFeasible.letters_at.Goals as goal

pub index-requires : goal.index-requires
index-requires c =
    let engine = c.args.self.now in
    omega (arith, c.requires, engine.rows.cells, length-open_cells engine.position.grid)

pub returns : goal.returns
returns c =
    let engine = c.args.self.now in
    let sets = engine.letters.items in
    let below : c.args.index < length sets = omega (arith, c.requires, engine.rows.cells, length-open_cells engine.position.grid) in
    let set : c.index.result.now ≡ get_or sets c.args.index 0 = get_or_read sets c.args.index c.index.result.now below c.index.ensures 0 in
    sets_at (board_of engine.position.grid) engine.position.bank.words engine.words.items sets c.args.index ∙ ap letters_in (sym set)
