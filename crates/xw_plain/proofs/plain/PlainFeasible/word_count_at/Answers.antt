use Rattle.std.proofs.Common.{◌≡◌, ◌<◌, length, get_or, [], ap, ◌∙◌, arith}
use Rattle.std.proofs.lemmas.List.{get_or_read}
use Rattle.xw_feas.specs.Flags.{standing_count}
use Rattle.xw_feas.specs.Board.{board_of}
use Rattle.xw_feas.proofs.BoardLemmas.{length-lights}
use Rattle.xw_feas.proofs.QueryLemmas.{count_is}
use Rattle.xw_plain.proofs.plain.PlainFeasible.word_count_at.Goals as goal

pub returns : goal.returns
returns c =
    let engine = c.args.self.now in
    let words = engine.words.items in
    let row = c.index-row.result.now in
    let below : c.args.light < length words = omega (arith, engine.rows.lights, c.requires, length-lights engine.position.grid) in
    let is : row ≡ get_or words c.args.light [] = get_or_read words c.args.light row below c.index-row.ensures [] in
    c.count.ensures ∙ ap standing_count is ∙ count_is (board_of engine.position.grid) engine.position.bank.words words engine.letters.items engine.rows c.args.light below

pub index-row-requires : goal.index-row-requires
index-row-requires c = omega (arith, c.args.self.now.rows.lights, c.requires, length-lights c.args.self.now.position.grid)
