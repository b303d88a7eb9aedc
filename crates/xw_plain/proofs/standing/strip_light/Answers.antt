use Rattle.std.proofs.Common.{◌<◌, length, get_or, set, [], arith}
use Rattle.std.proofs.lemmas.List.{get_or_default, get_or-set_same}
use Rattle.std.proofs.lemmas.Grind.{common_steps}
use Rattle.xw_plain.proofs.Strip.{StripsUnsupported-words, StripsUnsupported-letters, StripsUnsupported-then, SupportsLight-stripped, or_false}
use Rattle.xw_plain.proofs.standing.strip_light.Goals as goal

pub returns-clause-strips : goal.returns-clause-strips
returns-clause-strips c =
    let light = c.args.light in
    let row = c.strip_words-lacks_letters.new.words in
    let below : light < length c.args.words.now = omega (arith, c.requires.rows.lights, c.requires.light) in
    let before = c.index-words-light.result in
    StripsUnsupported-then c.args.board.now c.args.bank.now.words c.args.words.now c.args.letters.now (set c.args.words.now light row) c.args.letters.now (set c.args.words.now light row) c.strip_letters-lacks_words.new.letters c.strip_words-lacks_letters.result c.strip_letters-lacks_words.result
    (StripsUnsupported-words c.args.board.now c.args.bank.now.words c.args.words.now c.args.letters.now light row c.strip_words-lacks_letters.result below
    (grind (arith, common_steps, c.strip_words-lacks_letters.ensures.long))
    (λ choice. rw (← c.light-cells.ensures.cells) (rw (get_or_default c.args.words.now light [] before below) (c.strip_words-lacks_letters.ensures.kept choice)))
    (grind (arith, common_steps, c.strip_words-lacks_letters.ensures.fewer))
    (λ e. grind (arith, common_steps, c.strip_words-lacks_letters.ensures.same e)))
    (StripsUnsupported-letters c.args.board.now c.args.bank.now.words (set c.args.words.now light row) c.args.letters.now c.strip_letters-lacks_words.new.letters light c.strip_letters-lacks_words.result c.requires.light
    (rw (get_or-set_same c.args.words.now light row [] below, ← c.light-cells.ensures.cells) c.strip_letters-lacks_words.ensures))

pub returns-clause-supported : goal.returns-clause-supported
returns-clause-supported c = λ none.
    let both = or_false c.strip_words-lacks_letters.result c.strip_letters-lacks_words.result none in
    let below : c.args.light < length c.args.words.now = omega (arith, c.requires.rows.lights, c.requires.light) in
    SupportsLight-stripped c.args.board.now c.args.bank.now.words c.args.words.now c.args.letters.now c.strip_letters-lacks_words.new.letters c.args.light (get_or c.args.words.now c.args.light c.index-words-light.result) c.strip_words-lacks_letters.new.words c.strip_letters-lacks_words.result below
    (λ choice. rw (← c.light-cells.ensures.cells) (c.strip_words-lacks_letters.ensures.kept choice))
    (rw (← c.light-cells.ensures.cells) c.strip_letters-lacks_words.ensures)
    both.1
