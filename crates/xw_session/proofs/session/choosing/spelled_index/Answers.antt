use Rattle.std.proofs.Common.{Some, None, length, map, ap, sym, ◌∙◌, arith}
use Rattle.std.proofs.lemmas.Bool.{ne_eqb, eq-eqb}
use Rattle.xw_letters.specs.Letter.{folded}
use Rattle.xw_words.specs.Dictionary.{Dictionary, index_of_word}
use Rattle.xw_feas.specs.Board.{board_of, light_at}
use Rattle.xw_search.proofs.Shaped.{shaped}
use Rattle.xw_search.proofs.StateLemmas.{in_grid_light, light_size}
use Rattle.xw_session.proofs.Choosing.{of_other_length, of_this_length}
use Rattle.xw_session.proofs.session.choosing.spelled_index.Goals as goal

pub returns-then-word-light_at : goal.returns-then-word-light_at
returns-then-word-light_at g c =
    let state = g.E.Feasible.state c.args.engine.now in
    let word = c.args.word.now in
    let size = light_size state.grid c.args.light c.light_at.result (in_grid_light state.grid c.args.light c.requires.light) c.light_at.ensures in
    of_other_length state c.args.light word (sym c.in_default.ensures) (ne_eqb (length word) (length (light_at (board_of state.grid) c.args.light)) (λ e. c.if-word-light_at.true (e ∙ size)))

pub spell-requires-clause-room : goal.spell-requires-clause-room
spell-requires-clause-room g c =
    let state = g.E.Feasible.state c.args.engine.now in
    let size = light_size state.grid c.args.light c.light_at.result (in_grid_light state.grid c.args.light c.requires.light) c.light_at.ensures in
    let short = (shaped (board_of state.grid) (g.met.E.Feasible.well_formed c.args.engine.now).board).short c.args.light in
    omega (arith, short, size, c.if-word-light_at.false)

pub returns-in-Some-find : goal.returns-in-Some-find
returns-in-Some-find g c =
    let state = g.E.Feasible.state c.args.engine.now in
    let word = c.args.word.now in
    let size = light_size state.grid c.args.light c.light_at.result (in_grid_light state.grid c.args.light c.requires.light) c.light_at.ensures in
    of_this_length state c.args.light word (sym c.in_default.ensures) (eq-eqb (length word) (length (light_at (board_of state.grid) c.args.light)) (c.if-word-light_at.false ∙ sym size)) (Some c.in-Some-find.index)
    (c.in-Some-find.ensures ∙ ap (index_of_word c.bank.result.now.words) c.spell.ensures ∙ ap (λ (words : Dictionary). index_of_word words (map folded word)) c.bank.ensures)

pub returns-in-None : goal.returns-in-None
returns-in-None g c =
    let state = g.E.Feasible.state c.args.engine.now in
    let word = c.args.word.now in
    let size = light_size state.grid c.args.light c.light_at.result (in_grid_light state.grid c.args.light c.requires.light) c.light_at.ensures in
    of_this_length state c.args.light word (sym c.in_default.ensures) (eq-eqb (length word) (length (light_at (board_of state.grid) c.args.light)) (c.if-word-light_at.false ∙ sym size)) None
    (c.in-None.ensures ∙ ap (index_of_word c.bank.result.now.words) c.spell.ensures ∙ ap (λ (words : Dictionary). index_of_word words (map folded word)) c.bank.ensures)
