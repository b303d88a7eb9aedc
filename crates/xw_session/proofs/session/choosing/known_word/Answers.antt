use Rattle.std.proofs.Common.{◌≡◌, length, ap, sym, ◌∙◌, [], ◌<◌, arith}
use Rattle.std.proofs.lemmas.List.{length-map, get_or-map}
use Rattle.xw_words.specs.Dictionary.{Dictionary, Entry, known_words, entry_at, no_entry}
use Rattle.xw_feas.specs.Board.{board_of, light_at}
use Rattle.xw_search.proofs.StateLemmas.{in_grid_light, light_size}
use Rattle.xw_session.proofs.session.choosing.known_word.Goals as goal

pub word-requires : goal.word-requires
word-requires g c =
    let state = g.E.Feasible.state c.args.engine.now in
    let size = light_size state.grid c.args.light c.light_at-size.result (in_grid_light state.grid c.args.light c.requires.light) c.light_at-size.ensures in
    let known : length (known_words c.bank.result.now.words c.light_at-size.result.size) ≡ length (known_words state.words c.light_at-size.result.size) = ap (λ (words : Dictionary). length (known_words words c.light_at-size.result.size)) c.bank.ensures in
    let many = length-map _ (λ (w : Entry). w.word) ∙ ap (λ n. length (known_words state.words n)) size in
    omega (arith, c.requires.index, many, known)

pub returns : goal.returns
returns g c =
    let state = g.E.Feasible.state c.args.engine.now in
    let size = light_size state.grid c.args.light c.light_at-size.result (in_grid_light state.grid c.args.light c.requires.light) c.light_at-size.ensures in
    let known = known_words state.words (length (light_at (board_of state.grid) c.args.light)) in
    let there : c.args.index < length known = omega (arith, c.requires.index, length-map known (λ (w : Entry). w.word)) in
    c.word.ensures.word
    ∙ ap (λ (words : Dictionary). (entry_at (known_words words c.light_at-size.result.size) c.args.index).word) c.bank.ensures
    ∙ ap (λ n. (entry_at (known_words state.words n) c.args.index).word) (sym size)
    ∙ sym (get_or-map (λ (w : Entry). w.word) known c.args.index no_entry [] there)
