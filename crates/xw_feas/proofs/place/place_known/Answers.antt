use Rattle.std.proofs.Common.{◌≡◌, ◌<◌, length, get_or, sym, ap, ◌∙◌, subst}
use Rattle.std.specs.Prelude.{Ok}
use Rattle.xw_words.specs.Dictionary.{known_words, entry_at}
use Rattle.xw_grid.specs.declared.lights.Light.{Light}
use Rattle.xw_grid.specs.Light.{cells_of, no_light}
use Rattle.xw_feas.specs.State.{State, light_of, with_letters}
use Rattle.xw_feas.proofs.PlacingLemmas.{known_accepted}
use Rattle.xw_feas.proofs.place.place_known.Goals as goal

pub word-requires : goal.word-requires
word-requires c =
    let state : State = record { grid = c.args.grid.now; words = c.args.bank.now.words } in
    let found : c.at-found.result ≡ light_of state c.args.light = c.at-found.ensures ∙ ap (λ lights. get_or lights c.args.light no_light) c.requires.lights in
    subst (λ (light : Light). c.args.index < length (known_words c.args.bank.now.words light.size)) (sym found) c.requires.index

pub returns-clause-placed : goal.returns-clause-placed
returns-clause-placed c =
    let grid = c.args.grid.now in
    let words = c.args.bank.now.words in
    let state : State = record { grid = grid; words = words } in
    let found : c.at-found.result ≡ light_of state c.args.light = c.at-found.ensures ∙ ap (λ lights. get_or lights c.args.light no_light) c.requires.lights in
    let word : c.word.result.now ≡ (entry_at (known_words words (light_of state c.args.light).size) c.args.index).word =
    c.word.ensures.word ∙ ap (λ (light : Light). (entry_at (known_words words light.size) c.args.index).word) found in
    known_accepted state c.args.light c.args.index c.well_formed-2.ensures c.requires.light c.requires.index
    ∙ ap Ok (sym (c.enter_letters.ensures.letters ∙ ap (λ (light : Light). with_letters grid (cells_of light) c.word.result.now) found ∙ ap (with_letters grid (cells_of (light_of state c.args.light))) word))
