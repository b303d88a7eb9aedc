use Rattle.std.proofs.Common.{◌≡◌, ◌<◌, true, false, List, ap, length, subst, sym, ◌∙◌, arith}
use Rattle.std.specs.Prelude.{Option, Some, None, is_some}
use Rattle.std.specs.Iterator.{YieldsFirstBy}
use Rattle.xw_words.specs.Dictionary.{Dictionary, matching_answer}
use Rattle.xw_grid.specs.Grid.{Grid}
use Rattle.xw_feas.specs.Board.{board_of}
use Rattle.xw_feas.specs.Feasible.{base_words_at}
use Rattle.xw_search.proofs.StateLemmas.{in_grid_light}
use Rattle.xw_answers.specs.Text.{pattern_of, light_of}
use Rattle.xw_answers.proofs.BaseWords.{base_words_match, named_pattern}
use Rattle.xw_session.proofs.session.matching.has_base_word.Goals as goal

pub unreachable-requires : goal.unreachable-requires
unreachable-requires g c =
    let state = g.E.Feasible.state c.args.engine.now in
    let within = in_grid_light state.grid c.args.light c.requires.light in
    let formed = (g.met.E.Feasible.well_formed c.args.engine.now).grid in
    let letters = c.bytes.ensures ∙ c.named-pattern.ensures ∙ ap (λ (grid : Grid). pattern_of grid (light_of grid c.name_at.result)) c.grid.ensures ∙ named_pattern state.grid c.args.light c.name_at.result within c.name_at.ensures in
    let found = ap (λ (words : Dictionary). matching_answer words c.bytes.result.now) c.bank.ensures ∙ ap (matching_answer state.words) letters ∙ base_words_match state.grid formed c.args.light within state.words c.requires.not_entered in
    let none = sym c.in-Err.ensures.refused ∙ found in
    cc

-- an iterator gives an item if some are left, and none if none are
some_left : {A B : Type 0} (view : A → B) (left others : List B) (next : Option A) → YieldsFirstBy view (λ items. items) left next others → is_some next ≡ true → 0 < length left
some_left view left others None steps e = cc
some_left view left others (Some item) steps e = omega (arith, ap length steps)

none_left : {A B : Type 0} (view : A → B) (left others : List B) (next : Option A) → YieldsFirstBy view (λ items. items) left next others → is_some next ≡ false → length left ≡ 0
none_left view left others None steps e = ap length steps.0
none_left view left others (Some item) steps e = cc

pub returns-clause-yes : goal.returns-clause-yes
returns-clause-yes g c = λ e.
    let state = g.E.Feasible.state c.args.engine.now in
    let within = in_grid_light state.grid c.args.light c.requires.light in
    let formed = (g.met.E.Feasible.well_formed c.args.engine.now).grid in
    let letters = c.bytes.ensures ∙ c.named-pattern.ensures ∙ ap (λ (grid : Grid). pattern_of grid (light_of grid c.name_at.result)) c.grid.ensures ∙ named_pattern state.grid c.args.light c.name_at.result within c.name_at.ensures in
    let found = ap (λ (words : Dictionary). matching_answer words c.bytes.result.now) c.bank.ensures ∙ ap (matching_answer state.words) letters ∙ base_words_match state.grid formed c.args.light within state.words c.requires.not_entered in
    let base = base_words_at (board_of state.grid) state.words c.args.light in
    let both = sym c.in-Ok.ensures.words ∙ found in
    let same : c.in-Ok.words ≡ base = cc in
    subst (λ words. 0 < length words) same (some_left _ c.in-Ok.words c.next.new.self c.next.result c.next.ensures.steps (sym c.is_some.ensures ∙ e))

pub returns-clause-no : goal.returns-clause-no
returns-clause-no g c = λ e.
    let state = g.E.Feasible.state c.args.engine.now in
    let within = in_grid_light state.grid c.args.light c.requires.light in
    let formed = (g.met.E.Feasible.well_formed c.args.engine.now).grid in
    let letters = c.bytes.ensures ∙ c.named-pattern.ensures ∙ ap (λ (grid : Grid). pattern_of grid (light_of grid c.name_at.result)) c.grid.ensures ∙ named_pattern state.grid c.args.light c.name_at.result within c.name_at.ensures in
    let found = ap (λ (words : Dictionary). matching_answer words c.bytes.result.now) c.bank.ensures ∙ ap (matching_answer state.words) letters ∙ base_words_match state.grid formed c.args.light within state.words c.requires.not_entered in
    let base = base_words_at (board_of state.grid) state.words c.args.light in
    let both = sym c.in-Ok.ensures.words ∙ found in
    let same : c.in-Ok.words ≡ base = cc in
    subst (λ words. length words ≡ 0) same (none_left _ c.in-Ok.words c.next.new.self c.next.result c.next.ensures.steps (sym c.is_some.ensures ∙ e))
