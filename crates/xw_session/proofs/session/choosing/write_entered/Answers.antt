use Rattle.std.proofs.Common.{◌≡◌, ◌<◌, ◌≤◌, ◌∷◌, [], List, ℕ, None, length, take, ap, sym, ◌∙◌, subst, arith, append-nil}
use Rattle.std.specs.Prelude.{flat_map}
use Rattle.std.proofs.lemmas.List.{take_all}
use Rattle.xw_grid.specs.Grid.{Grid}
use Rattle.xw_search.specs.Position.{position_of}
use Rattle.xw_search.specs.FeasibleWords.{feasible_words}
use Rattle.xw_search.specs.Lights.{spelling}
use Rattle.xw_fill.specs.Choices.{fewest_after}
use Rattle.xw_search.proofs.StateLemmas.{in_grid_light}
use Rattle.xw_fill.proofs.ChoiceLemmas.{entered_after}
use Rattle.xw_lines.specs.Sends.{Sends}
use Rattle.xw_answers.specs.Text.{line_of, pattern_of, light_of}
use Rattle.xw_session.specs.Choices.{number_or_done, choice_line, choice_lines}
use Rattle.xw_answers.proofs.BaseWords.{named_pattern, entered_pattern}
use Rattle.xw_session.proofs.Choosing.{one_word}
use Rattle.xw_session.proofs.session.choosing.write_entered.Goals as goal

pub returns : goal.returns
returns g c =
    let state = g.E.Feasible.state c.args.engine.now in
    let light = c.args.light in
    let formed = g.met.E.Feasible.well_formed c.args.engine.now in
    let within = in_grid_light state.grid light c.requires.light in
    let word : List ℕ = spelling (position_of state) light in
    let some : 0 < length (feasible_words (position_of state) light) = omega (arith, c.if-word_count-eq0.false, c.word_count.ensures) in
    let enough : 1 ≤ c.args.most = omega (arith, c.if-most-eq0.false) in
    let all : choice_lines state light None c.args.most ≡ choice_line state light word =
    ap (λ words. flat_map (choice_line state light) (take c.args.most words)) (one_word (position_of state) light c.requires.light c.requires.entered some)
    ∙ ap (flat_map (choice_line state light)) (take_all c.args.most (word ∷ []) (omega (arith, enough)))
    ∙ append-nil (choice_line state light word) in
    let letters : c.bytes.result.now ≡ word =
    c.bytes.ensures ∙ c.named-word.ensures ∙ ap (λ (grid : Grid). pattern_of grid (light_of grid c.name_at.result)) c.grid.ensures
    ∙ named_pattern state.grid light c.name_at.result within c.name_at.ensures ∙ entered_pattern state.grid formed.grid light within c.requires.entered in
    let count : number_or_done c.fewest_words.result ≡ number_or_done (fewest_after state light word) =
    ap number_or_done (c.fewest_words.ensures ∙ sym (entered_after state light formed c.requires.light c.requires.entered)) in
    let line : line_of (c.bytes.result.now ∷ number_or_done c.fewest_words.result ∷ []) ≡ choice_lines state light None c.args.most =
    ap (λ first. line_of (first ∷ number_or_done c.fewest_words.result ∷ [])) letters ∙ ap (λ last. line_of (word ∷ last ∷ [])) count ∙ sym all in
    subst (λ (text : List ℕ). Sends g.W.Sink.transcript g.W.Sink.failures c.args.sink.now c.write_entered_choice.new.sink c.write_entered_choice.result text) line c.write_entered_choice.ensures
