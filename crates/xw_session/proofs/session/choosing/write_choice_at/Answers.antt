use Rattle.std.proofs.Common.{◌≡◌, ◌<◌, List, ℕ, length, get_or, [], ◌∷◌, ap, sym, ◌∙◌, subst}
use Rattle.xw_feas.specs.State.{State}
use Rattle.xw_search.specs.Position.{position_of}
use Rattle.xw_search.specs.Lights.{light_count}
use Rattle.xw_fill.specs.Words.{spellings_at}
use Rattle.xw_lines.specs.Sends.{Sends}
use Rattle.xw_answers.specs.Text.{line_of}
use Rattle.xw_session.specs.Choices.{number_or_done, choice_line}
use Rattle.xw_session.proofs.session.choosing.write_choice_at.Goals as goal

pub known_word-requires-clause-light : goal.known_word-requires-clause-light
known_word-requires-clause-light g c = subst (λ (s : State). c.args.light < light_count (position_of s)) (sym c.fewest_at-fewest.ensures.unchanged) c.requires.tried.light_in

pub known_word-requires-clause-index : goal.known_word-requires-clause-index
known_word-requires-clause-index g c = subst (λ (s : State). c.args.index < length (spellings_at (position_of s) c.args.light)) (sym c.fewest_at-fewest.ensures.unchanged) c.requires.tried.index_in

pub returns-clause-sends : goal.returns-clause-sends
returns-clause-sends g c =
    let before = g.E.Feasible.state c.args.engine.now in
    let word = get_or (spellings_at (position_of before) c.args.light) c.args.index [] in
    let known : c.known_word.result.now ≡ word = c.known_word.ensures ∙ ap (λ (s : State). get_or (spellings_at (position_of s) c.args.light) c.args.index []) c.fewest_at-fewest.ensures.unchanged in
    let line : line_of (c.known_word.result.now ∷ number_or_done c.fewest_at-fewest.result ∷ []) ≡ choice_line before c.args.light word =
    ap (λ letters. line_of (letters ∷ number_or_done c.fewest_at-fewest.result ∷ [])) known ∙ ap (λ fewest. line_of (word ∷ number_or_done fewest ∷ [])) c.fewest_at-fewest.ensures.fewest in
    subst (λ (text : List ℕ). Sends g.W.Sink.transcript g.W.Sink.failures c.args.sink.now c.write_choice.new.sink c.write_choice.result text) line c.write_choice.ensures
