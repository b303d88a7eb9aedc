use Rattle.std.proofs.Common.{◌≡◌, ℕ, ◌++◌, ◌∷◌, [], ◌+◌, ◌-◌, get_or, take, refl, sym, ◌∙◌, ap, subst, append_assoc, append-nil}
use Rattle.std.specs.Prelude.{flat_map, IfSome}
use Rattle.std.proofs.lemmas.Result.{err_from_is_err_and}
use Rattle.xw_feas.specs.State.{State}
use Rattle.xw_search.specs.Position.{position_of}
use Rattle.xw_search.specs.FeasibleWords.{feasible_words}
use Rattle.xw_fill.specs.Words.{spellings_at, words_left, IsNextWord, HasNoMore}
use Rattle.xw_fill.specs.Choices.{fewest_after}
use Rattle.xw_fill.specs.Suggesting.{IsTriedAt}
use Rattle.xw_search.proofs.Shaped.{distinct_words}
use Rattle.xw_fill.proofs.WordsLemmas.{feasible_known_words}
use Rattle.xw_lines.specs.Device.{Begins, HasFailed}
use Rattle.xw_lines.proofs.SendsLemmas.{next_stops}
use Rattle.xw_session.specs.Choices.{choice_line, choice_lines}
use Rattle.xw_session.proofs.Choosing.{words_from_index, next_left, none_left, take_next, take_none, one_more, no_more}
use Rattle.xw_session.proofs.session.choosing.write_choices.Goals as goal

pub loop-left-init : goal.loop-left-init
loop-left-init g c =
    let start = g.E.Feasible.state c.args.engine.now in
    let known : feasible_words (position_of start) c.args.light ≡ words_left (position_of start) c.args.light 0 =
    feasible_known_words (position_of start) c.args.light (distinct_words start.words (g.met.E.Feasible.well_formed c.args.engine.now).dictionary) c.requires.light c.requires.not_entered in (
      [],
      record {
        same = refl;
        transcript = sym (append-nil (g.W.Sink.transcript c.args.sink.now));
        left = ap (λ words. flat_map (choice_line start c.args.light) (take c.args.most words)) (words_from_index start c.args.light c.args.first known c.requires.not_entered ∙ ap (words_left (position_of start) c.args.light) (sym c.unwrap_or-from.ensures));
        quiet = refl;
      },
    )

pub loop-left-preserved : goal.loop-left-preserved
loop-left-preserved g c =
    let start = g.E.Feasible.state c.args.engine.now in
    let light = c.args.light in
    let index = c.in-Some.index in
    let sent = c.loop-left.invariant.0 in
    let so_far = c.loop-left.invariant.1 in
    let word = get_or (spellings_at (position_of start) light) index [] in
    let next = subst (λ (s : State). IsNextWord (position_of s) light c.loop-left.from index) so_far.same c.in-Some.ensures in
    let left : take c.loop-left.left (words_left (position_of start) light c.loop-left.from) ≡ word ∷ take (c.loop-left.left - 1) (words_left (position_of start) light (index + 1)) =
    ap (take c.loop-left.left) (next_left (position_of start) light c.loop-left.from index next) ∙ take_next c.loop-left.left word (words_left (position_of start) light (index + 1)) c.loop-left-test.true in
    let wrote = c.in_ok-write_choice_at.ensures.sends in
    let line = wrote.0 ∙ ap (λ (s : State). g.W.Sink.transcript c.loop-left.sink ++ choice_line s light (get_or (spellings_at (position_of s) light) index [])) so_far.same in (
      sent ++ choice_line start light word,
      record {
        same = c.write_choice_at.ensures.unchanged ∙ so_far.same;
        transcript = line ∙ ap (λ text. text ++ choice_line start light word) so_far.transcript ∙ append_assoc (g.W.Sink.transcript c.args.sink.now) sent (choice_line start light word);
        left = one_more (choice_line start light) (choice_lines start light c.args.first c.args.most) sent _ _ word so_far.left left;
        quiet = wrote.1 ∙ so_far.quiet;
      },
    )

pub returns-in_default-clause-sends : goal.returns-in_default-clause-sends
returns-in_default-clause-sends g c =
    let start = g.E.Feasible.state c.args.engine.now in
    let light = c.args.light in
    let so_far = c.loop-left.invariant.1 in
    let none = subst (λ (s : State). HasNoMore (position_of s) light c.loop-left.from) so_far.same c.in_default.ensures in
    let all = no_more (choice_line start light) (choice_lines start light c.args.first c.args.most) c.loop-left.invariant.0 _ so_far.left (take_none c.loop-left.left (words_left (position_of start) light c.loop-left.from) (none_left (position_of start) light c.loop-left.from none)) in
    (so_far.transcript ∙ ap (λ text. g.W.Sink.transcript c.args.sink.now ++ text) (sym all), so_far.quiet)

pub returns-in_err-write_choice_at-clause-sends : goal.returns-in_err-write_choice_at-clause-sends
returns-in_err-write_choice_at-clause-sends g c =
    let e = err_from_is_err_and c.from_residual.result c.from_residual.ensures.1 in
    let start = g.E.Feasible.state c.args.engine.now in
    let light = c.args.light in
    let index = c.in-Some.index in
    let so_far = c.loop-left.invariant.1 in
    let word = get_or (spellings_at (position_of start) light) index [] in
    let next = subst (λ (s : State). IsNextWord (position_of s) light c.loop-left.from index) so_far.same c.in-Some.ensures in
    let left : take c.loop-left.left (words_left (position_of start) light c.loop-left.from) ≡ word ∷ take (c.loop-left.left - 1) (words_left (position_of start) light (index + 1)) =
    ap (take c.loop-left.left) (next_left (position_of start) light c.loop-left.from index next) ∙ take_next c.loop-left.left word (words_left (position_of start) light (index + 1)) c.loop-left-test.true in
    let stops = subst (λ (s : State). Begins (g.W.Sink.transcript c.loop-left.sink) (g.W.Sink.transcript c.write_choice_at.new.sink) (choice_line s light (get_or (spellings_at (position_of s) light) index [])) × HasFailed (g.W.Sink.failures c.loop-left.sink) (g.W.Sink.failures c.write_choice_at.new.sink)) so_far.same c.in_err-write_choice_at.ensures.sends in
    rw e.1 (next_stops g.W.Sink.transcript g.W.Sink.failures (choice_line start light) c.args.sink.now c.loop-left.sink c.write_choice_at.new.sink c.loop-left.invariant.0 (choice_lines start light c.args.first c.args.most) _ _ word so_far.transcript so_far.quiet so_far.left left stops)

pub write_choice_at-requires-clause-any : goal.write_choice_at-requires-clause-any
write_choice_at-requires-clause-any g c =
    let light = c.args.light in
    subst (λ (s : State). IfSome c.args.any (λ fewest. (index : ℕ) → IsTriedAt (position_of s) light index → fewest ≡ fewest_after s light (get_or (spellings_at (position_of s) light) index [])))
    (sym c.loop-left.invariant.1.same) c.requires.any
