use Rattle.std.proofs.Common.{◌≡◌, ◌≤◌, length, ap, sym, ◌∙◌, subst}
use Rattle.xw_words.specs.Dictionary.{Dictionary, known_words, entry_at}
use Rattle.xw_search.specs.Position.{position_of}
use Rattle.xw_search.specs.Lights.{spelling}
use Rattle.xw_search.proofs.Shaped.{distinct_words}
use Rattle.xw_best.proofs.LeastLemmas.{graded-none, graded-some, graded-reached}
use Rattle.xw_best.proofs.best.grades.grade_of.Goals as goal

pub returns-in-None-clause-active : goal.returns-in-None-clause-active
returns-in-None-clause-active g c grade within active =
    let state = g.E.Feasible.state c.args.engine.now in
    absurd (graded-none state.words (spelling (position_of state) c.args.light) grade (sym c.word_index.ensures ∙ c.in-None.is) active)

pub returns-in-None-clause-reached : goal.returns-in-None-clause-reached
returns-in-None-clause-reached g c grade other active below =
    let state = g.E.Feasible.state c.args.engine.now in
    absurd (graded-none state.words (spelling (position_of state) c.args.light) other (sym c.word_index.ensures ∙ c.in-None.is) active)

pub returns-in-Some-clause-active : goal.returns-in-Some-clause-active
returns-in-Some-clause-active g c =
    let state = g.E.Feasible.state c.args.engine.now in
    let word = spelling (position_of state) c.args.light in
    let is : c.grade.result ≡ (entry_at (known_words state.words (length word)) c.in-Some.index).grade =
    c.grade.ensures.grade ∙ ap (λ (words : Dictionary). (entry_at (known_words words c.size_of.result) c.in-Some.index).grade) c.bank.ensures ∙ ap (λ n. (entry_at (known_words state.words n) c.in-Some.index).grade) c.size_of.ensures in
    λ grade within active. subst (λ n. grade ≤ n) (sym is) (graded-some state.words word c.in-Some.index grade (distinct_words state.words (g.met.E.Feasible.well_formed c.args.engine.now).dictionary) (sym c.word_index.ensures ∙ c.in-Some.is) within active)

pub returns-in-Some-clause-reached : goal.returns-in-Some-clause-reached
returns-in-Some-clause-reached g c =
    let state = g.E.Feasible.state c.args.engine.now in
    let word = spelling (position_of state) c.args.light in
    let is : c.grade.result ≡ (entry_at (known_words state.words (length word)) c.in-Some.index).grade =
    c.grade.ensures.grade ∙ ap (λ (words : Dictionary). (entry_at (known_words words c.size_of.result) c.in-Some.index).grade) c.bank.ensures ∙ ap (λ n. (entry_at (known_words state.words n) c.in-Some.index).grade) c.size_of.ensures in
    λ grade other active below. graded-reached state.words word c.in-Some.index grade other (distinct_words state.words (g.met.E.Feasible.well_formed c.args.engine.now).dictionary) (sym c.word_index.ensures ∙ c.in-Some.is) active (subst (λ n. grade ≤ n) is below)
