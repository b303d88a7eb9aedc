use Rattle.std.proofs.Common.{List, [], ◌∷◌, ◌++◌, map, sym, ap, ◌∙◌}
use Rattle.xw_grid.specs.Grid.{Grid}
use Rattle.xw_words.specs.Dictionary.{with_least}
use Rattle.xw_feas.proofs.SnapshotLemmas.{with_least-same}
use Rattle.xw_plain.specs.Plain.{state_of}
use Rattle.xw_plain.proofs.Levels.{taken_levels}
use Rattle.xw_plain.proofs.plain.Plain.take_back.Goals as goal

pub returns-in-Some-clause-back : goal.returns-in-Some-clause-back
returns-in-Some-clause-back c =
    let engine = c.args.self.now in
    let words = engine.position.bank.words in
    let same = ap (λ n. with_least n words) c.least-least.ensures.least ∙ with_least-same (state_of engine) engine.position.formed in
    let now = state_of c.take_state.new.self in
    taken_levels engine.levels.items c.pop.new.self.items c.in-Some.grid words now c.in-Some.ensures.items (c.take_state.ensures.now ∙ ap (λ words. record { grid = c.in-Some.grid; words = words }) same)
    ∙ ap (λ (rest : List Grid). map (λ grid. record { grid = grid; words = now.words }) rest ++ now ∷ []) (sym (ap (λ vec. vec.items) c.take_state.ensures.levels))
