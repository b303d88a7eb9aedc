use Rattle.std.proofs.Common.{◌<◌, length, Some, sym, ap, ◌∙◌, arith}
use Rattle.xw_feas.specs.Board.{board_of}
use Rattle.xw_feas.proofs.BoardLemmas.{length-lights}
use Rattle.xw_feas.proofs.WordsLemmas.{words_from_none, words_from_entered, words_from_listed}
use Rattle.xw_feas.proofs.word_iter.WordIterIterator.next.Goals as goal

pub returns-in-None-clause-steps : goal.returns-in-None-clause-steps
returns-in-None-clause-steps g c =
    let walk = c.self.inside in
    let state = g.E.Feasible.state walk.engine.now in
    let answers = g.E.Feasible.answers walk.engine.now in
    let below : walk.light < length (board_of state.grid).lights = omega (arith, c.self.invariant, length-lights state.grid) in
    let none = words_from_none (board_of state.grid) state.words answers (g.met.E.Feasible.exact walk.engine.now) walk.light walk.from below (sym c.next_word_at.ensures ∙ c.in-None.is) in
    let left = sym c.self.view_is ∙ none in
    (left, left)

pub returns-in-Some-Entered-clause-steps : goal.returns-in-Some-Entered-clause-steps
returns-in-Some-Entered-clause-steps g c =
    let walk = c.self.inside in
    let state = g.E.Feasible.state walk.engine.now in
    let answers = g.E.Feasible.answers walk.engine.now in
    let below : walk.light < length (board_of state.grid).lights = omega (arith, c.self.invariant, length-lights state.grid) in
    let first = words_from_entered (board_of state.grid) state.words answers (g.met.E.Feasible.exact walk.engine.now) walk.light walk.from below (sym c.next_word_at.ensures ∙ c.in-Some-Entered.is ∙ ap Some c.in-Some-Entered.field-0-is) in
    sym c.self.view_is ∙ rw c.entries_in.ensures first

pub returns-in-Some-Entered-clause-goes : goal.returns-in-Some-Entered-clause-goes
returns-in-Some-Entered-clause-goes g c =
    let fewer = ap length (returns-in-Some-Entered-clause-steps g c) in
    record { on = λ _. (tt, tt, omega (arith, fewer)); keeps = tt; rests = λ _. tt }

pub returns-in-Some-Listed-clause-steps : goal.returns-in-Some-Listed-clause-steps
returns-in-Some-Listed-clause-steps g c =
    let walk = c.self.inside in
    let state = g.E.Feasible.state walk.engine.now in
    let answers = g.E.Feasible.answers walk.engine.now in
    let listed = words_from_listed (board_of state.grid) state.words answers walk.light walk.from c.in-Some-Listed.index (sym c.next_word_at.ensures ∙ c.in-Some-Listed.is ∙ ap Some c.in-Some-Listed.field-0-is) in
    sym c.self.view_is ∙ rw c.word_in-word.ensures.word listed.1

pub returns-in-Some-Listed-clause-goes : goal.returns-in-Some-Listed-clause-goes
returns-in-Some-Listed-clause-goes g c =
    let fewer = ap length (returns-in-Some-Listed-clause-steps g c) in
    record { on = λ _. (tt, tt, omega (arith, fewer)); keeps = tt; rests = λ _. tt }
