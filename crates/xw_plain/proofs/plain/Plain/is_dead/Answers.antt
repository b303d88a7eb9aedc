use Rattle.std.proofs.Common.{sym, ◌∙◌}
use Rattle.xw_feas.specs.AnswersOf.{answers_of}
use Rattle.xw_feas.specs.Board.{board_of}
use Rattle.xw_plain.specs.Plain.{state_of}
use Rattle.xw_plain.proofs.Levels.{dead_from, alive_from, is_zero, not_zero}
use Rattle.xw_plain.proofs.plain.Plain.is_dead.Goals as goal

pub returns-clause-dead : goal.returns-clause-dead
returns-clause-dead c told =
    let engine = c.args.self.now in
    dead_from (state_of engine) (answers_of (board_of engine.position.grid) engine.position.bank.words engine.words.items engine.letters.items) c.args.light engine.answered c.requires
    (sym c.word_count_at.ensures ∙ is_zero c.word_count_at.result told)

pub returns-clause-alive : goal.returns-clause-alive
returns-clause-alive c told watch =
    let engine = c.args.self.now in
    alive_from (state_of engine) (answers_of (board_of engine.position.grid) engine.position.bank.words engine.words.items engine.letters.items) c.args.light engine.answered
    (λ none. not_zero c.word_count_at.result told (c.word_count_at.ensures ∙ none))
