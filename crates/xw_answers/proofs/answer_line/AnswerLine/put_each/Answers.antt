use Rattle.std.proofs.Common.{◌≡◌, take, subst, arith}
use Rattle.std.specs.Prelude.{Ok}
use Rattle.std.proofs.lemmas.Result.{err_from_is_err_and}
use Rattle.std.proofs.lemmas.List.{take_all}
use Rattle.xw_lines.specs.Sends.{Gathers}
use Rattle.xw_answers.proofs.Gathering.{gathers-nothing, letter_gathered, letter_stops}
use Rattle.xw_answers.proofs.answer_line.AnswerLine.put_each.Goals as goal

pub loop-letter-init : goal.loop-letter-init
loop-letter-init g c = gathers-nothing g.W.Sink.transcript g.W.Sink.failures (Unit {0}) c.args.sink.now c.args.self.now

pub loop-letter-preserved : goal.loop-letter-preserved
loop-letter-preserved g c =
    letter_gathered g.W.Sink.transcript g.W.Sink.failures c.args.letters.now c.loop-letter.letter-index c.byte.result _ c.loop-letter-test.true c.letter-item.is c.byte.ensures.code
    c.args.sink.now c.loop-letter.sink c.put_byte.new.sink c.args.self.now c.loop-letter.self c.put_byte.new.self c.loop-letter.invariant c.in_ok-put_byte.ensures

pub returns-in_err-put_byte : goal.returns-in_err-put_byte
returns-in_err-put_byte g c =
    let e = err_from_is_err_and c.from_residual.result c.from_residual.ensures.1 in
    rw e.1 (letter_stops g.W.Sink.transcript g.W.Sink.failures c.args.letters.now c.loop-letter.letter-index c.byte.result _ c.loop-letter-test.true c.letter-item.is c.byte.ensures.code
    c.args.sink.now c.loop-letter.sink c.put_byte.new.sink c.args.self.now c.loop-letter.self c.loop-letter.invariant c.in_err-put_byte.ensures)

pub returns : goal.returns
returns g c =
    let all : take c.loop-letter.letter-index c.args.letters.now ≡ c.args.letters.now = take_all _ _ (omega (arith, c.loop-letter-test.false)) in
    subst (λ text. Gathers {T = Unit {0}} {E = Unit {0}} g.W.Sink.transcript g.W.Sink.failures c.args.sink.now c.loop-letter.sink c.args.self.now c.loop-letter.self (Ok (tt {0})) text) all c.loop-letter.invariant
