use Rattle.std.proofs.Common.{◌≡◌, ◌-◌, ◌++◌, length, map, take, drop, codes, arith}
use Rattle.std.specs.Prelude.{Ok, Err}
use Rattle.std.proofs.lemmas.Result.{err_from_is_err_and}
use Rattle.xw_answers.specs.Text.{line_of}
use Rattle.xw_answers.specs.Token.{token_bytes}
use Rattle.xw_answers.proofs.Sending.{line_of_one, line_of_more}
use Rattle.xw_answers.proofs.Gathering.{gathers-then, gathers-stops}
use Rattle.xw_answers.proofs.answer_line.AnswerLine.+put_line.Goals as goal

pub returns-in_err-put_token-in-len1 : goal.returns-in_err-put_token-in-len1
returns-in_err-put_token-in-len1 g t c =
    let e = err_from_is_err_and c.from_residual.result c.from_residual.ensures.1 in
    let one : length c.args.words.now ≡ 1 = omega (arith, c.in-len1.len_at_least, c.in-len1.len_below) in
    rw (e.1, line_of_one token_bytes c.args.words.now c.word-item.result c.word-item.is one)
    (gathers-stops g.W.Sink.transcript g.W.Sink.failures c.args.sink.now c.put_token.new.sink c.args.self.now (token_bytes c.word-item.result) (codes "\n") c.in_err-put_token-in-len1.ensures)

pub returns-in_ok-put_token-in-len1 : goal.returns-in_ok-put_token-in-len1
returns-in_ok-put_token-in-len1 g t c =
    let one : length c.args.words.now ≡ 1 = omega (arith, c.in-len1.len_at_least, c.in-len1.len_below) in
    rw (line_of_one token_bytes c.args.words.now c.word-item.result c.word-item.is one)
    (gathers-then g.W.Sink.transcript g.W.Sink.failures (Unit {0}) c.args.sink.now c.put_token.new.sink c.put_byte-in-len1.new.sink c.args.self.now c.put_token.new.self c.put_byte-in-len1.new.self
    (token_bytes c.word-item.result) (codes "\n") c.put_byte-in-len1.result c.in_ok-put_token-in-len1.ensures c.put_byte-in-len1.ensures)

pub returns-in_err-put_token-in-len1-up : goal.returns-in_err-put_token-in-len1-up
returns-in_err-put_token-in-len1-up g t c =
    let e = err_from_is_err_and c.from_residual-in_err-put_token-in-len1-up.result c.from_residual-in_err-put_token-in-len1-up.ensures.1 in
    let words = c.args.words.now in
    let word = token_bytes c.word-item-2.result in
    rw (e.1, line_of_more token_bytes words c.word-item-2.result c.word-item-2.is c.in-len1-up.len_at_least)
    (gathers-stops g.W.Sink.transcript g.W.Sink.failures c.args.sink.now c.put_token-in-len1-up.new.sink c.args.self.now (word ++ codes " ") (line_of (map token_bytes (take (length words - 1) (drop 1 words))))
    (gathers-stops g.W.Sink.transcript g.W.Sink.failures c.args.sink.now c.put_token-in-len1-up.new.sink c.args.self.now word (codes " ") c.in_err-put_token-in-len1-up.ensures))

pub returns-in_err-put_byte-in-len1-up : goal.returns-in_err-put_byte-in-len1-up
returns-in_err-put_byte-in-len1-up g t c =
    let e = err_from_is_err_and c.from_residual-in_err-put_byte-in-len1-up.result c.from_residual-in_err-put_byte-in-len1-up.ensures.1 in
    let words = c.args.words.now in
    let word = token_bytes c.word-item-2.result in
    rw (e.1, line_of_more token_bytes words c.word-item-2.result c.word-item-2.is c.in-len1-up.len_at_least)
    (gathers-stops g.W.Sink.transcript g.W.Sink.failures c.args.sink.now c.put_byte-in-len1-up.new.sink c.args.self.now (word ++ codes " ") (line_of (map token_bytes (take (length words - 1) (drop 1 words))))
    (gathers-then g.W.Sink.transcript g.W.Sink.failures {T = Unit {0}} {E = Unit {0}} (Unit {0}) c.args.sink.now c.put_token-in-len1-up.new.sink c.put_byte-in-len1-up.new.sink c.args.self.now c.put_token-in-len1-up.new.self c.put_token-in-len1-up.new.self
    word (codes " ") (Err (tt {0})) c.in_ok-put_token-in-len1-up.ensures c.in_err-put_byte-in-len1-up.ensures))

pub returns-in_ok-put_byte-in-len1-up : goal.returns-in_ok-put_byte-in-len1-up
returns-in_ok-put_byte-in-len1-up g t c =
    let words = c.args.words.now in
    let word = token_bytes c.word-item-2.result in
    rw (line_of_more token_bytes words c.word-item-2.result c.word-item-2.is c.in-len1-up.len_at_least)
    (gathers-then g.W.Sink.transcript g.W.Sink.failures (Unit {0}) c.args.sink.now c.put_byte-in-len1-up.new.sink c.put_line.new.sink c.args.self.now c.put_byte-in-len1-up.new.self c.put_line.new.self
    (word ++ codes " ") (line_of (map token_bytes (take (length words - 1) (drop 1 words)))) c.put_line.result
    (gathers-then g.W.Sink.transcript g.W.Sink.failures {T = Unit {0}} {E = Unit {0}} (Unit {0}) c.args.sink.now c.put_token-in-len1-up.new.sink c.put_byte-in-len1-up.new.sink c.args.self.now c.put_token-in-len1-up.new.self c.put_byte-in-len1-up.new.self
    word (codes " ") (Ok (tt {0})) c.in_ok-put_token-in-len1-up.ensures c.in_ok-put_byte-in-len1-up.ensures) c.put_line.ensures)
