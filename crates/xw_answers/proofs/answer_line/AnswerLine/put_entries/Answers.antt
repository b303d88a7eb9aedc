use Rattle.std.proofs.Common.{◌<◌, length, refl, arith}
use Rattle.std.proofs.lemmas.List.{get_or_default}
use Rattle.std.proofs.lemmas.Result.{err_from_is_err_and}
use Rattle.xw_answers.proofs.Gathering.{letter_gathered, letter_stops}
use Rattle.xw_answers.proofs.answer_line.AnswerLine.put_entries.Goals as goal

pub loop-k-preserved : goal.loop-k-preserved
loop-k-preserved g c =
    let within : c.loop-k.k < length c.args.entries.now = omega (arith, c.loop-k-test.true, c.len-k-end.ensures) in
    letter_gathered g.W.Sink.transcript g.W.Sink.failures c.args.entries.now c.loop-k.k _ _ within (get_or_default c.args.entries.now c.loop-k.k 0 _ within) refl
    c.args.sink.now c.loop-k.sink c.put_entry.new.sink c.args.self.now c.loop-k.self c.put_entry.new.self c.loop-k.invariant c.in_ok-put_entry.ensures

pub returns-in_err-put_entry : goal.returns-in_err-put_entry
returns-in_err-put_entry g c =
    let e = err_from_is_err_and c.from_residual.result c.from_residual.ensures.1 in
    let within : c.loop-k.k < length c.args.entries.now = omega (arith, c.loop-k-test.true, c.len-k-end.ensures) in
    rw e.1 (letter_stops g.W.Sink.transcript g.W.Sink.failures c.args.entries.now c.loop-k.k _ _ within (get_or_default c.args.entries.now c.loop-k.k 0 _ within) refl
    c.args.sink.now c.loop-k.sink c.put_entry.new.sink c.args.self.now c.loop-k.self c.loop-k.invariant c.in_err-put_entry.ensures)
