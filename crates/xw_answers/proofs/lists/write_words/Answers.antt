use Rattle.std.proofs.Common.{◌++◌, ◌∙◌}
use Rattle.std.proofs.lemmas.Result.{err_from_is_err_and}
use Rattle.xw_answers.specs.Text.{word_line}
use Rattle.xw_answers.proofs.Gathering.{next_gathered, next_gathered_stops, gathered_all}
use Rattle.xw_answers.proofs.lists.write_words.Goals as goal

pub loop-word-preserved : goal.loop-word-preserved
loop-word-preserved g c =
    let sent = c.loop-word.invariant.0 in
    let kept = c.loop-word.invariant.1 in
    let put = c.in_ok-put_word.ensures in
    let more = next_gathered g.W.Sink.transcript g.W.Sink.failures word_line c.args.sink.now c.loop-word.sink c.put_word.new.sink sent put.0 _ c.loop-word.lines c.put_word.new.self c.loop-word.word-iterator c.next.new.self c.in-Some.word.now kept.transcript kept.left c.in-Some.ensures.steps put.1.transcript put.1.parts in
    (sent ++ put.0, record { transcript = more.0; left = more.1; quiet = put.1.quiet ∙ kept.quiet })

pub returns-in_err-put_word : goal.returns-in_err-put_word
returns-in_err-put_word g c =
    let e = err_from_is_err_and c.from_residual.result c.from_residual.ensures.1 in
    let kept = c.loop-word.invariant.1 in
    rw e.1 (next_gathered_stops g.W.Sink.transcript g.W.Sink.failures word_line c.args.sink.now c.loop-word.sink c.put_word.new.sink c.loop-word.invariant.0 _ c.loop-word.lines c.loop-word.word-iterator c.next.new.self c.in-Some.word.now kept.transcript kept.quiet kept.left c.in-Some.ensures.steps c.in_err-put_word.ensures)

pub returns : goal.returns
returns g c =
    let kept = c.loop-word.invariant.1 in
    gathered_all g.W.Sink.transcript g.W.Sink.failures word_line c.args.sink.now c.loop-word.sink c.send.new.sink c.send.result c.loop-word.invariant.0 _ c.loop-word.lines c.loop-word.word-iterator kept.transcript kept.quiet kept.left c.in-None.ensures.steps.0 c.send.ensures.sends
