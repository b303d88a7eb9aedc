use Rattle.std.proofs.Common.{sym, refl, ◌∙◌}
use Rattle.std.proofs.lemmas.Result.{err_from_is_err_and}
use Rattle.xw_words.specs.Dictionary.{known_words, entry_at}
use Rattle.xw_lines.proofs.SendsLemmas.{sends-then, stops-within}
use Rattle.xw_answers.proofs.Recording.{regrade_lines, sends_as, stops_as}
use Rattle.xw_answers.proofs.record.write_regraded_at.Goals as goal

pub returns-in_err-write_word_command : goal.returns-in_err-write_word_command
returns-in_err-write_word_command g c =
    let e = err_from_is_err_and c.from_residual.result c.from_residual.ensures.1 in
    let entry = entry_at (known_words c.args.bank.now.words c.args.count) c.args.index in
    let lines = regrade_lines entry c.word-word.result.now entry.grade c.word-word.ensures.word refl (sym c.is_regraded.ensures ∙ c.if-not-is_regraded.false) in
    rw e.1 (stops_as g.W.Sink.transcript g.W.Sink.failures _ _ _ _ lines (stops-within g.W.Sink.transcript g.W.Sink.failures _ _ _ _ c.in_err-write_word_command.ensures))

pub returns : goal.returns
returns g c =
    let entry = entry_at (known_words c.args.bank.now.words c.args.count) c.args.index in
    let lines = regrade_lines entry c.word-word.result.now c.grade.result c.word-word.ensures.word c.grade.ensures.grade (sym c.is_regraded.ensures ∙ c.if-not-is_regraded.false) in
    sends_as g.W.Sink.transcript g.W.Sink.failures _ _ _ _ _ lines (sends-then g.W.Sink.transcript g.W.Sink.failures _ _ _ _ _ _ c.in_ok-write_word_command.ensures c.write_add.ensures)
