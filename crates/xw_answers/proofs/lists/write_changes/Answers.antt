use Rattle.std.proofs.Common.{◌++◌, ◌∙◌, ap}
use Rattle.std.proofs.lemmas.Result.{err_from_is_err_and}
use Rattle.xw_letters.specs.LetterSet.{letters_in}
use Rattle.xw_feas.specs.Changed.{changes_left}
use Rattle.xw_feas.specs.Changes.{spelled_out}
use Rattle.xw_answers.specs.Text.{change_line}
use Rattle.xw_answers.proofs.Gathering.{next_gathered, next_gathered_stops, gathered_all}
use Rattle.xw_answers.proofs.lists.write_changes.Goals as goal

pub loop-change-preserved : goal.loop-change-preserved
loop-change-preserved g c =
    let sent = c.loop-change.invariant.0 in
    let kept = c.loop-change.invariant.1 in
    let put = c.in_ok-put_change.ensures in
    let more = next_gathered g.W.Sink.transcript g.W.Sink.failures change_line c.args.sink.now c.loop-change.sink c.put_change.new.sink sent put.0 _ c.loop-change.lines c.put_change.new.line (spelled_out (changes_left c.loop-change.change-iterator)) (spelled_out (changes_left c.next.new.self)) (c.in-Some.change.0, letters_in c.in-Some.change.1) kept.transcript kept.left (ap spelled_out c.in-Some.ensures.steps) put.1.transcript put.1.parts in
    (sent ++ put.0, record { transcript = more.0; left = more.1; quiet = put.1.quiet ∙ kept.quiet })

pub returns-in_err-put_change : goal.returns-in_err-put_change
returns-in_err-put_change g c =
    let e = err_from_is_err_and c.from_residual.result c.from_residual.ensures.1 in
    let kept = c.loop-change.invariant.1 in
    rw e.1 (next_gathered_stops g.W.Sink.transcript g.W.Sink.failures change_line c.args.sink.now c.loop-change.sink c.put_change.new.sink c.loop-change.invariant.0 _ c.loop-change.lines (spelled_out (changes_left c.loop-change.change-iterator)) (spelled_out (changes_left c.next.new.self)) (c.in-Some.change.0, letters_in c.in-Some.change.1) kept.transcript kept.quiet kept.left (ap spelled_out c.in-Some.ensures.steps) c.in_err-put_change.ensures)

pub returns : goal.returns
returns g c =
    let kept = c.loop-change.invariant.1 in
    gathered_all g.W.Sink.transcript g.W.Sink.failures change_line c.args.sink.now c.loop-change.sink c.send.new.sink c.send.result c.loop-change.invariant.0 _ c.loop-change.lines (spelled_out (changes_left c.loop-change.change-iterator)) kept.transcript kept.quiet kept.left (ap spelled_out c.in-None.ensures.steps.0) c.send.ensures.sends
