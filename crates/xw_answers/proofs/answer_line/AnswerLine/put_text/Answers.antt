use Rattle.std.proofs.Common.{◌≤◌, ◌<◌, ◌+◌, length, take, drop, flat_map, sym, subst, arith}
use Rattle.std.specs.Prelude.{Ok}
use Rattle.std.specs.List.{range_with_len}
use Rattle.std.proofs.lemmas.Result.{err_from_is_err_and}
use Rattle.xw_lines.specs.Sends.{Gathers}
use Rattle.xw_answers.specs.Escape.{spelled_at}
use Rattle.xw_answers.proofs.Sending.{one_text_more, text_parts, all_texts}
use Rattle.xw_answers.proofs.Gathering.{gathers-then, stops-in}
use Rattle.xw_answers.proofs.answer_line.AnswerLine.put_text.Goals as goal

pub loop-index-preserved : goal.loop-index-preserved
loop-index-preserved g c =
    let text = c.args.text.now in
    let within : c.loop-index.index < length text = omega arith in
    subst (λ xs. Gathers {T = Unit {0}} {E = Unit {0}} g.W.Sink.transcript g.W.Sink.failures c.args.sink.now c.put_at.new.sink c.args.self.now c.put_at.new.self (Ok (tt {0})) xs)
    (sym (one_text_more (spelled_at text) (length text) c.loop-index.index within))
    (gathers-then g.W.Sink.transcript g.W.Sink.failures {T = Unit {0}} {E = Unit {0}} (Unit {0}) c.args.sink.now c.loop-index.sink c.put_at.new.sink c.args.self.now c.loop-index.self c.put_at.new.self
    (flat_map (spelled_at text) (take c.loop-index.index (range_with_len 0 (length text)))) (spelled_at text c.loop-index.index) (Ok (tt {0})) c.loop-index.invariant c.in_ok-put_at.ensures)

pub returns-in_err-put_at : goal.returns-in_err-put_at
returns-in_err-put_at g c =
    let e = err_from_is_err_and c.from_residual.result c.from_residual.ensures.1 in
    let text = c.args.text.now in
    let within : c.loop-index.index < length text = omega arith in
    rw e.1 (stops-in g.W.Sink.transcript g.W.Sink.failures c.args.sink.now c.loop-index.sink c.put_at.new.sink c.args.self.now c.loop-index.self
    (flat_map (spelled_at text) (take c.loop-index.index (range_with_len 0 (length text)))) (spelled_at text c.loop-index.index)
    (flat_map (spelled_at text) (drop (c.loop-index.index + 1) (range_with_len 0 (length text)))) _ (text_parts (spelled_at text) (length text) c.loop-index.index within)
    c.loop-index.invariant c.in_err-put_at.ensures)

pub returns : goal.returns
returns g c =
    let text = c.args.text.now in
    let past : length text ≤ c.loop-index.index = omega arith in
    subst (λ xs. Gathers {T = Unit {0}} {E = Unit {0}} g.W.Sink.transcript g.W.Sink.failures c.args.sink.now c.loop-index.sink c.args.self.now c.loop-index.self (Ok (tt {0})) xs)
    (all_texts (spelled_at text) (length text) c.loop-index.index past) c.loop-index.invariant
