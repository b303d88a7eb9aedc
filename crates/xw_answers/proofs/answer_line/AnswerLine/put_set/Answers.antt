use Rattle.std.proofs.Common.{◌≡◌, [], ◌∷◌, ◌++◌, append_assoc, append-nil, sym, ◌∙◌, ap, subst}
use Rattle.std.specs.Prelude.{Ok}
use Rattle.std.proofs.lemmas.Result.{err_from_is_err_and}
use Rattle.xw_letters.specs.LetterSet.{letters_in}
use Rattle.xw_lines.specs.Sends.{Gathers}
use Rattle.xw_answers.specs.Text.{letters_or_dash}
use Rattle.xw_answers.proofs.Sending.{some_letters, no_letters}
use Rattle.xw_answers.proofs.Gathering.{gathers-nothing, gathers-then, stops-in}
use Rattle.xw_answers.proofs.answer_line.AnswerLine.put_set.Goals as goal

pub returns-then-len-eq0 : goal.returns-then-len-eq0
returns-then-len-eq0 g c = rw (no_letters (letters_in c.args.set) (sym c.len.ensures ∙ c.if-len-eq0.true)) c.put_byte.ensures

pub loop-letter-init : goal.loop-letter-init
loop-letter-init g c =
    ([], record { parts = sym (c.into_iter-letter-iterator.ensures.into_iter_gives ∙ c.iter-letter-items.ensures); put = gathers-nothing g.W.Sink.transcript g.W.Sink.failures (Unit {0}) c.args.sink.now c.args.self.now })

pub loop-letter-preserved : goal.loop-letter-preserved
loop-letter-preserved g c =
    let put = c.loop-letter.invariant.0 in
    let kept = c.loop-letter.invariant.1 in
    let byte = c.byte.result in (
      put ++ byte ∷ [],
      record {
        parts = kept.parts ∙ ap (λ xs. put ++ xs) (c.in-Some.ensures.steps ∙ ap (λ x. x ∷ c.next.new.self) (sym c.byte.ensures.code)) ∙ sym (append_assoc put (byte ∷ []) c.next.new.self);
        put = gathers-then g.W.Sink.transcript g.W.Sink.failures {T = Unit {0}} {E = Unit {0}} (Unit {0}) c.args.sink.now c.loop-letter.sink c.put_byte-in-loop-letter.new.sink c.args.self.now c.loop-letter.self c.put_byte-in-loop-letter.new.self put (byte ∷ []) (Ok (tt {0})) kept.put c.in_ok-put_byte.ensures;
      },
    )

pub returns-in_err-put_byte : goal.returns-in_err-put_byte
returns-in_err-put_byte g c =
    let e = err_from_is_err_and c.from_residual.result c.from_residual.ensures.1 in
    let put = c.loop-letter.invariant.0 in
    let kept = c.loop-letter.invariant.1 in
    let byte = c.byte.result in
    let whole : letters_or_dash (letters_in c.args.set) ≡ put ++ (byte ∷ [] ++ c.next.new.self) =
    some_letters (letters_in c.args.set) (λ none. c.if-len-eq0.false (c.len.ensures ∙ none))
    ∙ kept.parts ∙ ap (λ xs. put ++ xs) (c.in-Some.ensures.steps ∙ ap (λ x. x ∷ c.next.new.self) (sym c.byte.ensures.code)) in
    rw e.1 (stops-in g.W.Sink.transcript g.W.Sink.failures c.args.sink.now c.loop-letter.sink c.put_byte-in-loop-letter.new.sink c.args.self.now c.loop-letter.self put (byte ∷ []) c.next.new.self _ whole kept.put c.in_err-put_byte.ensures)

pub returns : goal.returns
returns g c =
    let put = c.loop-letter.invariant.0 in
    let kept = c.loop-letter.invariant.1 in
    let whole : put ≡ letters_or_dash (letters_in c.args.set) =
    sym (some_letters (letters_in c.args.set) (λ none. c.if-len-eq0.false (c.len.ensures ∙ none)) ∙ kept.parts ∙ ap (λ xs. put ++ xs) c.in-None.ensures.steps.0 ∙ append-nil put) in
    subst (λ xs. Gathers {T = Unit {0}} {E = Unit {0}} g.W.Sink.transcript g.W.Sink.failures c.args.sink.now c.loop-letter.sink c.args.self.now c.loop-letter.self (Ok (tt {0})) xs) whole kept.put
