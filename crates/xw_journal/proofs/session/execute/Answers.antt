use Rattle.std.proofs.Common.{◌≡◌, ℕ, List, ◌++◌, true, false, refl, sym, ◌∙◌, ap, subst}
use Rattle.std.specs.Option.{option_map}
use Rattle.xw_lines.specs.Cut.{held}
use Rattle.xw_lines.specs.Device.{Begins}
use Rattle.xw_lines.specs.declared.outcome.Step.TheVariants.{Accepted}
use Rattle.xw_lines.specs.declared.outcome.AnswerFault.TheVariants.{WriteFailed}
use Rattle.xw_session.specs.Answer.{Answers}
use Rattle.xw_session.proofs.Answering.{piece_answered, piece_broke_off}
use Rattle.xw_session.specs.declared.vec_sink.VecSink.{VecSink}
use Rattle.xw_journal.specs.declared.journal.Written.TheVariants.{Letters}
use Rattle.xw_journal.specs.Journal.{entries_of, written_of, journal_events, HasEntriesBefore}
use Rattle.xw_journal.proofs.Keeping.{searched_size, broken_done}
use Rattle.xw_journal.proofs.session.execute.Goals.{then-eq, else-eq}
use Rattle.xw_journal.proofs.session.execute.Goals as goal

pub returns-in_default-clause-err : goal.returns-in_default-clause-err
returns-in_default-clause-err g c = λ cause later line h. record {
  done = broken_done c.args.session.now c.execute.new.self line WriteFailed _ _
      (piece_broke_off c.parse_held-parsed.result (option_map (λ bytes. bytes.now) c.args.line) c.parse_held-parsed.ensures (λ (sink : VecSink). sink.bytes.items) (λ (sink : VecSink). sink.failures)
      c.args.session.now c.execute.new.self _ c.clear.new.self c.execute.new.sink c.in_default.ensures.answer line h);
  journal = refl;
  quiet = refl;
}

pub returns-in-Ok-keep_accepted-clause-ok : goal.returns-in-Ok-keep_accepted-clause-ok
returns-in-Ok-keep_accepted-clause-ok g c = λ cause.
    let said = piece_answered c.parse_held-parsed.result (option_map (λ bytes. bytes.now) c.args.line) c.parse_held-parsed.ensures (λ (sink : VecSink). sink.bytes.items) (λ (sink : VecSink). sink.failures)
    c.args.session.now c.execute.new.self _ c.clear.new.self c.execute.new.sink c.in-Ok.ensures.answer in
    let was = c.args.session.now.engine.grid in
    let answer-is : c.execute.new.sink.bytes.items ≡ said.answer = said.transcript ∙ ap (λ xs. xs ++ said.answer) c.clear.ensures in
    let known : (whole : List ℕ) → held whole ≡ option_map (λ bytes. bytes.now) c.args.line → c.written_of-written.result ≡ Letters → c.in-Ok.step ≡ Accepted → HasEntriesBefore was c.grid-2.result.now c.if-eq.before =
    λ whole h letters accepted.
    let size = searched_size c.args.session.now c.execute.new.self whole said.answer (sym (c.written_of-written.ensures ∙ ap written_of (c.parse_held-parsed.ensures whole h)) ∙ letters) (subst (λ step. Answers c.args.session.now whole step said.answer c.execute.new.self) accepted (said.fits whole h)) in
    elim c.if-eq.branch [
      | then-eq w ↦ record {
        entries-are = w.before-is ∙ w.copy.ensures ∙ ap entries_of w.grid.ensures;
        width = size.width ∙ ap (λ grid. grid.width) (sym c.grid-2.ensures);
        height = size.height ∙ ap (λ grid. grid.height) (sym c.grid-2.ensures);
      }
      | else-eq w ↦ let bad : false ≡ true = rw letters at w.if-eq.ensures in cc
    ] in
    record {
      fits = λ line h.
          let sent = c.in-Ok-keep_accepted.ensures.events was line h (c.written_of-written.ensures ∙ ap written_of (c.parse_held-parsed.ensures line h)) (known line h) in
          record {
            answers = subst (λ answer. Answers c.args.session.now line c.in-Ok.step answer c.execute.new.self) (sym answer-is) (said.fits line h);
            journal = sent.0 ∙ ap (λ grid. g.J.Sink.transcript c.args.journal.now ++ journal_events was line c.in-Ok.step grid) c.grid-2.ensures;
            quiet = sent.1;
            going = refl;
          };
      silent = λ silent. ap (λ (sink : VecSink). sink.bytes.items) (c.in-Ok.ensures.silent silent) ∙ c.clear.ensures;
    }

pub returns-in-Err-clause-err : goal.returns-in-Err-clause-err
returns-in-Err-clause-err g c = λ cause later line h.
    let said = piece_answered c.parse_held-parsed.result (option_map (λ bytes. bytes.now) c.args.line) c.parse_held-parsed.ensures (λ (sink : VecSink). sink.bytes.items) (λ (sink : VecSink). sink.failures)
    c.args.session.now c.execute.new.self _ c.clear.new.self c.execute.new.sink c.in-Ok.ensures.answer in
    let was = c.args.session.now.engine.grid in
    let accepted = c.in-Err.ensures.accepted in
    let known : (whole : List ℕ) → held whole ≡ option_map (λ bytes. bytes.now) c.args.line → c.written_of-written.result ≡ Letters → c.in-Ok.step ≡ Accepted → HasEntriesBefore was c.grid-2.result.now c.if-eq.before =
    λ whole h letters accepted.
    let size = searched_size c.args.session.now c.execute.new.self whole said.answer (sym (c.written_of-written.ensures ∙ ap written_of (c.parse_held-parsed.ensures whole h)) ∙ letters) (subst (λ step. Answers c.args.session.now whole step said.answer c.execute.new.self) accepted (said.fits whole h)) in
    elim c.if-eq.branch [
      | then-eq w ↦ record {
        entries-are = w.before-is ∙ w.copy.ensures ∙ ap entries_of w.grid.ensures;
        width = size.width ∙ ap (λ grid. grid.width) (sym c.grid-2.ensures);
        height = size.height ∙ ap (λ grid. grid.height) (sym c.grid-2.ensures);
      }
      | else-eq w ↦ let bad : false ≡ true = rw letters at w.if-eq.ensures in cc
    ] in
    let broke = c.in-Err.ensures.events was line h (c.written_of-written.ensures ∙ ap written_of (c.parse_held-parsed.ensures line h)) (known line h) in
    record {
      answer = said.answer;
      answers = subst (λ step. Answers c.args.session.now line step said.answer c.execute.new.self) accepted (said.fits line h);
      journal = subst (λ events. Begins (g.J.Sink.transcript c.args.journal.now) (g.J.Sink.transcript c.keep_accepted.new.journal) events)
          (ap (λ step. journal_events was line step c.grid-2.result.now) accepted ∙ ap (λ grid. journal_events was line Accepted grid) c.grid-2.ensures) broke.0;
      failed = broke.1;
    }
