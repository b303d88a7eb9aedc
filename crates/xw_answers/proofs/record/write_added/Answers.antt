use Rattle.std.proofs.Common.{◌≡◌, ◌<◌, ◌≤◌, ◌+◌, ◌-◌, ◌++◌, ◌∙◌, ap, sym, subst, ℕ, List, length, get_or, take, drop, flat_map, arith}
use Rattle.std.proofs.lemmas.Result.{err_from_is_err_and}
use Rattle.std.proofs.lemmas.List.{get_or-drop, length-drop}
use Rattle.xw_words.specs.Dictionary.{Entry, known_words, no_entry}
use Rattle.xw_commands.specs.declared.change.Change.TheVariants.{Add}
use Rattle.xw_answers.specs.Spelling.{command_line}
use Rattle.xw_answers.specs.Record.{named_grade, add_command}
use Rattle.xw_answers.proofs.Recording.{line_of_each, sent_as, stops_as}
use Rattle.xw_lines.proofs.SendsLemmas.{each_sent, each_stops, each_all}
use Rattle.xw_answers.proofs.record.write_added.Goals as goal

pub loop-index-preserved : goal.loop-index-preserved
loop-index-preserved g c =
    let begun = c.args.begun in
    let index = c.loop-index.index in
    let entries = known_words c.args.bank.now.words c.args.count in
    let later = drop begun entries in
    let text : Entry → List ℕ = λ entry. command_line (add_command entry) in
    let below : index < length entries = omega (arith, c.loop-index-test.true, c.known-index-end.ensures) in
    let within : index - begun < length later = omega (arith, below, c.loop-index.invariant.from, length-drop begun entries) in
    let at : begun + (index - begun) ≡ index = omega (arith, c.loop-index.invariant.from) in
    let is : get_or entries index no_entry ≡ get_or later (index - begun) no_entry = sym (get_or-drop begun entries (index - begun) no_entry ∙ ap (λ i. get_or entries i no_entry) at) in
    let line : command_line (Add c.word.result.now c.named_grade-grade.result) ≡ text (get_or later (index - begun) no_entry) =
    ap (λ word. command_line (Add word c.named_grade-grade.result)) c.word.ensures.word
    ∙ ap (λ grade. command_line (Add (get_or entries index no_entry).word grade)) (c.named_grade-grade.ensures ∙ ap named_grade c.grade.ensures.grade)
    ∙ ap text is in
    let wrote = c.in_ok-write_add.ensures in
    let next : index - begun + 1 ≡ index + 1 - begun = omega (arith, c.loop-index.invariant.from) in
    record {
      from = omega (arith, c.loop-index.invariant.from);
      transcript = subst (λ (n : ℕ). g.W.Sink.transcript c.write_add.new.sink ≡ g.W.Sink.transcript c.args.sink.now ++ flat_map text (take n later)) next
          (each_sent g.W.Sink.transcript g.W.Sink.failures text later c.args.sink.now c.loop-index.sink c.write_add.new.sink (index - begun) no_entry within c.loop-index.invariant.transcript (wrote.0 ∙ ap (λ (xs : List ℕ). g.W.Sink.transcript c.loop-index.sink ++ xs) line));
      quiet = wrote.1 ∙ c.loop-index.invariant.quiet;
    }

pub returns-in_err-write_add : goal.returns-in_err-write_add
returns-in_err-write_add g c =
    let e = err_from_is_err_and c.from_residual.result c.from_residual.ensures.1 in
    let begun = c.args.begun in
    let index = c.loop-index.index in
    let entries = known_words c.args.bank.now.words c.args.count in
    let later = drop begun entries in
    let text : Entry → List ℕ = λ entry. command_line (add_command entry) in
    let below : index < length entries = omega (arith, c.loop-index-test.true, c.known-index-end.ensures) in
    let within : index - begun < length later = omega (arith, below, c.loop-index.invariant.from, length-drop begun entries) in
    let at : begun + (index - begun) ≡ index = omega (arith, c.loop-index.invariant.from) in
    let is : get_or entries index no_entry ≡ get_or later (index - begun) no_entry = sym (get_or-drop begun entries (index - begun) no_entry ∙ ap (λ i. get_or entries i no_entry) at) in
    let line : command_line (Add c.word.result.now c.named_grade-grade.result) ≡ text (get_or later (index - begun) no_entry) =
    ap (λ word. command_line (Add word c.named_grade-grade.result)) c.word.ensures.word
    ∙ ap (λ grade. command_line (Add (get_or entries index no_entry).word grade)) (c.named_grade-grade.ensures ∙ ap named_grade c.grade.ensures.grade)
    ∙ ap text is in
    let stops = stops_as g.W.Sink.transcript g.W.Sink.failures c.loop-index.sink c.write_add.new.sink _ _ line c.in_err-write_add.ensures in
    rw e.1 (stops_as g.W.Sink.transcript g.W.Sink.failures _ _ _ _ (line_of_each add_command later)
    (each_stops g.W.Sink.transcript g.W.Sink.failures text later c.args.sink.now c.loop-index.sink c.write_add.new.sink (index - begun) no_entry within (c.loop-index.invariant.transcript, c.loop-index.invariant.quiet) stops))

pub returns : goal.returns
returns g c =
    let begun = c.args.begun in
    let entries = known_words c.args.bank.now.words c.args.count in
    let later = drop begun entries in
    let text : Entry → List ℕ = λ entry. command_line (add_command entry) in
    let past : length later ≤ c.loop-index.index - begun = omega (arith, c.loop-index-test.false, c.known-index-end.ensures, length-drop begun entries, c.loop-index.invariant.from) in
    sent_as g.W.Sink.transcript g.W.Sink.failures _ _ _ _ (line_of_each add_command later)
    (each_all g.W.Sink.transcript g.W.Sink.failures text later _ _ (c.loop-index.index - begun) past (c.loop-index.invariant.transcript, c.loop-index.invariant.quiet))
