use Rattle.std.proofs.Common.{◌<◌, ◌≤◌, ◌∙◌, ℕ, List, length, arith}
use Rattle.std.proofs.lemmas.Result.{err_from_is_err_and}
use Rattle.xw_session.specs.declared.session.recording.Section.{Section}
use Rattle.xw_session.specs.declared.session.recording.Section.TheVariants.{Words}
use Rattle.xw_answers.specs.Record.{command_lines}
use Rattle.xw_session.specs.Record.{section_commands, record_sections}
use Rattle.xw_answers.proofs.Recording.{lines_of_each, sent_as, stops_as}
use Rattle.xw_lines.proofs.SendsLemmas.{each_sent, each_stops, each_all}
use Rattle.xw_session.proofs.session.Session.write_record.Goals as goal

pub loop-section-preserved : goal.loop-section-preserved
loop-section-preserved g c =
    let text : Section → List ℕ = λ section. command_lines (section_commands c.args.self.now section) in
    let within : c.loop-section.section-index < length record_sections = omega arith in
    let wrote = c.in_ok-write_section.ensures in
    record {
      transcript = each_sent g.W.Sink.transcript g.W.Sink.failures text record_sections c.args.sink.now c.loop-section.sink c.write_section.new.sink c.loop-section.section-index Words within c.loop-section.invariant.transcript wrote.0;
      quiet = wrote.1 ∙ c.loop-section.invariant.quiet;
    }

pub returns-in_err-write_section : goal.returns-in_err-write_section
returns-in_err-write_section g c =
    let e = err_from_is_err_and c.from_residual.result c.from_residual.ensures.1 in
    let text : Section → List ℕ = λ section. command_lines (section_commands c.args.self.now section) in
    let within : c.loop-section.section-index < length record_sections = omega arith in
    rw e.1 (stops_as g.W.Sink.transcript g.W.Sink.failures _ _ _ _ (lines_of_each (section_commands c.args.self.now) record_sections)
    (each_stops g.W.Sink.transcript g.W.Sink.failures text record_sections c.args.sink.now c.loop-section.sink c.write_section.new.sink c.loop-section.section-index Words within (c.loop-section.invariant.transcript, c.loop-section.invariant.quiet) c.in_err-write_section.ensures))

pub returns : goal.returns
returns g c =
    let text : Section → List ℕ = λ section. command_lines (section_commands c.args.self.now section) in
    let past : length record_sections ≤ c.loop-section.section-index = omega arith in
    sent_as g.W.Sink.transcript g.W.Sink.failures _ _ _ _ (lines_of_each (section_commands c.args.self.now) record_sections)
    (each_all g.W.Sink.transcript g.W.Sink.failures text record_sections _ _ c.loop-section.section-index past (c.loop-section.invariant.transcript, c.loop-section.invariant.quiet))
