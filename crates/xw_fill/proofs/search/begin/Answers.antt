use Rattle.std.proofs.Common.{sym, ◌∙◌}
use Rattle.xw_search.specs.Position.{position_of}
use Rattle.xw_fill.proofs.EnteredSinceLemmas.{noted-none}
use Rattle.xw_fill.proofs.ScanLemmas.{outlook-blocked, outlook-open}
use Rattle.xw_fill.proofs.search.begin.Goals as goal

pub note_entered-requires-clause-before : goal.note_entered-requires-clause-before
note_entered-requires-clause-before g c = λ light below noted. absurd (noted-none c.args.since.now light noted)

pub returns-in-Blocked-clause-next : goal.returns-in-Blocked-clause-next
returns-in-Blocked-clause-next g c = sym (outlook-blocked (position_of (g.E.Feasible.state c.args.engine.now)) c.scan_lights.result c.scan_lights.ensures c.in-Blocked.is)

pub returns-in_ok-repeats-in-Open-clause-next : goal.returns-in_ok-repeats-in-Open-clause-next
returns-in_ok-repeats-in-Open-clause-next g c =
    let position = position_of (g.E.Feasible.state c.args.engine.now) in
    c.open_outlook.ensures ∙ sym (outlook-open position c.scan_lights.result c.in-Open.chosen c.in_ok-repeats-in-Open.repeats c.scan_lights.ensures c.in-Open.is c.in_ok-repeats-in-Open.ensures)
