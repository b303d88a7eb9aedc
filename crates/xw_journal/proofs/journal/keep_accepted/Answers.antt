use Rattle.std.proofs.Common.{◌≡◌, ℕ, List, sym, ◌∙◌, ap, subst}
use Rattle.std.specs.Prelude.{option_map}
use Rattle.xw_commands.specs.Command.{command_of}
use Rattle.xw_commands.proofs.Held.{held_is}
use Rattle.xw_lines.specs.Sends.{Sends}
use Rattle.xw_journal.specs.Journal.{written_of, events_of, journal_events}
use Rattle.xw_journal.proofs.journal.keep_accepted.Goals as goal

pub returns-in-Accepted-Some-clause-events : goal.returns-in-Accepted-Some-clause-events
returns-in-Accepted-Some-clause-events g c = λ was whole h written kept.
    let line = c.in-Accepted-Some.line.now in
    let after = c.args.grid.now in
    let same : whole ≡ line = held_is whole line (h ∙ ap (λ held. option_map (λ bytes. bytes.now) held) c.in-Accepted-Some.is-1) in
    let events : events_of c.args.written line was after ≡ journal_events was whole c.args.step after =
    ap (λ w. events_of w line was after) written
    ∙ ap (λ l. events_of (written_of (command_of whole)) l was after) (sym same)
    ∙ ap (λ step. journal_events was whole step after) (sym c.in-Accepted-Some.is-0) in
    subst (λ (text : List ℕ). Sends g.J.Sink.transcript g.J.Sink.failures c.args.journal.now c.keep.new.journal c.keep.result text) events (c.keep.ensures was (λ is. kept is c.in-Accepted-Some.is-0))
