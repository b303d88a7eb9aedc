-- The lines of a journal, executed one after another.
use Rattle.std.proofs.Common.{ℕ, List, [], ◌∷◌, Some, sym, subst, ap}
use Rattle.xw_grid.specs.Grid.{IsGrid}
use Rattle.xw_lines.specs.Cut.{AllHaveNoLf}
use Rattle.xw_session.specs.State.{SessionState}
use Rattle.xw_journal.specs.Journal.{journal_text}
use Rattle.xw_session_laws.specs.Journals.{IsJournaled}
use Rattle.xw_session_laws.proofs.JournalLines.{line_leaves, grid_after_line, Replays, both_replays, line_replays}

pub journal_replays : (lines : List (List ℕ)) (start end : SessionState) (bytes : List ℕ) → IsGrid start.engine.grid → AllHaveNoLf lines → IsJournaled start lines bytes end → Replays start bytes end
journal_replays [] start end bytes is plain (none, same) = record { lines = []; whole = none; plain = tt; done = ap Some (sym same) }
journal_replays (line ∷ lines) start end bytes is plain (outcome, answer, mid, others, said, rest, bytes-is) =
    let text = journal_text start.engine.grid line outcome mid.engine.grid in
    subst (λ bytes. Replays start bytes end) (sym bytes-is)
    (both_replays start mid end text others
    (line_replays start line text mid plain.0 (line_leaves start is line outcome answer mid said))
    (journal_replays lines mid end others (grid_after_line start is line outcome answer mid said) plain.1 rest))
