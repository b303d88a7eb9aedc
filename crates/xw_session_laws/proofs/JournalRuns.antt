-- The journal of a run.
use Rattle.std.proofs.Common.{◌≡◌, ℕ, ◌<◌, ◌≤◌, ◌^◌, not, List, [], ◌∷◌, ◌++◌, get_or, codes, Some, refl, sym, ◌∙◌, ap, subst, inl, inr, append_assoc, append-nil, lit<, arith}
use Rattle.std.specs.Prelude.{All, nat_eq, decimal, if◌then◌else◌}
use Rattle.std.proofs.lemmas.Bool.{ne_eqb}
use Rattle.std.proofs.lemmas.Fmt.{IsAscii-decimal}
use Rattle.std.proofs.lemmas.Str.Ascii.{All-from_ascii}
use Rattle.std.proofs.lemmas.List.Elements.{All-head, All-tail, All-cons, All-nil, All-append, filter-append}
use Rattle.xw_letters.specs.Letter.{IsLetter}
use Rattle.xw_grid.specs.Grid.{Grid, IsGrid, cells}
use Rattle.xw_lines.specs.Device.{flushed}
use Rattle.xw_lines.specs.Cut.{lines_of, ended_lines, last_piece, last_line, with_lfs, HasNoLf, AllHaveNoLf}
use Rattle.xw_lines.proofs.Cuts.{cut-whole}
use Rattle.xw_lines.specs.Spoken.{Spoken, BreaksOff}
use Rattle.xw_lines.specs.Run.{StopsIn}
use Rattle.xw_lines.specs.declared.outcome.Step.TheVariants.{Silent, Accepted, Refused}
use Rattle.xw_commands.specs.Command.{command_of}
use Rattle.xw_session_laws.specs.Replay.{replayed_lines}
use Rattle.xw_lines.specs.declared.outcome.Step.{Step}
use Rattle.xw_commands.specs.declared.change.Change.{Change}
use Rattle.xw_commands.specs.declared.change.Change.TheVariants as changes
use Rattle.xw_commands.specs.declared.command.CellArg.{CellArg}
use Rattle.xw_session.specs.State.{SessionState}
use Rattle.xw_session.specs.Answer.{Answers}
use Rattle.xw_answers.specs.Record.{command_lines}
use Rattle.xw_answers.specs.Spelling.{command_line}
use Rattle.xw_journal.specs.Group.{complete, grouped}
use Rattle.xw_journal.specs.Journal.{entered_commands, written_of, text_of, journal_text, taken, events_of, journal_events, JournaledState, AnswersJournaled, IsUnjournaled, IsUnkept, IsCause, StopsAtJournal}
use Rattle.xw_journal.specs.declared.cause.Cause.{Cause}
use Rattle.xw_journal.specs.declared.cause.Cause.TheVariants.{Journal, Memory}
use Rattle.xw_journal.specs.declared.journal.Written.{Written}
use Rattle.xw_journal.specs.declared.journal.Written.TheVariants.{Nothing, Line, Letters}
use Rattle.xw_session_laws.specs.Journals.{IsJournaled, AreFirstLines, without_flushes, AreBytes, HasJournaled, HasBegunJournal}
use Rattle.xw_session_laws.proofs.CommandsRead.{IsSmallSpot, IsRecorded}
use Rattle.xw_session_laws.proofs.RecordRead.{AreRecorded}
use Rattle.xw_session_laws.proofs.JournalLines.{Leaves, line_leaves, grid_after_line, lines_again}
use Rattle.xw_session_laws.proofs.JournalAgain.{journal_replays}
use Rattle.xw_session_laws.proofs.JournalCut.{AreSets, entered_sets, journal_cut}

-- ---- texts without a mark

abbrev IsUnmarked : List ℕ → Type 0
IsUnmarked text = without_flushes text ≡ text

pub flushes_joined : (front rest : List ℕ) → without_flushes (front ++ rest) ≡ without_flushes front ++ without_flushes rest
flushes_joined front rest = filter-append (λ byte. not (nat_eq byte flushed)) front rest

joined : (front rest : List ℕ) → IsUnmarked front → IsUnmarked rest → IsUnmarked (front ++ rest)
joined front rest a b = flushes_joined front rest ∙ ap (λ xs. xs ++ without_flushes rest) a ∙ ap (λ xs. front ++ xs) b

bytes_unmarked : (text : List ℕ) → AreBytes text → IsUnmarked text
bytes_unmarked [] are = refl
bytes_unmarked (byte ∷ text) are =
    let small : byte < 256 = All-head (λ byte. byte < 256) byte text are in
    ap (λ t. if not t then byte ∷ without_flushes text else without_flushes text) (ne_eqb byte 256 (λ e. absurd (omega (arith, e, small))))
    ∙ ap (λ xs. byte ∷ xs) (bytes_unmarked text (All-tail (λ byte. byte < 256) byte text are))

number_unmarked : (n : ℕ) → n ≤ 255 → IsUnmarked (decimal n)
number_unmarked n small =
    let most : 255 < 2 ^ 64 = lit< tt in
    let ascii = All-from_ascii (decimal n) (IsAscii-decimal n (omega (arith, small, most))) in
    bytes_unmarked (decimal n) (λ k d within. let low : get_or (decimal n) k d < 128 = ascii k d within in omega (arith, low))

letter_unmarked : (letter : ℕ) → IsLetter letter → IsUnmarked (letter ∷ [])
letter_unmarked letter is = bytes_unmarked (letter ∷ []) (All-cons (λ byte. byte < 256) letter [] (omega (arith, is.1)) (All-nil (λ byte. byte < 256)))

set_unmarked : (at : CellArg) (letter : ℕ) → IsSmallSpot at → IsLetter letter → IsUnmarked (command_line (changes.Set at letter))
set_unmarked at letter small good =
    let fourth = joined (letter ∷ []) (codes "\n") (letter_unmarked letter good) refl in
    let third = joined (decimal at.col ++ codes " ") _ (joined (decimal at.col) (codes " ") (number_unmarked at.col small.1) refl) fourth in
    let second = joined (decimal at.row ++ codes " ") _ (joined (decimal at.row) (codes " ") (number_unmarked at.row small.0) refl) third in
    joined (codes "set" ++ codes " ") _ refl second

letters_unmarked : (letters : List Change) → AreRecorded letters → AreSets letters → IsUnmarked (command_lines letters)
letters_unmarked [] recorded sets = refl
letters_unmarked (command ∷ letters) recorded ((at, letter, is), sets) =
    let good : IsRecorded (changes.Set at letter) = subst IsRecorded is recorded.0 in
    joined (command_line command) (command_lines letters) (subst (λ command. IsUnmarked (command_line command)) (sym is) (set_unmarked at letter good.0 good.1)) (letters_unmarked letters recorded.1 sets)

group_unmarked : (letters : List Change) → AreRecorded letters → AreSets letters → IsUnmarked (grouped letters)
group_unmarked [] recorded sets = refl
group_unmarked (command ∷ letters) recorded sets =
    joined (codes "# xw begin\n") (command_lines (command ∷ letters) ++ codes "# xw end\n") refl
    (joined (command_lines (command ∷ letters)) (codes "# xw end\n") (letters_unmarked (command ∷ letters) recorded sets) refl)

text_unmarked : (state : SessionState) (line text : List ℕ) (next : SessionState) → AreBytes line → Leaves state line text next → IsUnmarked text
text_unmarked state line text next are (inl (none, same)) = subst IsUnmarked (sym none) refl
text_unmarked state line text next are (inr (inl (is, left, command))) = subst IsUnmarked (sym is) (joined line (10 ∷ []) (bytes_unmarked line are) refl)
text_unmarked state line text next are (inr (inr enters)) =
    subst IsUnmarked (sym enters.text-is)
    (group_unmarked (entered_commands state.engine.grid next.engine.grid) enters.recorded (entered_sets state.engine.grid next.engine.grid (cells next.engine.grid)))

taken_unmarked : (written : Written) (text : List ℕ) → (written ≡ Nothing → text ≡ []) → IsUnmarked text → without_flushes (taken written text) ≡ text
taken_unmarked Nothing text none plain = sym (none refl)
taken_unmarked Line text none plain = flushes_joined text (flushed ∷ []) ∙ append-nil (without_flushes text) ∙ plain
taken_unmarked Letters text none plain = flushes_joined text (flushed ∷ []) ∙ append-nil (without_flushes text) ∙ plain

written_unmarked : (written : Written) (line : List ℕ) (before after : Grid) → IsUnmarked (text_of written line before after) → without_flushes (events_of written line before after) ≡ text_of written line before after
written_unmarked written line before after plain = taken_unmarked written (text_of written line before after) (λ is. ap (λ written. text_of written line before after) is) plain

events_unmarked : (step : Step) (line : List ℕ) (before after : Grid) → IsUnmarked (journal_text before line step after) → without_flushes (journal_events before line step after) ≡ journal_text before line step after
events_unmarked Accepted line before after plain = written_unmarked (written_of (command_of line)) line before after plain
events_unmarked Silent line before after plain = refl
events_unmarked Refused line before after plain = refl

-- ---- a run

-- what the journal takes of a line is its text
pub line_taken : (state : SessionState) (line : List ℕ) (outcome : Step) (answer : List ℕ) (next : SessionState) → IsGrid state.engine.grid → AreBytes line → Answers state line outcome answer next
    → without_flushes (journal_events state.engine.grid line outcome next.engine.grid) ≡ journal_text state.engine.grid line outcome next.engine.grid
line_taken state line outcome answer next is are said =
    let text = journal_text state.engine.grid line outcome next.engine.grid in
    events_unmarked outcome line state.engine.grid next.engine.grid (text_unmarked state line text next are (line_leaves state is line outcome answer next said))

pub run_journaled : (lines : List (List ℕ)) (start end : JournaledState) (out : List ℕ) (refused : ℕ) → IsGrid start.state.engine.grid → All AreBytes lines → Spoken AnswersJournaled start lines out refused end → HasJournaled start lines end
run_journaled [] start end out refused is are said = record {
  bytes = [];
  journaled = (refl, ap (λ (s : JournaledState). s.state) said.2);
  written = ap (λ (s : JournaledState). without_flushes s.journal) said.2 ∙ sym (append-nil (without_flushes start.journal));
}
run_journaled (line ∷ lines) start end out refused is are (outcome, answer, mid, others, more, said, rest, out-is, refused-is) =
    let text = journal_text start.state.engine.grid line outcome mid.state.engine.grid in
    let events = journal_events start.state.engine.grid line outcome mid.state.engine.grid in
    let tail = run_journaled lines mid end others more (grid_after_line start.state is line outcome answer mid.state said.answers) (All-tail AreBytes line lines are) rest in
    let here : without_flushes mid.journal ≡ without_flushes start.journal ++ text =
    ap without_flushes said.journal ∙ flushes_joined start.journal events ∙ ap (λ xs. without_flushes start.journal ++ xs) (line_taken start.state line outcome answer mid.state is (All-head AreBytes line lines are) said.answers) in
    record {
      bytes = text ++ tail.bytes;
      journaled = (outcome, answer, mid.state, tail.bytes, said.answers, tail.journaled, refl);
      written = tail.written ∙ ap (λ xs. xs ++ tail.bytes) here ∙ append_assoc (without_flushes start.journal) text tail.bytes;
    }

-- ---- one more line

grid_behind : (lines : List (List ℕ)) (start end : SessionState) (bytes : List ℕ) → IsGrid start.engine.grid → IsJournaled start lines bytes end → IsGrid end.engine.grid
grid_behind [] start end bytes is (none, same) = subst (λ (s : SessionState). IsGrid s.engine.grid) (sym same) is
grid_behind (line ∷ lines) start end bytes is (outcome, answer, mid, others, said, rest, bytes-is) = grid_behind lines mid end others (grid_after_line start is line outcome answer mid said) rest

one_more : (lines : List (List ℕ)) (start mid end : SessionState) (bytes line answer : List ℕ) (outcome : Step) → IsJournaled start lines bytes mid → Answers mid line outcome answer end
    → IsJournaled start (lines ++ line ∷ []) (bytes ++ journal_text mid.engine.grid line outcome end.engine.grid) end
one_more [] start mid end bytes line answer outcome (none, same) said =
    let text = journal_text mid.engine.grid line outcome end.engine.grid in
    let here : Answers start line outcome answer end = subst (λ s. Answers s line outcome answer end) same said in
    let plain : bytes ++ text ≡ journal_text start.engine.grid line outcome end.engine.grid ++ [] =
    ap (λ xs. xs ++ text) none ∙ ap (λ (s : SessionState). journal_text s.engine.grid line outcome end.engine.grid) same ∙ sym (append-nil (journal_text start.engine.grid line outcome end.engine.grid)) in
    (outcome, answer, end, [], here, (refl, refl), plain)
one_more (first ∷ lines) start mid end bytes line answer outcome (step, told, next, others, done, rest, bytes-is) said =
    let text = journal_text mid.engine.grid line outcome end.engine.grid in
    let here = journal_text start.engine.grid first step next.engine.grid in
    (step, told, next, others ++ text, done, one_more lines next mid end others line answer outcome rest said, ap (λ xs. xs ++ text) bytes-is ∙ append_assoc here others text)

-- ---- the lines of a text

pub bytes_parted : (front rest : List ℕ) → AreBytes (front ++ rest) → AreBytes front × AreBytes rest
bytes_parted [] rest are = (All-nil (λ byte. byte < 256), are)
bytes_parted (byte ∷ front) rest are =
    let behind = bytes_parted front rest (All-tail (λ byte. byte < 256) byte (front ++ rest) are) in
    (All-cons (λ byte. byte < 256) byte front (All-head (λ byte. byte < 256) byte (front ++ rest) are) behind.0, behind.1)

ended_bytes : (lines : List (List ℕ)) (rest : List ℕ) → AreBytes (with_lfs lines rest) → All AreBytes lines × AreBytes rest
ended_bytes [] rest are = (All-nil AreBytes, are)
ended_bytes (line ∷ lines) rest are =
    let parts = bytes_parted line (10 ∷ with_lfs lines rest) are in
    let behind = ended_bytes lines rest (All-tail (λ byte. byte < 256) 10 (with_lfs lines rest) parts.1) in
    (All-cons AreBytes line lines parts.0 behind.0, behind.1)

last_bytes : (rest : List ℕ) → AreBytes rest → All AreBytes (last_line rest)
last_bytes [] are = All-nil AreBytes
last_bytes (byte ∷ rest) are = All-cons AreBytes (byte ∷ rest) [] are (All-nil AreBytes)

lines_plain : (lines : List (List ℕ)) (rest : List ℕ) → AllHaveNoLf lines → HasNoLf rest → AllHaveNoLf (lines ++ last_line rest)
lines_plain [] [] plain last = tt
lines_plain [] (byte ∷ rest) plain last = (last, tt)
lines_plain (line ∷ lines) rest plain last = (plain.0, lines_plain lines rest plain.1 last)

pub text_lines : (text : List ℕ) → AreBytes text → AllHaveNoLf (lines_of text) × All AreBytes (lines_of text) × All AreBytes (ended_lines text)
text_lines text are =
    let whole = cut-whole text in
    let bytes = ended_bytes (ended_lines text) (last_piece text) (subst AreBytes whole.0 are) in (
      lines_plain (ended_lines text) (last_piece text) whole.1 whole.2,
      All-append AreBytes (ended_lines text) (last_line (last_piece text)) bytes.0 (last_bytes (last_piece text) bytes.1),
      bytes.0,
    )

-- the lines up to one of them, and the others
before_parts : (lines before after : List (List ℕ)) (line : List ℕ) → lines ≡ before ++ line ∷ after → lines ≡ (before ++ line ∷ []) ++ after
before_parts lines before after line parts = parts ∙ sym (append_assoc before (line ∷ []) after)

lines_before : (before after : List (List ℕ)) (line : List ℕ) → All AreBytes (before ++ line ∷ after) → All AreBytes before × AreBytes line
lines_before [] after line are = (All-nil AreBytes, All-head AreBytes line after are)
lines_before (first ∷ before) after line are =
    let behind = lines_before before after line (All-tail AreBytes first (before ++ line ∷ after) are) in
    (All-cons AreBytes first before (All-head AreBytes first (before ++ line ∷ after) are) behind.0, behind.1)

-- ---- a run that did not finish an answer

module _ (start mid end : JournaledState) (before : List (List ℕ)) (line : List ℕ) (is : IsGrid start.state.engine.grid) (are : AreBytes line) (so_far : HasJournaled start before mid) where
  mid_grid : IsGrid mid.state.engine.grid
  mid_grid = grid_behind before start.state mid.state so_far.bytes is so_far.journaled

  pub line_journaled : (outcome : Step) (answer : List ℕ) → AnswersJournaled mid line outcome answer end → HasJournaled start (before ++ line ∷ []) end
  line_journaled outcome answer said =
      let text = journal_text mid.state.engine.grid line outcome end.state.engine.grid in
      let events = journal_events mid.state.engine.grid line outcome end.state.engine.grid in
      record {
        bytes = so_far.bytes ++ text;
        journaled = one_more before start.state mid.state end.state so_far.bytes line answer outcome so_far.journaled said.answers;
        written = ap without_flushes said.journal ∙ flushes_joined mid.journal events ∙ ap (λ xs. xs ++ without_flushes events) so_far.written
            ∙ ap (λ xs. (without_flushes start.journal ++ so_far.bytes) ++ xs) (line_taken mid.state line outcome answer end.state mid_grid are said.answers)
            ∙ append_assoc (without_flushes start.journal) so_far.bytes text;
      }

  -- the journal failed in the text of the line
  line_unjournaled : IsUnjournaled mid line end → HasBegunJournal start (before ++ line ∷ []) end
  line_unjournaled stops =
      let text = journal_text mid.state.engine.grid line Accepted end.state.engine.grid in
      let sent = without_flushes stops.journal.sent in
      let unsent = without_flushes stops.journal.unsent in
      let whole : text ≡ sent ++ unsent =
      sym (line_taken mid.state line Accepted stops.answer end.state mid_grid are stops.answers) ∙ ap without_flushes stops.journal.parts ∙ flushes_joined stops.journal.sent stops.journal.unsent in
      record {
        bytes = so_far.bytes ++ text;
        journaled = one_more before start.state mid.state end.state so_far.bytes line stops.answer Accepted so_far.journaled stops.answers;
        front = so_far.bytes ++ sent;
        rest = unsent;
        parts = ap (λ xs. so_far.bytes ++ xs) whole ∙ sym (append_assoc so_far.bytes sent unsent);
        written = ap without_flushes stops.journal.transcript ∙ flushes_joined mid.journal stops.journal.sent ∙ ap (λ xs. xs ++ sent) so_far.written ∙ append_assoc (without_flushes start.journal) so_far.bytes sent;
      }

  -- the answer of the line could not be kept, and nothing of its text was written
  line_unkept : IsUnkept mid line end → HasBegunJournal start (before ++ line ∷ []) end
  line_unkept stops =
      let outcome = stops.done.0 in
      let answer = stops.done.1 in
      let answers = stops.done.2 in
      let text = journal_text mid.state.engine.grid line outcome end.state.engine.grid in
      record {
        bytes = so_far.bytes ++ text;
        journaled = one_more before start.state mid.state end.state so_far.bytes line answer outcome so_far.journaled answers;
        front = so_far.bytes;
        rest = text;
        parts = refl;
        written = ap without_flushes stops.journal ∙ so_far.written;
      }

  stopped_by : (cause : Cause) → IsCause cause mid line end → HasBegunJournal start (before ++ line ∷ []) end
  stopped_by Journal why = line_unjournaled why
  stopped_by Memory why = line_unkept why

  pub line_begun : (told_old told_new : List ℕ) → StopsAtJournal mid line end told_old told_new → HasBegunJournal start (before ++ line ∷ []) end
  line_begun told_old told_new stops = stopped_by stops.cause stops.why

module _ (start end : JournaledState) (text begun transcript : List ℕ) (is : IsGrid start.state.engine.grid) (are : AreBytes text) where
  pub broken_journaled : StopsIn AnswersJournaled (BreaksOff AnswersJournaled) start text end begun transcript → (lines : List (List ℕ)) × (others : List (List ℕ)) × (lines_of text ≡ lines ++ others) × HasJournaled start lines end
  broken_journaled stops =
      let bytes = lines_before stops.before stops.after stops.line (subst (All AreBytes) stops.are-lines (text_lines text are).1) in
      let so_far = run_journaled stops.before start stops.mid stops.out stops.refused is bytes.0 stops.spoken in (
        stops.before ++ stops.line ∷ [],
        stops.after,
        before_parts (lines_of text) stops.before stops.after stops.line stops.are-lines,
        line_journaled start stops.mid end stops.before stops.line is bytes.1 so_far stops.breaks.outcome stops.breaks.answer stops.breaks.answers,
      )

  pub stopped_journaled : StopsIn AnswersJournaled StopsAtJournal start text end begun transcript → (lines : List (List ℕ)) × (others : List (List ℕ)) × (lines_of text ≡ lines ++ others) × HasBegunJournal start lines end
  stopped_journaled stops =
      let bytes = lines_before stops.before stops.after stops.line (subst (All AreBytes) stops.are-lines (text_lines text are).1) in
      let so_far = run_journaled stops.before start stops.mid stops.out stops.refused is bytes.0 stops.spoken in (
        stops.before ++ stops.line ∷ [],
        stops.after,
        before_parts (lines_of text) stops.before stops.after stops.line stops.are-lines,
        line_begun start stops.mid end stops.before stops.line is bytes.1 so_far (begun ++ stops.out) transcript stops.breaks,
      )

-- ---- a journal that was empty at the start

module _ (start end : JournaledState) (lines : List (List ℕ)) (is : IsGrid start.state.engine.grid) (plain : AllHaveNoLf lines) (none : without_flushes start.journal ≡ []) where
  pub run_again : HasJournaled start lines end → replayed_lines start.state (lines_of (without_flushes end.journal)) ≡ Some end.state
  run_again done =
      let held : without_flushes end.journal ≡ done.bytes = done.written ∙ ap (λ xs. xs ++ done.bytes) none in
      ap (λ bytes. replayed_lines start.state (lines_of bytes)) held ∙ lines_again start.state end.state done.bytes (journal_replays lines start.state end.state done.bytes is plain done.journaled)

  pub begun_again : (begun : HasBegunJournal start lines end) → AreFirstLines start.state lines begun.bytes end.state (complete (ended_lines (without_flushes end.journal)))
  begun_again begun =
      let held : begun.front ≡ without_flushes end.journal = sym (begun.written ∙ ap (λ xs. xs ++ begun.front) none) in
      subst (λ front. AreFirstLines start.state lines begun.bytes end.state (complete (ended_lines front))) held
      (journal_cut start.state end.state lines begun.bytes begun.front begun.rest is plain begun.journaled begun.parts)
