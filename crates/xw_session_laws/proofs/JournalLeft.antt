-- What a whole run leaves in its journal.
use Rattle.std.proofs.Common.{◌≡◌, ℕ, Bool, List, [], ◌++◌, Some, refl, sym, ◌∙◌, ap, subst, append-nil}
use Rattle.xw_grid.specs.Grid.{IsGrid}
use Rattle.xw_lines.specs.Cut.{lines_of, ended_lines, last_piece, last_line, AllHaveNoLf}
use Rattle.xw_lines.specs.Spoken.{BreaksOff}
use Rattle.xw_lines.specs.Run.{Speaks, StopsIn}
use Rattle.xw_lines.specs.declared.outcome.RunEnd.{RunEnd}
use Rattle.xw_lines.specs.declared.outcome.RunEnd.TheVariants.{Done, ReadFailed, WriteFailed, Stopped, Endless, Memory}
use Rattle.xw_journal.specs.Journal.{JournaledState, AnswersJournaled}
use Rattle.xw_session_laws.specs.Replay.{replayed_lines}
use Rattle.xw_session_laws.specs.Journals.{without_flushes, AreBytes, HasJournaled, HasBegunJournal, UnlessStopped, LeavesJournal, RunsLeaveJournals}
use Rattle.xw_session_laws.proofs.JournalCut.{plain_front}
use Rattle.xw_session_laws.proofs.JournalRuns.{bytes_parted, text_lines, run_journaled, broken_journaled, stopped_journaled, run_again, begun_again}

unless_stopped : (result : RunEnd) (P : Type 0) → P → UnlessStopped result P
unless_stopped (Done refused) P holds = holds
unless_stopped ReadFailed P holds = holds
unless_stopped WriteFailed P holds = holds
unless_stopped Stopped P holds = tt
unless_stopped Endless P holds = holds
unless_stopped Memory P holds = holds

module _ {R : Type 0} (read : R → List ℕ) (result : RunEnd) (start end : JournaledState) (source source' : R) (is : IsGrid start.state.engine.grid) (are : AreBytes (read source')) (none : without_flushes start.journal ≡ [])
    (text : List ℕ) (was_read : read source' ≡ read source ++ text) where
  bytes : AreBytes text
  bytes = (bytes_parted (read source) text (subst AreBytes was_read are)).1

  plain : (lines others : List (List ℕ)) → lines_of text ≡ lines ++ others → AllHaveNoLf lines
  plain lines others of_text = plain_front lines others (subst AllHaveNoLf of_text (text_lines text bytes).0)

  abbrev Again : Type 0
  Again = replayed_lines start.state (lines_of (without_flushes end.journal)) ≡ Some end.state

  leaves_begun : (lines others : List (List ℕ)) → lines_of text ≡ lines ++ others → (begun : HasBegunJournal start lines end) → UnlessStopped result (without_flushes end.journal ≡ begun.bytes) → UnlessStopped result Again → LeavesJournal read result start end source source'
  leaves_begun lines others of_text begun whole again = record {
    text = text;
    was_read = was_read;
    lines = lines;
    others = others;
    of_text = of_text;
    bytes = begun.bytes;
    journaled = begun.journaled;
    whole = whole;
    again = again;
    first = begun_again start end lines is (plain lines others of_text) none begun;
  }

  leaves_whole : (lines others : List (List ℕ)) → lines_of text ≡ lines ++ others → HasJournaled start lines end → LeavesJournal read result start end source source'
  leaves_whole lines others of_text done =
      leaves_begun lines others of_text
      (record { bytes = done.bytes; journaled = done.journaled; front = done.bytes; rest = []; parts = sym (append-nil done.bytes); written = done.written })
      (unless_stopped result (without_flushes end.journal ≡ done.bytes) (done.written ∙ ap (λ xs. xs ++ done.bytes) none))
      (unless_stopped result Again (run_again start end lines is (plain lines others of_text) none done))

  leaves_all : (count : ℕ) (begun transcript : List ℕ) → Speaks AnswersJournaled start (lines_of text) count end begun transcript → LeavesJournal read result start end source source'
  leaves_all count begun transcript speaks =
      leaves_whole (lines_of text) [] (sym (append-nil (lines_of text))) (run_journaled (lines_of text) start end speaks.out count is (text_lines text bytes).1 speaks.spoken)

  leaves_ended : (count : ℕ) (begun transcript : List ℕ) → Speaks AnswersJournaled start (ended_lines text) count end begun transcript → LeavesJournal read result start end source source'
  leaves_ended count begun transcript speaks =
      leaves_whole (ended_lines text) (last_line (last_piece text)) refl (run_journaled (ended_lines text) start end speaks.out count is (text_lines text bytes).2 speaks.spoken)

  leaves_broken : (begun transcript : List ℕ) → StopsIn AnswersJournaled (BreaksOff AnswersJournaled) start text end begun transcript → LeavesJournal read result start end source source'
  leaves_broken begun transcript stops = let done = broken_journaled start end text begun transcript is bytes stops in leaves_whole done.0 done.1 done.2 done.3

module _ {R W : Type 0} (read : R → List ℕ) (is_at_end : R → Bool) (read_failures : R → ℕ) (written : W → List ℕ) (write_failures : W → ℕ) where
  pub run_leaves : RunsLeaveJournals read is_at_end read_failures written write_failures
  run_leaves (Done refused) start end source source' sink sink' is are none run =
      leaves_all read (Done refused) start end source source' is are none run.0 run.1 run.3 (written sink) (written sink') run.5
  run_leaves ReadFailed start end source source' sink sink' is are none run =
      leaves_ended read ReadFailed start end source source' is are none run.0 run.1 run.3 (written sink) (written sink') run.4
  run_leaves WriteFailed start end source source' sink sink' is are none run =
      leaves_broken read WriteFailed start end source source' is are none run.0 run.1 (written sink) (written sink') run.3
  run_leaves Stopped start end source source' sink sink' is are none run =
      let bytes_read = (bytes_parted (read source) run.0 (subst AreBytes run.1 are)).1 in
      let begun = stopped_journaled start end run.0 (written sink) (written sink') is bytes_read run.2 in
      leaves_begun read Stopped start end source source' is are none run.0 run.1 begun.0 begun.1 begun.2 begun.3 tt tt
  run_leaves Endless start end source source' sink sink' is are none run =
      leaves_ended read Endless start end source source' is are none run.0 run.1 run.3 (written sink) (written sink') run.4
  run_leaves Memory start end source source' sink sink' is are none run =
      leaves_whole read Memory start end source source' is are none [] (ap read run.0 ∙ sym (append-nil (read source))) [] [] refl
      (record { bytes = []; journaled = (refl, ap (λ (s : JournaledState). s.state) run.2); written = ap (λ (s : JournaledState). without_flushes s.journal) run.2 ∙ sym (append-nil (without_flushes start.journal)) })
