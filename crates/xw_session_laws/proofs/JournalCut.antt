-- The first lines of a journal.
use Rattle.std.proofs.Common.{◌≡◌, ℕ, Bool, true, false, List, [], ◌∷◌, ◌++◌, map, flat_map, Some, None, refl, sym, ◌∙◌, ap, subst, inl, inr, append_assoc, append-nil}
use Rattle.std.specs.Prelude.{Option, Ok, ◌⊎◌, ◌||◌, if◌then◌else◌}
use Rattle.std.specs.List.{list_any}
use Rattle.std.specs.Option.{option_and_then}
use Rattle.std.proofs.lemmas.Slice.Eq.{bytes_eq-Decides}
use Rattle.xw_grid.specs.declared.cell.Cell.{Cell}
use Rattle.xw_grid.specs.Grid.{Grid, IsGrid, entry}
use Rattle.xw_lines.specs.declared.outcome.Step.{Step}
use Rattle.xw_lines.specs.Cut.{Cut, cut, lines_of, ended_lines, last_piece, last_line, with_lfs, HasNoLf, AllHaveNoLf}
use Rattle.xw_lines.proofs.Cuts.{cut-with_lfs, cut-whole}
use Rattle.xw_commands.specs.Command.{command_of}
use Rattle.xw_commands.specs.declared.command.Command.{Command}
use Rattle.xw_commands.specs.declared.command.Command.TheVariants as all_commands
use Rattle.xw_commands.specs.declared.change.Change.{Change}
use Rattle.xw_commands.specs.declared.change.Change.TheVariants as changes
use Rattle.xw_commands.specs.declared.command.CellArg.{CellArg}
use Rattle.xw_session.specs.State.{SessionState}
use Rattle.xw_session.specs.Answer.{Answers}
use Rattle.xw_answers.specs.Record.{spot_of, letter_commands}
use Rattle.xw_journal.specs.Group.{begin_line, end_line, begins_group, ends_group, complete, grouped}
use Rattle.xw_journal.specs.Journal.{is_same_entry, entered_at, entered_commands, journal_text}
use Rattle.xw_journal.proofs.Groups.{IsClosed, none_closed, plain_closed, ended_closed, open_dropped}
use Rattle.xw_session_laws.specs.Replay.{replayed_lines}
use Rattle.xw_session_laws.specs.Journals.{IsJournaled, AreFirstLines}
use Rattle.xw_session_laws.proofs.AnsweredAgain.{both_replayed}
use Rattle.xw_session_laws.proofs.CommandsRead.{line_without_lf, read_again}
use Rattle.xw_session_laws.proofs.RecordRead.{AreRecorded}
use Rattle.xw_session_laws.proofs.JournalLines.{plain_joined, Leaves, line_leaves, grid_after_line, Replays, line_replays, lines_there, lines_again, both_there, group_lines, group_apart, group_plain}
use Rattle.xw_session_laws.proofs.JournalAgain.{journal_replays}

-- ---- lists

module _ {X : Type 0} where
  -- one of two fronts of a list is a front of the other
  pub fronts : (xs ys first more : List X) → xs ++ ys ≡ first ++ more
      → ((x : X) × (tail : List X) × (xs ≡ first ++ x ∷ tail)) ⊎ ((tail : List X) × (first ≡ xs ++ tail) × (ys ≡ tail ++ more))
  fronts [] ys first more e = inr (first, refl, e)
  fronts (x ∷ xs) ys [] more e = inl (x, xs, refl)
  fronts (x ∷ xs) ys (y ∷ first) more e =
      let head : x ≡ y = cc in
      let rest : xs ++ ys ≡ first ++ more = cc in
      elim (fronts xs ys first more rest) [
        | inl (z, tail, is) ↦ inl (z, tail, ap (λ h. h ∷ xs) head ∙ ap (λ zs. y ∷ zs) is)
        | inr (tail, is, others) ↦ inr (tail, ap (λ h. h ∷ first) (sym head) ∙ ap (λ zs. x ∷ zs) is, others)
      ]

  no_front : (first tail : List X) (x : X) (P : Type 0) → [] ≡ first ++ x ∷ tail → P
  no_front [] tail x P e = cc
  no_front (y ∷ first) tail x P e = cc

  only_front : (one x : X) (first tail : List X) → one ∷ [] ≡ first ++ x ∷ tail → first ≡ []
  only_front one x [] tail e = refl
  only_front one x (y ∷ first) tail e = let rest : [] ≡ first ++ x ∷ tail = cc in no_front first tail x (y ∷ first ≡ []) rest

pub plain_front : (front lines : List (List ℕ)) → AllHaveNoLf (front ++ lines) → AllHaveNoLf front
plain_front [] lines plain = tt
plain_front (line ∷ front) lines plain = (plain.0, plain_front front lines plain.1)

-- ---- the whole lines of the first bytes

lfs_before : (lines : List (List ℕ)) (piece rest : List ℕ) → with_lfs lines piece ++ rest ≡ with_lfs lines (piece ++ rest)
lfs_before [] piece rest = refl
lfs_before (line ∷ lines) piece rest = append_assoc line (10 ∷ with_lfs lines piece) rest ∙ ap (λ xs. line ++ 10 ∷ xs) (lfs_before lines piece rest)

lfs_twice : (front lines : List (List ℕ)) (rest : List ℕ) → with_lfs front (with_lfs lines rest) ≡ with_lfs (front ++ lines) rest
lfs_twice [] lines rest = refl
lfs_twice (line ∷ front) lines rest = ap (λ xs. line ++ 10 ∷ xs) (lfs_twice front lines rest)

ended_first : (lines : List (List ℕ)) (front rest : List ℕ) → AllHaveNoLf lines → with_lfs lines [] ≡ front ++ rest → (more : List (List ℕ)) × (lines ≡ ended_lines front ++ more)
ended_first lines front rest plain e =
    let here = cut-whole front in
    let piece = last_piece front ++ rest in
    let behind = cut-whole piece in
    let whole : with_lfs lines [] ≡ with_lfs (ended_lines front ++ ended_lines piece) (last_piece piece) =
    e ∙ ap (λ xs. xs ++ rest) here.0 ∙ lfs_before (ended_lines front) (last_piece front) rest ∙ ap (with_lfs (ended_lines front)) behind.0
    ∙ lfs_twice (ended_lines front) (ended_lines piece) (last_piece piece) in
    let cuts = sym (cut-with_lfs lines [] plain tt) ∙ ap cut whole
    ∙ cut-with_lfs (ended_lines front ++ ended_lines piece) (last_piece piece) (plain_joined (ended_lines front) (ended_lines piece) here.1 behind.1) behind.2 in
    (ended_lines piece, ap (λ (c : Cut). c.ended) cuts)

-- a line alone
alone : (line : List ℕ) → HasNoLf line → lines_of (line ++ 10 ∷ []) ≡ line ∷ []
alone line plain = ap (λ (c : Cut). c.ended ++ last_line c.rest) (cut-with_lfs (line ∷ []) [] (plain, tt) tt)

-- ---- letters that were entered

abbrev pub IsSet : Change → Type 0
IsSet change = (at : CellArg) × (letter : ℕ) × (change ≡ changes.Set at letter)

abbrev pub AreSets : List Change → Type 0
AreSets [] = Unit {0}
AreSets (command ∷ rest) = IsSet command × AreSets rest

both_sets : (front rest : List Change) → AreSets front → AreSets rest → AreSets (front ++ rest)
both_sets [] rest a b = b
both_sets (command ∷ front) rest a b = (a.0, both_sets front rest a.1 b)

pub entered_sets : (before after : Grid) (all : List Cell) → AreSets (flat_map (entered_at before after) all)
entered_sets before after [] = tt
entered_sets before after (cell ∷ all) =
    both_sets (entered_at before after cell) (flat_map (entered_at before after) all) (by_entry (is_same_entry (entry before cell) (entry after cell)) (entry after cell)) (entered_sets before after all) where
      by_entry : (same : Bool) (entry : Option ℕ) → AreSets (if same then [] else letter_commands cell entry)
      by_entry true entry = tt
      by_entry false None = tt
      by_entry false (Some letter) = ((spot_of cell, letter, refl), tt)

-- ---- lines that begin or end a group

begins_comment : (line : List ℕ) (command : Command) → command_of line ≡ Ok (Some command) → line ≡ begin_line → ⊥
begins_comment line command read is = let bad : command_of begin_line ≡ Ok (Some command) = ap command_of (sym is) ∙ read in cc

ends_comment : (line : List ℕ) (command : Command) → command_of line ≡ Ok (Some command) → line ≡ end_line → ⊥
ends_comment line command read is = let bad : command_of end_line ≡ Ok (Some command) = ap command_of (sym is) ∙ read in cc

-- a command neither begins nor ends a group
begins_none : (line : List ℕ) (command : Command) → command_of line ≡ Ok (Some command) → begins_group line ≡ false
begins_none line command read = by_test (begins_group line) refl where
  by_test : (t : Bool) → begins_group line ≡ t → t ≡ false
  by_test true e = absurd (begins_comment line command read ((bytes_eq-Decides line begin_line).0 e))
  by_test false e = refl

ends_none : (line : List ℕ) (command : Command) → command_of line ≡ Ok (Some command) → ends_group line ≡ false
ends_none line command read = by_test (ends_group line) refl where
  by_test : (t : Bool) → ends_group line ≡ t → t ≡ false
  by_test true e = absurd (ends_comment line command read ((bytes_eq-Decides line end_line).0 e))
  by_test false e = refl

-- no first lines of recorded commands end a group
no_tail : (first tail : List (List ℕ)) → [] ≡ first ++ tail → tail ≡ []
no_tail [] tail e = sym e
no_tail (line ∷ first) tail e = cc

no_end : (commands : List Change) (first : List (List ℕ)) (tail : List (List ℕ)) → AreRecorded commands → map line_without_lf commands ++ end_line ∷ [] ≡ first ++ tail
    → (tail ≡ [] → ⊥) → list_any ends_group first ≡ false
no_end commands [] tail recorded e behind = refl
no_end [] (line ∷ first) tail recorded e behind =
    let none : [] ≡ first ++ tail = cc in absurd (behind (no_tail first tail none))
no_end (command ∷ commands) (line ∷ first) tail recorded e behind =
    let head : line_without_lf command ≡ line = cc in
    let rest : map line_without_lf commands ++ end_line ∷ [] ≡ first ++ tail = cc in
    let other : ends_group line ≡ false = ap ends_group (sym head) ∙ ends_none (line_without_lf command) (all_commands.Change command) (read_again command recorded.0).2 in
    ap (λ t. t || list_any ends_group first) other ∙ no_end commands first tail recorded.1 rest behind

-- ---- the first lines of a journal

-- none of the lines is done
nothing_done : (start end : SessionState) (lines : List (List ℕ)) (journal : List ℕ) → IsJournaled start lines journal end → AreFirstLines start lines journal end []
nothing_done start end lines journal done = record {
  begins = (lines_of journal, refl);
  parts = record {
    done = [];
    others = lines;
    of_lines = refl;
    bytes = [];
    rest = journal;
    of_journal = refl;
    mid = start;
    so_far = (refl, refl);
    further = done;
  };
  are = refl;
  again = refl;
}

-- the lines of a group, and first lines of them
group_closed : (commands : List Change) → IsClosed (group_lines commands)
group_closed commands = ended_closed (begin_line ∷ map line_without_lf commands)

group_begun : (commands : List Change) → AreRecorded commands → (first tail : List (List ℕ)) (next : List ℕ) → group_lines commands ≡ first ++ next ∷ tail → complete first ≡ []
group_begun commands recorded [] tail next e = refl
group_begun commands recorded (line ∷ first) tail next e =
    let head : begin_line ≡ line = cc in
    let rest : map line_without_lf commands ++ end_line ∷ [] ≡ first ++ next ∷ tail = cc in
    ap (λ l. complete (l ∷ first)) (sym head) ∙ open_dropped [] first none_closed (no_end commands first (next ∷ tail) recorded rest (λ none. cc))

grouped_lines : (command : Change) (commands : List Change) → AreRecorded (command ∷ commands) → lines_of (grouped (command ∷ commands)) ≡ group_lines (command ∷ commands)
grouped_lines command commands recorded =
    let lines = group_lines (command ∷ commands) in
    ap lines_of (group_apart command commands recorded) ∙ ap (λ (c : Cut). c.ended ++ last_line c.rest) (cut-with_lfs lines [] (group_plain (command ∷ commands) recorded) tt) ∙ append-nil lines

-- the text of one line is closed, and of a part of it nothing counts
pub record IsUnit (text : List ℕ) : Type 0 where
  pub closed : IsClosed (lines_of text)
  pub begun : (first tail : List (List ℕ)) (next : List ℕ) → lines_of text ≡ first ++ next ∷ tail → complete first ≡ []

no_unit : IsUnit []
no_unit = record { closed = none_closed; begun = λ first tail next e. no_front first tail next (complete first ≡ []) e }

line_unit : (line : List ℕ) → HasNoLf line → (command : Command) → command_of line ≡ Ok (Some command) → IsUnit (line ++ 10 ∷ [])
line_unit line plain command read = record {
  closed = subst IsClosed (sym (alone line plain)) (plain_closed [] line none_closed (begins_none line command read));
  begun = λ first tail next e. ap complete (only_front line next first tail (sym (alone line plain) ∙ e));
}

group_unit : (commands : List Change) → AreRecorded commands → IsUnit (grouped commands)
group_unit [] recorded = no_unit
group_unit (command ∷ commands) recorded = record {
  closed = subst IsClosed (sym (grouped_lines command commands recorded)) (group_closed (command ∷ commands));
  begun = λ first tail next e. group_begun (command ∷ commands) recorded first tail next (sym (grouped_lines command commands recorded) ∙ e);
}

left_unit : (state : SessionState) (line text : List ℕ) (next : SessionState) → HasNoLf line → Leaves state line text next → IsUnit text
left_unit state line text next plain (inl (none, same)) = subst IsUnit (sym none) no_unit
left_unit state line text next plain (inr (inl (is, left, (command, read)))) = subst IsUnit (sym is) (line_unit line plain command read)
left_unit state line text next plain (inr (inr enters)) = subst IsUnit (sym enters.text-is) (group_unit (entered_commands state.engine.grid next.engine.grid) enters.recorded)

module _ (start mid end : SessionState) (line : List ℕ) (lines : List (List ℕ)) (outcome : Step) (answer others journal : List ℕ)
    (said : Answers start line outcome answer mid) (rest : IsJournaled mid lines others end)
    (journal-is : journal ≡ journal_text start.engine.grid line outcome mid.engine.grid ++ others) where
  abbrev text : List ℕ
  text = journal_text start.engine.grid line outcome mid.engine.grid

  abbrev whole : IsJournaled start (line ∷ lines) journal end
  whole = (outcome, answer, mid, others, said, rest, journal-is)

  module _ (is : IsGrid start.engine.grid) (plain : HasNoLf line) (plain_lines : AllHaveNoLf lines) where
    leaves : Leaves start line text mid
    leaves = line_leaves start is line outcome answer mid said

    one : Replays start text mid
    one = line_replays start line text mid plain leaves

    two : Replays mid others end
    two = journal_replays lines mid end others (grid_after_line start is line outcome answer mid said) plain_lines rest

    all_lines : lines_of journal ≡ lines_of text ++ lines_of others
    all_lines = ap lines_of journal-is ∙ both_there start mid end text others one two

    -- the line is done
    line_done : (first tail : List (List ℕ)) → first ≡ lines_of text ++ tail → AreFirstLines mid lines others end tail → AreFirstLines start (line ∷ lines) journal end first
    line_done first tail first-is cuts =
        let p = cuts.parts in
        let plain_done = plain_front p.done p.others (subst AllHaveNoLf p.of_lines plain_lines) in
        let more_done = journal_replays p.done mid p.mid p.bytes (grid_after_line start is line outcome answer mid said) plain_done p.so_far in
        record {
          begins = (cuts.begins.0, all_lines ∙ ap (λ xs. lines_of text ++ xs) cuts.begins.1 ∙ sym (append_assoc (lines_of text) tail cuts.begins.0) ∙ ap (λ xs. xs ++ cuts.begins.0) (sym first-is));
          parts = record {
            done = line ∷ p.done;
            others = p.others;
            of_lines = ap (λ xs. line ∷ xs) p.of_lines;
            bytes = text ++ p.bytes;
            rest = p.rest;
            of_journal = journal-is ∙ ap (λ xs. text ++ xs) p.of_journal ∙ sym (append_assoc text p.bytes p.rest);
            mid = p.mid;
            so_far = (outcome, answer, mid, p.bytes, said, p.so_far, refl);
            further = p.further;
          };
          are = first-is ∙ ap (λ xs. lines_of text ++ xs) cuts.are ∙ sym (both_there start mid p.mid text p.bytes one more_done);
          again = ap (replayed_lines start) first-is ∙ both_replayed start (lines_of text) tail ∙ ap (option_and_then (λ mid. replayed_lines mid tail)) (lines_again start mid text one) ∙ cuts.again;
        }

    by_fronts : (first more : List (List ℕ))
        → ((next : List ℕ) × (tail : List (List ℕ)) × (lines_of text ≡ first ++ next ∷ tail)) ⊎ ((tail : List (List ℕ)) × (first ≡ lines_of text ++ tail) × (lines_of others ≡ tail ++ more))
        → ((tail : List (List ℕ)) → lines_of others ≡ tail ++ more → AreFirstLines mid lines others end (complete tail)) → AreFirstLines start (line ∷ lines) journal end (complete first)
    by_fronts first more (inl (next, tail, front)) cuts =
        subst (AreFirstLines start (line ∷ lines) journal end) (sym ((left_unit start line text mid plain leaves).begun first tail next front)) (nothing_done start end (line ∷ lines) journal whole)
    by_fronts first more (inr (tail, front, behind)) cuts =
        line_done (complete first) (complete tail) (ap complete front ∙ (left_unit start line text mid plain leaves).closed tail) (cuts tail behind)

    line_cut : (first more : List (List ℕ)) → lines_of journal ≡ first ++ more → ((tail : List (List ℕ)) → lines_of others ≡ tail ++ more → AreFirstLines mid lines others end (complete tail))
        → AreFirstLines start (line ∷ lines) journal end (complete first)
    line_cut first more parts cuts = by_fronts first more (fronts (lines_of text) (lines_of others) first more (sym all_lines ∙ parts)) cuts

no_lines : (first more : List (List ℕ)) → [] ≡ first ++ more → first ≡ []
no_lines [] more e = refl
no_lines (line ∷ first) more e = cc

first_lines_cut : (lines : List (List ℕ)) (start end : SessionState) (journal : List ℕ) (first more : List (List ℕ)) → IsGrid start.engine.grid → AllHaveNoLf lines → IsJournaled start lines journal end → lines_of journal ≡ first ++ more
    → AreFirstLines start lines journal end (complete first)
first_lines_cut [] start end journal first more is plain done parts =
    subst (AreFirstLines start [] journal end) (ap complete (sym (no_lines first more (ap lines_of (sym done.0) ∙ parts)))) (nothing_done start end [] journal done)
first_lines_cut (line ∷ lines) start end journal first more is plain (outcome, answer, mid, others, said, rest, journal-is) parts =
    line_cut start mid end line lines outcome answer others journal said rest journal-is is plain.0 plain.1 first more parts
    (λ tail behind. first_lines_cut lines mid end others tail more (grid_after_line start is line outcome answer mid said) plain.1 rest behind)

pub journal_cut : (start end : SessionState) (lines : List (List ℕ)) (journal front rest : List ℕ) → IsGrid start.engine.grid → AllHaveNoLf lines → IsJournaled start lines journal end
    → journal ≡ front ++ rest → AreFirstLines start lines journal end (complete (ended_lines front))
journal_cut start end lines journal front rest is plain done parts =
    let whole = journal_replays lines start end journal is plain done in
    let first = ended_first whole.lines front rest whole.plain (sym whole.whole ∙ parts) in
    first_lines_cut lines start end journal (ended_lines front) first.0 is plain done (lines_there start end journal whole ∙ first.1)
