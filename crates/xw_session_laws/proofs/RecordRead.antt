-- The lines of a record, parsed and executed one after another.
use Rattle.std.proofs.Common.{◌≡◌, ℕ, ◌+◌, ◌*◌, ◌<◌, ◌≤◌, zero, suc, Bool, true, false, List, [], ◌∷◌, ◌++◌, length, map, drop, get_or, flat_map, Some, None, refl, sym, ◌∙◌, ap, inl, inr, subst, append-nil, append_assoc, zero-add, arith}
use Rattle.std.specs.Prelude.{Option, Result, Ok, ◌==◌, if◌then◌else◌}
use Rattle.std.specs.Option.{option_and_then}
use Rattle.std.specs.List.{range_with_len}
use Rattle.std.proofs.lemmas.Bool.{cases_lt}
use Rattle.std.proofs.lemmas.List.{length-drop, length-take, get_or-drop}
use Rattle.std.proofs.lemmas.List.Elements.{All-get_or}
use Rattle.std.proofs.lemmas.List.FromFn.{get_or-range_with_len, length-range_with_len}
use Rattle.xw_words.specs.Dictionary.{Dictionary, Entry, IsDictionary, known_words, no_entry, best_grade}
use Rattle.xw_grid.specs.declared.cell.Cell.{Cell}
use Rattle.xw_grid.specs.declared.cell.Direction.{Direction}
use Rattle.xw_grid.specs.declared.cell.Square.{Square}
use Rattle.xw_grid.specs.declared.cell.Square.TheVariants as squares
use Rattle.xw_grid.specs.Grid.{Grid, IsGrid, IsSquare, cell_at, cells, entry, letter_in, is_block, is_barred}
use Rattle.xw_grid.specs.Clue.{ClueMap, clue_at, is_circled}
use Rattle.xw_grid.proofs.GridLemmas.{cell_at-inside, inside_small, length-cells}
use Rattle.xw_commands.specs.declared.command.Command.{Command}
use Rattle.xw_commands.specs.declared.command.Command.TheVariants as commands
use Rattle.xw_commands.specs.declared.change.Change.{Change}
use Rattle.xw_commands.specs.declared.change.Change.TheVariants as changes
use Rattle.xw_commands.specs.declared.command.Field.{Field}
use Rattle.xw_commands.specs.declared.command.Field.TheVariants as fields
use Rattle.xw_commands.specs.declared.command.SyntaxFault.{SyntaxFault}
use Rattle.xw_answers.specs.declared.record.Part.{Part}
use Rattle.xw_answers.specs.declared.record.Part.TheVariants as parts
use Rattle.xw_session.specs.declared.session.recording.Section.{Section}
use Rattle.xw_session.specs.declared.session.recording.Section.TheVariants as sections
use Rattle.xw_session.specs.State.{SessionState}
use Rattle.xw_commands.specs.Command.{command_of}
use Rattle.xw_lines.specs.Cut.{Cut, cut, lines_of, last_line, with_lfs, AllHaveNoLf}
use Rattle.xw_session.specs.Put.{text_of_field}
use Rattle.xw_session.specs.Reply.{changed}
use Rattle.xw_answers.specs.Record.{spot_of, piece_at, further_pieces, more_command, text_commands, add_command, regrade_commands, strike_commands, row_commands, length_commands, least_commands, letter_commands, clue_commands, cell_commands, part_commands, command_lines}
use Rattle.xw_session.specs.Record.{section_commands, record_sections, record_commands, record_lines}
use Rattle.xw_session_laws.specs.Replay.{state_left, replayed, left_by_line, replayed_lines, BeganWith}
use Rattle.xw_lines.proofs.Cuts.{cut-with_lfs}
use Rattle.xw_answers.proofs.LightTexts.{cell_in_order}
use Rattle.xw_session_laws.proofs.CellsAgain.{square_is}
use Rattle.xw_session_laws.proofs.CommandsRead.{IsRecorded, IsKnownWord, IsSmallGrade, IsSmallField, line_without_lf, read_again}

-- ---- the commands of records

abbrev pub AreRecorded : List Change → Type 0
AreRecorded [] = Unit {0}
AreRecorded (command ∷ commands) = IsRecorded command × AreRecorded commands

pub both_recorded : (front rest : List Change) → AreRecorded front → AreRecorded rest → AreRecorded (front ++ rest)
both_recorded [] rest a b = b
both_recorded (command ∷ front) rest a b = (a.0, both_recorded front rest a.1 b)

pub each_recorded : {X : Type 0} (made : X → List Change) (d : X) (xs : List X) → ((i : ℕ) → i < length xs → AreRecorded (made (get_or xs i d))) → AreRecorded (flat_map made xs)
each_recorded made d [] are = tt
each_recorded made d (x ∷ xs) are =
    both_recorded (made x) (flat_map made xs) (are 0 (omega arith)) (each_recorded made d xs (λ i within. are (suc i) (omega (arith, within))))

-- ---- words

-- the letters and the grade of a known word
abbrev IsKnown : Entry → Type 0
IsKnown entry = IsKnownWord entry.word × (entry.grade ≤ best_grade)

named_small : (grade : ℕ) (b : Bool) → grade ≤ best_grade → IsSmallGrade (if b then None else Some grade)
named_small grade true small = tt
named_small grade false small = small

adds_recorded : (entries : List Entry) → ((k : ℕ) → k < length entries → IsKnown (get_or entries k no_entry)) → AreRecorded (map add_command entries)
adds_recorded [] known = tt
adds_recorded (e ∷ entries) known =
    let first = known 0 (omega arith) in
    ((first.0, named_small e.grade (e.grade == best_grade) first.1), adds_recorded entries (λ k within. known (suc k) (omega (arith, within))))

regrade_recorded : (e : Entry) (b : Bool) → IsKnown e → AreRecorded (if b then changes.Strike e.word ∷ changes.Add e.word (Some e.grade) ∷ [] else [])
regrade_recorded e true known = (known.0, ((known.0, known.1), tt))
regrade_recorded e false known = tt

strike_recorded : (e : Entry) (b : Bool) → IsKnown e → AreRecorded (if b then changes.Strike e.word ∷ [] else [])
strike_recorded e true known = (known.0, tt)
strike_recorded e false known = tt

row_recorded : (entries : List Entry) (n : ℕ) → ((k : ℕ) → k < length entries → IsKnown (get_or entries k no_entry)) → AreRecorded (row_commands entries n)
row_recorded entries n known =
    both_recorded (map add_command (drop n entries)) (flat_map regrade_commands entries ++ flat_map strike_commands entries)
    (adds_recorded (drop n entries) (λ k within. subst IsKnown (sym (get_or-drop n entries k no_entry)) (known (n + k) (omega (arith, within, length-drop n entries)))))
    (both_recorded (flat_map regrade_commands entries) (flat_map strike_commands entries)
    (each_recorded regrade_commands no_entry entries (λ k within. regrade_recorded (get_or entries k no_entry) (get_or entries k no_entry).regraded (known k within)))
    (each_recorded strike_commands no_entry entries (λ k within. strike_recorded (get_or entries k no_entry) (get_or entries k no_entry).struck (known k within))))

known_in_row : (words : Dictionary) (count : ℕ) → IsDictionary words → count < 256 → (k : ℕ) → k < length (known_words words count) → IsKnown (get_or (known_words words count) k no_entry)
known_in_row words count is below k within =
    let are = is.words count in
    let size : length (get_or (known_words words count) k no_entry).word ≡ count = are.long k no_entry within in
    let several : 2 ≤ count = at_least (known_words words count) (is.none_shorter count) within in
    ((are.letters k no_entry within, omega (arith, size, several), omega (arith, size, below)), are.graded k no_entry within)
  where
    at_least : (entries : List Entry) → (count < 2 → entries ≡ []) → k < length entries → 2 ≤ count
    at_least entries none l = elim (cases_lt count 2) [
      | inl short ↦ let few : length entries ≡ 0 = ap length (none short) in absurd (omega (arith, few, l))
      | inr long ↦ long
    ]

words_recorded : (begun : List ℕ) (words : Dictionary) → IsDictionary words → (n : ℕ) → n ≤ 256 → AreRecorded (flat_map (length_commands begun words) (range_with_len 0 n))
words_recorded begun words is n most =
    each_recorded (length_commands begun words) 0 (range_with_len 0 n) (λ i within.
    let below : i < n = omega (arith, within, length-range_with_len 0 n) in
    let at : get_or (range_with_len 0 n) i 0 ≡ i = get_or-range_with_len 0 n i 0 below ∙ zero-add i in
    subst (λ count. AreRecorded (length_commands begun words count)) (sym at) (row_recorded (known_words words i) (get_or begun i 0) (known_in_row words i is (omega (arith, below, most)))))

least_recorded : (least : ℕ) (b : Bool) → least ≤ best_grade → AreRecorded (if b then [] else changes.Least least ∷ [])
least_recorded least true small = tt
least_recorded least false small = (small, tt)

-- ---- texts

pieces_recorded : (field : Field) (text : List ℕ) (k n : ℕ) → IsSmallField field → AreRecorded (map (more_command field text) (range_with_len k n))
pieces_recorded field text k zero small = tt
pieces_recorded field text k (suc n) small =
    ((small, piece_at text (k + 1), refl, omega (arith, length-take 2000 (drop (2000 * (k + 1)) text))), pieces_recorded field text (k + 1) n small)

text_recorded : (field : Field) (text : List ℕ) → IsSmallField field → AreRecorded (text_commands field text)
text_recorded field text small =
    ((small, piece_at text 0, refl, omega (arith, length-take 2000 (drop (2000 * 0) text))), pieces_recorded field text 0 (further_pieces text) small)

-- ---- cells

module _ (grid : Grid) (is : IsGrid grid) (clues : ClueMap) (circles : List Cell) where
  if_recorded : (command : Change) (b : Bool) → IsRecorded command → AreRecorded (if b then command ∷ [] else [])
  if_recorded command true good = (good, tt)
  if_recorded command false good = tt

  module _ (k : ℕ) (below : k < grid.width * grid.height) where
    abbrev here : Cell
    here = cell_at grid k

    small : (here.row ≤ 255) × (here.col ≤ 255)
    small = inside_small grid here is (cell_at-inside grid k is below)

    square_recorded : (square : Square) → IsSquare square → AreRecorded (letter_commands here (letter_in (Some square)))
    square_recorded squares.Block good = tt
    square_recorded (squares.Open None) good = tt
    square_recorded (squares.Open (Some letter)) good = ((small, good), tt)

    letter_recorded : AreRecorded (letter_commands here (entry grid here))
    letter_recorded =
        let within : k < length grid.squares = omega (arith, below, is.squares) in
        subst (λ square. AreRecorded (letter_commands here (letter_in square))) (sym (square_is grid k (cell_at-inside grid k is below) within))
        (square_recorded (get_or grid.squares k squares.Block) (All-get_or IsSquare grid.squares k squares.Block within is.letters))

    clue_recorded : (way : Direction) (text : List ℕ) → AreRecorded (clue_commands here way text)
    clue_recorded way [] = tt
    clue_recorded way (byte ∷ bytes) = text_recorded (fields.Clue (spot_of here) way) (byte ∷ bytes) small

    cell_recorded : (part : Part) → AreRecorded (cell_commands grid clues circles part here)
    cell_recorded parts.Circles = if_recorded (changes.Circle (spot_of here)) (is_circled circles here) small
    cell_recorded (parts.Bars side) = if_recorded (changes.Bar (spot_of here) side) (is_barred grid here side) small
    cell_recorded parts.Blocks = if_recorded (changes.Block (spot_of here)) (is_block grid here) small
    cell_recorded parts.Letters = letter_recorded
    cell_recorded (parts.Clues way) = clue_recorded way (clue_at clues here way)

  part_recorded : (part : Part) → AreRecorded (part_commands grid clues circles part)
  part_recorded part =
      each_recorded (cell_commands grid clues circles part) (cell_at grid 0) (cells grid) (λ k within.
      let below : k < grid.width * grid.height = omega (arith, within, length-cells grid) in
      subst (λ cell. AreRecorded (cell_commands grid clues circles part cell)) (sym (cell_in_order grid k (cell_at grid 0) below)) (cell_recorded k below part))

-- ---- the whole record

section_recorded : (words : Dictionary) (made : SessionState) → BeganWith words made → (section : Section) → AreRecorded (section_commands made section)
section_recorded words made is sections.Words =
    let least = made.engine.words.least in
    both_recorded (flat_map (length_commands made.begun made.engine.words) (range_with_len 0 256)) (least_commands least)
    (words_recorded made.begun made.engine.words is.dictionary 256 (omega arith)) (least_recorded least (least == 0) is.dictionary.least)
section_recorded words made is sections.Size = ((is.grid.wide.1, is.grid.high.1), tt)
section_recorded words made is (sections.Cells part) = part_recorded made.engine.grid is.grid made.clues made.circles part
section_recorded words made is sections.Symmetry = (tt, tt)
section_recorded words made is (sections.Text name) = text_recorded (fields.Text name) (text_of_field made.texts name) tt
section_recorded words made is sections.Watch = (tt, tt)

record_recorded : (words : Dictionary) (made : SessionState) → BeganWith words made → AreRecorded (record_commands made)
record_recorded words made is = each_recorded (section_commands made) sections.Words record_sections (λ i within. section_recorded words made is (get_or record_sections i sections.Words))

-- ---- lines

abbrev read_as : Change → Result (Option Command) SyntaxFault
read_as change = Ok (Some (commands.Change change))

pub no_lf_in : (commands : List Change) → AreRecorded commands → AllHaveNoLf (map line_without_lf commands)
no_lf_in [] are = tt
no_lf_in (command ∷ commands) are = ((read_again command are.0).1, no_lf_in commands are.1)

pub lines_apart : (commands : List Change) → AreRecorded commands → command_lines commands ≡ with_lfs (map line_without_lf commands) []
lines_apart [] are = refl
lines_apart (command ∷ commands) are =
    ap (λ front. front ++ command_lines commands) (read_again command are.0).0
    ∙ append_assoc (line_without_lf command) (10 ∷ []) (command_lines commands)
    ∙ ap (λ rest. line_without_lf command ++ 10 ∷ rest) (lines_apart commands are.1)

pub lines_are : (commands : List Change) → AreRecorded commands → lines_of (command_lines commands) ≡ map line_without_lf commands
lines_are commands are =
    let lines = map line_without_lf commands in
    let is : cut (command_lines commands) ≡ record { ended = lines; rest = [] } = ap cut (lines_apart commands are) ∙ cut-with_lfs lines [] (no_lf_in commands are) tt in
    ap (λ (c : Cut). c.ended ++ last_line c.rest) is ∙ append-nil lines

each_read : (commands : List Change) → AreRecorded commands → map command_of (map line_without_lf commands) ≡ map read_as commands
each_read [] are = refl
each_read (command ∷ commands) are =
    ap (λ found. found ∷ map command_of (map line_without_lf commands)) (read_again command are.0).2 ∙ ap (λ rest. read_as command ∷ rest) (each_read commands are.1)

next_the_same : (left : Option SessionState) (f g : SessionState → Option SessionState) → ((next : SessionState) → f next ≡ g next) → option_and_then f left ≡ option_and_then g left
next_the_same None f g same = refl
next_the_same (Some next) f g same = same next

pub replayed_as_read : (state : SessionState) (commands : List Change) → AreRecorded commands → replayed_lines state (map line_without_lf commands) ≡ replayed state commands
replayed_as_read state [] are = refl
replayed_as_read state (command ∷ commands) are =
    ap (λ found. option_and_then (λ next. replayed_lines next (map line_without_lf commands)) (left_by_line state found)) (read_again command are.0).2
    ∙ next_the_same (state_left (changed state command)) (λ next. replayed_lines next (map line_without_lf commands)) (λ next. replayed next commands) (λ next. replayed_as_read next commands are.1)

module _ (words : Dictionary) (made : SessionState) (is : BeganWith words made) where
  -- each line of a record parses as its command
  pub lines_read : map command_of (lines_of (record_lines made)) ≡ map read_as (record_commands made)
  lines_read =
      let are = record_recorded words made is in
      ap (map command_of) (lines_are (record_commands made) are) ∙ each_read (record_commands made) are

  -- the lines do what the commands do
  pub lines_done : (state : SessionState) → replayed_lines state (lines_of (record_lines made)) ≡ replayed state (record_commands made)
  lines_done state =
      let are = record_recorded words made is in
      ap (replayed_lines state) (lines_are (record_commands made) are) ∙ replayed_as_read state (record_commands made) are
