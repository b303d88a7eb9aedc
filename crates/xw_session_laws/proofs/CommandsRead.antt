-- The line of each command of a record parses as the command.
use Rattle.std.proofs.Common.{◌≡◌, ℕ, ◌+◌, ◌-◌, ◌*◌, ◌<◌, ◌≤◌, suc, Bool, true, false, not, ◌&&◌, ◌||◌, le-leb, List, [], ◌∷◌, ◌++◌, length, get_or, take, flat_map, codes, Some, None, refl, sym, ◌∙◌, ap, subst, append-nil, arith}
use Rattle.std.specs.Prelude.{Option, Ok, Err, decimal, nat_lt, nat_eq, slice_index, if◌then◌else◌, All}
use Rattle.std.specs.List.{list_all, range_with_len}
use Rattle.std.proofs.lemmas.Bool.{ne_eqb}
use Rattle.std.proofs.lemmas.Bool.Decides.{nat_tests}
use Rattle.std.proofs.lemmas.List.{length-append}
use Rattle.std.proofs.lemmas.List.FromFn.{length-range_with_len}
use Rattle.xw_letters.specs.Letter.{IsLetter}
use Rattle.xw_grid.specs.declared.cell.Direction.{Direction}
use Rattle.xw_grid.specs.declared.cell.Direction.TheVariants.{Across, Down}
use Rattle.xw_grid.specs.declared.cell.Side.{Side}
use Rattle.xw_grid.specs.declared.cell.Side.TheVariants.{Right, Below}
use Rattle.xw_grid.specs.declared.cell.Symmetry.{Symmetry}
use Rattle.xw_grid.specs.declared.cell.Symmetry.TheVariants as kinds
use Rattle.xw_commands.specs.declared.command.Command.TheVariants as commands
use Rattle.xw_commands.specs.declared.change.Change.{Change}
use Rattle.xw_commands.specs.declared.change.Change.TheVariants as changes
use Rattle.xw_commands.specs.declared.command.Field.{Field}
use Rattle.xw_commands.specs.declared.command.Field.TheVariants as fields
use Rattle.xw_commands.specs.declared.command.TextMode.TheVariants.{Instead, Behind}
use Rattle.xw_commands.specs.declared.command.CellArg.{CellArg}
use Rattle.xw_commands.specs.declared.command.SyntaxFault.TheVariants as faults
use Rattle.xw_commands.specs.declared.command.TextField.{TextField}
use Rattle.xw_commands.specs.declared.command.TextField.TheVariants.{Title, Author, Copyright, Notes}
use Rattle.xw_commands.specs.Query.{queries}
use Rattle.xw_commands.specs.Change.{changes as change_changes, change_named}
use Rattle.xw_commands.specs.Search.{searches}
use Rattle.xw_commands.specs.Command.{command_named, reading_of, command_in, command_of, whole}
use Rattle.xw_lines.specs.Cut.{HasNoLf}
use Rattle.xw_answers.specs.Escape.{letter_for, escaped, is_end, spelled_at, escaped_text}
use Rattle.xw_commands.specs.Line.{without_cr, first_word, trimmed_start, trimmed_end, trimmed}
use Rattle.xw_commands.specs.Reading.{Reading, ◌>>=◌, given, then_others, lookup, reading_if_any, number, grade, grade_if_any, byte, word, text, side, direction, switch, symmetry, spot, text_name, field_named, field}
use Rattle.xw_commands.specs.Names.{direction_name, side_name, symmetry_name, switch_name, field_name, clue_name, text_fields}
use Rattle.xw_answers.specs.Spelling.{in_field, command_words, command_line}
use Rattle.xw_answers.specs.Text.{line_of}
use Rattle.xw_session_laws.proofs.LinesRead.{spaced, line_parts, first_read, reads_word, then_read, is_high, each_weaker, IsHigh, high_word, short_number, high_number, reads_number, reads_grade, reads_no_grade, reads_some_grade, reads_spot, reads_byte, reads_key, reads_side, reads_direction, reads_switch, reads_symmetry, space_first, both, list_all_both}
use Rattle.xw_commands.proofs.Passing.{each_passes}
use Rattle.xw_session_laws.proofs.SpelledLines.{IsInked, inked, starts_inked, spelled_trimmed}

-- ---- bytes that may occur in a line: no LF and no CR

abbrev pub stands : ℕ → Bool
stands byte = not (nat_eq byte 10 || nat_eq byte 13)

not_either : (a b : Bool) → not (a || b) ≡ true → (a ≡ false) × (b ≡ false)
not_either false false e = (refl, refl)
not_either false true e = cc
not_either true b e = cc

all_joined : (p : ℕ → Bool) (xs ys : List ℕ) → list_all p xs ≡ true → list_all p ys ≡ true → list_all p (xs ++ ys) ≡ true
all_joined p [] ys e f = f
all_joined p (x ∷ xs) ys e f = let parts = both (p x) (list_all p xs) e in list_all_both p x (xs ++ ys) parts.0 (all_joined p xs ys parts.1 f)

no_lf : (line : List ℕ) → list_all stands line ≡ true → HasNoLf line
no_lf [] h = tt
no_lf (b ∷ bs) h =
    let parts = both (stands b) (list_all stands bs) h in
    let other : nat_eq b 10 ≡ false = (not_either (nat_eq b 10) (nat_eq b 13) parts.0).0 in
    ((λ e. (let bad : nat_eq b 10 ≡ true = ap (λ n. nat_eq n 10) e in cc)), no_lf bs parts.1)

no_cr : (line : List ℕ) → list_all stands line ≡ true → without_cr line ≡ line
no_cr [] h = refl
no_cr (b ∷ bs) h =
    let line = b ∷ bs in
    let last = get_or line (length line - 1) 0 in
    let within : length line - 1 < length line = omega arith in
    let plain : nat_eq last 13 ≡ false = (not_either (nat_eq last 10) (nat_eq last 13) (each_passes stands line (length line - 1) 0 within h)).1 in
    ap (λ t. if t then take (length line - 1) line else line) plain

high_stands : (byte : ℕ) → is_high byte ≡ true → stands byte ≡ true
high_stands byte h =
    let high : 48 ≤ byte = grind (arith, nat_tests, h) in
    ap (λ b. not (b || nat_eq byte 13)) (ne_eqb byte 10 (λ e. absurd (omega (arith, e, high)))) ∙ ap (λ b. not (false || b)) (ne_eqb byte 13 (λ e. absurd (omega (arith, e, high))))

-- ---- words that fit in a line, counted with the spaces before them

abbrev Fit : ℕ → List (List ℕ) → Type 0
Fit most ws = (list_all stands (spaced ws) ≡ true) × (length (spaced ws) ≤ most)

none_fit : Fit 0 []
none_fit = (refl, omega arith)

more_fit : (n m : ℕ) (w : List ℕ) (ws : List (List ℕ)) → list_all stands w ≡ true → length w ≤ n → Fit m ws → Fit (1 + n + m) (w ∷ ws)
more_fit n m w ws plain short fit =
    (list_all_both stands 32 (w ++ spaced ws) refl (all_joined stands w (spaced ws) plain fit.0), omega (arith, length-append w (spaced ws), short, fit.1))

high_fit : (n m : ℕ) (w : List ℕ) (ws : List (List ℕ)) → IsHigh w → length w ≤ n → Fit m ws → Fit (1 + n + m) (w ∷ ws)
high_fit n m w ws high short fit = more_fit n m w ws (each_weaker is_high stands high_stands w high.1) short fit

number_fit : (number m : ℕ) (ws : List (List ℕ)) → number ≤ 255 → Fit m ws → Fit (1 + 3 + m) (decimal number ∷ ws)
number_fit number m ws small fit = high_fit 3 m (decimal number) ws (high_number number small) (short_number number small) fit

-- ---- the line of a command, from its words

abbrev pub IsReadAs : List ℕ → Change → Type 0
IsReadAs line change = HasNoLf line × (command_of line ≡ Ok (Some (commands.Change change)))

-- a change that is read is the command
as_command : (name rest : List ℕ) (change : Change) (found : Option (Reading Change)) → lookup queries name ≡ None → lookup change_changes name ≡ found → reading_if_any found rest ≡ Ok (change, [])
    → command_named name rest ≡ Ok (commands.Change change, [])
as_command name rest change None no_query is e = cc
as_command name rest change (Some reading) no_query is e =
    ap (λ query. reading_of query (lookup change_changes name) (lookup searches name) rest) no_query
    ∙ ap (λ found. reading_of None found (lookup searches name) rest) is
    ∙ ap (λ found. then_others found (λ change. given (commands.Change change))) e

short_line : (line : List ℕ) → length line ≤ 4096 → nat_lt 4096 (length line) ≡ false
short_line line h = grind (arith, nat_tests, h)

line_read : (name : List ℕ) (ws : List (List ℕ)) (command : Change) (n m : ℕ) → IsHigh name → length name ≤ n → Fit m ws → n + m ≤ 4096
    → lookup queries name ≡ None → change_named name (spaced ws) ≡ Ok (command, []) → IsReadAs (name ++ spaced ws) command
line_read name ws command n m high short fit room no_query reads =
    let line = name ++ spaced ws in
    let plain : list_all stands line ≡ true = all_joined stands name (spaced ws) (each_weaker is_high stands high_stands name high.1) fit.0 in
    let few : nat_lt 4096 (length line) ≡ false = short_line line (omega (arith, length-append name (spaced ws), short, fit.1, room)) in
    let no_note : nat_eq (slice_index name 0) 35 ≡ false = ne_eqb (slice_index name 0) 35 (λ e. absurd (omega (arith, e, first_high name high))) in (
      no_lf line plain,
      ap (λ t. if t then Err faults.LineTooLong else command_in (first_word (without_cr line))) few
          ∙ ap (λ l. command_in (first_word l)) (no_cr line plain)
          ∙ ap command_in (first_read name ws (high_word name high))
          ∙ ap (λ t. if t then Ok None else whole (command_named name (spaced ws))) no_note
          ∙ ap whole (as_command name (spaced ws) command (lookup change_changes name) no_query refl reads),
    )
  where
    first_high : (w : List ℕ) → IsHigh w → 48 ≤ slice_index w 0
    first_high [] is = absurd (omega (arith, is.0))
    first_high (b ∷ bs) is = let first : is_high b ≡ true = (both (is_high b) (list_all is_high bs) is.1).0 in grind (arith, nat_tests, first)

-- ---- a text at the end of a line

space_kept : (byte : ℕ) (letter : Option ℕ) (rest : List ℕ) → IsInked byte letter → trimmed_start (32 ∷ escaped byte letter ++ rest) ≡ escaped byte letter ++ rest
space_kept b None rest ink = space_first b rest ink
space_kept b (Some letter) rest ink = space_first 92 (letter ∷ rest) refl

text_left : (piece : List ℕ) → trimmed (32 ∷ escaped_text piece) ≡ escaped_text piece
text_left [] = refl
text_left (b ∷ bs) =
    ap trimmed_end (space_kept b (letter_for true b) (flat_map (spelled_at (b ∷ bs)) (range_with_len 1 (length bs))) (inked b))
    ∙ ap trimmed_end (sym (starts_inked b bs)) ∙ spelled_trimmed (b ∷ bs)

reads_text : (piece : List ℕ) → text (spaced (escaped_text piece ∷ [])) ≡ Ok (escaped_text piece, [])
reads_text piece = ap (λ xs. Ok (trimmed (32 ∷ xs), [])) (append-nil (escaped_text piece)) ∙ ap (λ xs. Ok (xs, [])) (text_left piece)

stands_escaped : (test : Bool) (byte letter : ℕ) (other : Option ℕ) → stands letter ≡ true → (test ≡ false → list_all stands (escaped byte other) ≡ true)
    → list_all stands (escaped byte (if test then Some letter else other)) ≡ true
stands_escaped true b letter other e rest = ap (λ b. b && true) e
stands_escaped false b letter other e rest = rest refl

stands_in : (at_end : Bool) (byte : ℕ) → list_all stands (escaped byte (letter_for at_end byte)) ≡ true
stands_in at_end byte =
    stands_escaped (nat_eq byte 10) byte 110 _ refl
    (λ lf. stands_escaped (nat_eq byte 13) byte 114 _ refl
    (λ cr. stands_escaped (nat_eq byte 92) byte 92 _ refl
    (λ _. stands_escaped (at_end && nat_eq byte 32) byte 115 _ refl
    (λ _. stands_escaped (at_end && nat_eq byte 9) byte 116 _ refl
    (λ _. ap (λ b. not (b || nat_eq byte 13) && true) lf ∙ ap (λ b. not (false || b) && true) cr)))))

stands_each : (piece indices : List ℕ) → list_all stands (flat_map (spelled_at piece) indices) ≡ true
stands_each piece [] = refl
stands_each piece (index ∷ indices) =
    all_joined stands (spelled_at piece index) (flat_map (spelled_at piece) indices) (stands_in (is_end piece index) (slice_index piece index)) (stands_each piece indices)

short_escape : (byte : ℕ) (letter : Option ℕ) → length (escaped byte letter) ≤ 2
short_escape b None = omega arith
short_escape b (Some letter) = omega arith

short_each : (piece indices : List ℕ) → length (flat_map (spelled_at piece) indices) ≤ 2 * length indices
short_each piece [] = omega arith
short_each piece (index ∷ indices) =
    let one = short_escape (slice_index piece index) (letter_for (is_end piece index) (slice_index piece index)) in
    omega (arith, length-append (spelled_at piece index) (flat_map (spelled_at piece) indices), one, short_each piece indices)

text_fit : (piece : List ℕ) → length piece ≤ 2000 → Fit (1 + 4000 + 0) (escaped_text piece ∷ [])
text_fit piece short =
    more_fit 4000 0 (escaped_text piece) [] (stands_each piece (range_with_len 0 (length piece)))
    (omega (arith, short_each piece (range_with_len 0 (length piece)), length-range_with_len 0 (length piece), short)) none_fit

-- ---- names

direction_fit : (way : Direction) (m : ℕ) (ws : List (List ℕ)) → Fit m ws → Fit (1 + 6 + m) (direction_name way ∷ ws)
direction_fit Across m ws fit = more_fit 6 m (direction_name Across) ws refl (omega arith) fit
direction_fit Down m ws fit = more_fit 6 m (direction_name Down) ws refl (omega arith) fit

side_fit : (which : Side) → Fit (1 + 5 + 0) (side_name which ∷ [])
side_fit Right = more_fit 5 0 (side_name Right) [] refl (omega arith) none_fit
side_fit Below = more_fit 5 0 (side_name Below) [] refl (omega arith) none_fit

switch_fit : (is_on : Bool) → Fit (1 + 3 + 0) (switch_name is_on ∷ [])
switch_fit true = more_fit 3 0 (switch_name true) [] refl (omega arith) none_fit
switch_fit false = more_fit 3 0 (switch_name false) [] refl (omega arith) none_fit

symmetry_fit : (kind : Symmetry) → Fit (1 + 9 + 0) (symmetry_name kind ∷ [])
symmetry_fit kinds.None = more_fit 9 0 (symmetry_name kinds.None) [] refl (omega arith) none_fit
symmetry_fit kinds.Half = more_fit 9 0 (symmetry_name kinds.Half) [] refl (omega arith) none_fit
symmetry_fit kinds.Quarter = more_fit 9 0 (symmetry_name kinds.Quarter) [] refl (omega arith) none_fit
symmetry_fit kinds.LeftRight = more_fit 9 0 (symmetry_name kinds.LeftRight) [] refl (omega arith) none_fit
symmetry_fit kinds.UpDown = more_fit 9 0 (symmetry_name kinds.UpDown) [] refl (omega arith) none_fit

-- ---- fields of texts

abbrev pub IsSmallSpot : CellArg → Type 0
IsSmallSpot at = (at.row ≤ 255) × (at.col ≤ 255)

abbrev pub IsSmallField : Field → Type 0
IsSmallField (fields.Text name) = Unit {0}
IsSmallField (fields.Clue at way) = IsSmallSpot at

spot_fit : (at : CellArg) (m : ℕ) (ws : List (List ℕ)) → IsSmallSpot at → Fit m ws → Fit (1 + 3 + (1 + 3 + m)) (decimal at.row ∷ decimal at.col ∷ ws)
spot_fit at m ws small fit = number_fit at.row (1 + 3 + m) (decimal at.col ∷ ws) small.0 (number_fit at.col m ws small.1 fit)

field_fit : (where_put : Field) (ws : List (List ℕ)) → IsSmallField where_put → Fit 4001 ws → Fit 4030 (in_field where_put ws)
field_fit (fields.Text Title) ws small fit = let is = more_fit 9 4001 (field_name Title) ws refl (omega arith) fit in (is.0, omega (arith, is.1))
field_fit (fields.Text Author) ws small fit = let is = more_fit 9 4001 (field_name Author) ws refl (omega arith) fit in (is.0, omega (arith, is.1))
field_fit (fields.Text Copyright) ws small fit = let is = more_fit 9 4001 (field_name Copyright) ws refl (omega arith) fit in (is.0, omega (arith, is.1))
field_fit (fields.Text Notes) ws small fit = let is = more_fit 9 4001 (field_name Notes) ws refl (omega arith) fit in (is.0, omega (arith, is.1))
field_fit (fields.Clue at way) ws small fit =
    let is = more_fit 4 (1 + 3 + (1 + 3 + (1 + 6 + 4001))) clue_name (decimal at.row ∷ decimal at.col ∷ direction_name way ∷ ws) refl (omega arith)
    (spot_fit at (1 + 6 + 4001) (direction_name way ∷ ws) small (direction_fit way 4001 ws fit)) in
    (is.0, omega (arith, is.1))

reads_name : (name : TextField) (ws : List (List ℕ)) → text_name (spaced (field_name name ∷ ws)) ≡ Ok (Some name, spaced ws)
reads_name Title ws = reads_key text_fields (field_name Title) (Some Title) ws refl refl
reads_name Author ws = reads_key text_fields (field_name Author) (Some Author) ws refl refl
reads_name Copyright ws = reads_key text_fields (field_name Copyright) (Some Copyright) ws refl refl
reads_name Notes ws = reads_key text_fields (field_name Notes) (Some Notes) ws refl refl

reads_field : (where_put : Field) (ws : List (List ℕ)) → IsSmallField where_put → field (spaced (in_field where_put ws)) ≡ Ok (where_put, spaced ws)
reads_field (fields.Text name) ws small = then_read text_name field_named (spaced (field_name name ∷ ws)) (spaced ws) (Some name) (reads_name name ws)
reads_field (fields.Clue at way) ws small =
    let rest = decimal at.row ∷ decimal at.col ∷ direction_name way ∷ ws in
    then_read text_name field_named (spaced (clue_name ∷ rest)) (spaced rest) None (reads_key text_fields clue_name None rest refl refl)
    ∙ then_read spot (λ start. direction >>= (λ way. given (fields.Clue start way))) (spaced rest) (spaced (direction_name way ∷ ws)) at (reads_spot at (direction_name way ∷ ws) small.0 small.1)
    ∙ then_read direction (λ way. given (fields.Clue at way)) (spaced (direction_name way ∷ ws)) (spaced ws) way (reads_direction way ws)

-- ---- the commands of records

abbrev pub IsKnownWord : List ℕ → Type 0
IsKnownWord letters = All IsLetter letters × (2 ≤ length letters) × (length letters ≤ 255)

abbrev pub IsSmallGrade : Option ℕ → Type 0
IsSmallGrade None = Unit {0}
IsSmallGrade (Some grade) = grade ≤ 100

abbrev pub IsRecorded : Change → Type 0
IsRecorded (changes.Size width height) = (width ≤ 255) × (height ≤ 255)
IsRecorded (changes.Symmetry kind) = Unit {0}
IsRecorded (changes.Add letters grade) = IsKnownWord letters × IsSmallGrade grade
IsRecorded (changes.Strike letters) = IsKnownWord letters
IsRecorded (changes.Least grade) = grade ≤ 100
IsRecorded (changes.Set at letter) = IsSmallSpot at × IsLetter letter
IsRecorded (changes.Clear at) = ⊥
IsRecorded (changes.Place named letters) = ⊥
IsRecorded (changes.Erase named) = ⊥
IsRecorded (changes.Block at) = IsSmallSpot at
IsRecorded (changes.Bar at which) = IsSmallSpot at
IsRecorded (changes.Clue named bytes) = ⊥
IsRecorded (changes.Write name bytes) = ⊥
IsRecorded (changes.Circle at) = IsSmallSpot at
IsRecorded (changes.Watch is_on) = Unit {0}
IsRecorded (changes.Put putting where_put spelling) = IsSmallField where_put × (piece : List ℕ) × (spelling ≡ escaped_text piece) × (length piece ≤ 2000)

-- the words with a space between them
abbrev words_line : List (List ℕ) → List ℕ
words_line [] = []
words_line (w ∷ ws) = w ++ spaced ws

-- the line of a command without its LF
abbrev pub line_without_lf : Change → List ℕ
line_without_lf command = words_line (command_words command)

abbrev IsRead : Change → Type 0
IsRead command = (command_line command ≡ line_without_lf command ++ 10 ∷ []) × HasNoLf (line_without_lf command) × (command_of (line_without_lf command) ≡ Ok (Some (commands.Change command)))

made_of : (name : List ℕ) (ws : List (List ℕ)) (command : Change) → command_words command ≡ name ∷ ws → IsReadAs (name ++ spaced ws) command → IsRead command
made_of name ws command is read = (
  ap line_of is ∙ line_parts name ws ∙ ap (λ xs. words_line xs ++ 10 ∷ []) (sym is),
  subst (λ xs. HasNoLf (words_line xs)) (sym is) read.0,
  ap (λ xs. command_of (words_line xs)) is ∙ read.1,
)

letters_high : (letters : List ℕ) → IsKnownWord letters → IsHigh letters
letters_high letters is = (omega (arith, is.1), each_high letters (λ k within. is.0 k 0 within)) where
  each_high : (xs : List ℕ) → ((k : ℕ) → k < length xs → IsLetter (get_or xs k 0)) → list_all is_high xs ≡ true
  each_high [] good = refl
  each_high (x ∷ xs) good = list_all_both is_high x xs (le-leb 48 x (omega (arith, (good 0 (omega arith)).0))) (each_high xs (λ k within. good (suc k) (omega (arith, within))))

cell_name : (name : List ℕ) (command : Change) (at : CellArg) (ws : List (List ℕ)) (m : ℕ) → IsHigh name → length name ≤ 10 → IsSmallSpot at → Fit m ws → m ≤ 100
    → command_words command ≡ name ∷ decimal at.row ∷ decimal at.col ∷ ws → lookup queries name ≡ None → change_named name (spaced (decimal at.row ∷ decimal at.col ∷ ws)) ≡ Ok (command, []) → IsRead command
cell_name name command at ws m high short small fit few is no_query reads =
    made_of name (decimal at.row ∷ decimal at.col ∷ ws) command is
    (line_read name (decimal at.row ∷ decimal at.col ∷ ws) command 10 (1 + 3 + (1 + 3 + m)) high short (spot_fit at m ws small fit) (omega (arith, few)) no_query reads)

pub read_again : (command : Change) → IsRecorded command → IsRead command
read_again (changes.Size width height) is =
    made_of (codes "size") (decimal width ∷ decimal height ∷ []) (changes.Size width height) refl
    (line_read (codes "size") (decimal width ∷ decimal height ∷ []) (changes.Size width height) 4 (1 + 3 + (1 + 3 + 0)) (omega arith, refl) (omega arith)
    (number_fit width (1 + 3 + 0) (decimal height ∷ []) is.0 (number_fit height 0 [] is.1 none_fit)) (omega arith) refl
    (then_read number (λ width. number >>= (λ height. given (changes.Size width height))) (spaced (decimal width ∷ decimal height ∷ [])) (spaced (decimal height ∷ [])) width (reads_number width is.0 (decimal height ∷ []))
    ∙ then_read number (λ height. given (changes.Size width height)) (spaced (decimal height ∷ [])) [] height (reads_number height is.1 [])))
read_again (changes.Symmetry kind) is =
    made_of (codes "sym") (symmetry_name kind ∷ []) (changes.Symmetry kind) refl
    (line_read (codes "sym") (symmetry_name kind ∷ []) (changes.Symmetry kind) 3 (1 + 9 + 0) (omega arith, refl) (omega arith) (symmetry_fit kind) (omega arith) refl
    (then_read symmetry (λ kind. given (changes.Symmetry kind)) (spaced (symmetry_name kind ∷ [])) [] kind (reads_symmetry kind [])))
read_again (changes.Add letters None) is =
    let known = is.0 in
    made_of (codes "add") (letters ∷ []) (changes.Add letters None) refl
    (line_read (codes "add") (letters ∷ []) (changes.Add letters None) 3 (1 + 255 + 0) (omega arith, refl) (omega arith) (high_fit 255 0 letters [] (letters_high letters known) known.2 none_fit) (omega arith) refl
    (then_read word (λ letters. grade_if_any >>= (λ grade. given (changes.Add letters grade))) (spaced (letters ∷ [])) [] letters (reads_word letters [] (high_word letters (letters_high letters known)))
    ∙ then_read grade_if_any (λ grade. given (changes.Add letters grade)) [] [] None reads_no_grade))
read_again (changes.Add letters (Some number)) is =
    let known = is.0 in
    let short : number ≤ 255 = omega (arith, is.1) in
    made_of (codes "add") (letters ∷ decimal number ∷ []) (changes.Add letters (Some number)) refl
    (line_read (codes "add") (letters ∷ decimal number ∷ []) (changes.Add letters (Some number)) 3 (1 + 255 + (1 + 3 + 0)) (omega arith, refl) (omega arith)
    (high_fit 255 (1 + 3 + 0) letters (decimal number ∷ []) (letters_high letters known) known.2 (number_fit number 0 [] short none_fit)) (omega arith) refl
    (then_read word (λ letters. grade_if_any >>= (λ grade. given (changes.Add letters grade))) (spaced (letters ∷ decimal number ∷ [])) (spaced (decimal number ∷ [])) letters (reads_word letters (decimal number ∷ []) (high_word letters (letters_high letters known)))
    ∙ then_read grade_if_any (λ grade. given (changes.Add letters grade)) (spaced (decimal number ∷ [])) [] (Some number) (reads_some_grade number is.1)))
read_again (changes.Strike letters) is =
    made_of (codes "strike") (letters ∷ []) (changes.Strike letters) refl
    (line_read (codes "strike") (letters ∷ []) (changes.Strike letters) 6 (1 + 255 + 0) (omega arith, refl) (omega arith) (high_fit 255 0 letters [] (letters_high letters is) is.2 none_fit) (omega arith) refl
    (then_read word (λ letters. given (changes.Strike letters)) (spaced (letters ∷ [])) [] letters (reads_word letters [] (high_word letters (letters_high letters is)))))
read_again (changes.Least number) is =
    let short : number ≤ 255 = omega (arith, is) in
    made_of (codes "least") (decimal number ∷ []) (changes.Least number) refl
    (line_read (codes "least") (decimal number ∷ []) (changes.Least number) 5 (1 + 3 + 0) (omega arith, refl) (omega arith) (number_fit number 0 [] short none_fit) (omega arith) refl
    (then_read grade (λ grade. given (changes.Least grade)) (spaced (decimal number ∷ [])) [] number (reads_grade number [] is)))
read_again (changes.Set at letter) is =
    let high : 48 ≤ letter = omega (arith, is.1.0) in
    let as_word : IsHigh (letter ∷ []) = (omega arith, list_all_both is_high letter [] (le-leb 48 letter high) refl) in
    cell_name (codes "set") (changes.Set at letter) at ((letter ∷ []) ∷ []) (1 + 1 + 0) (omega arith, refl) (omega arith) is.0 (high_fit 1 0 (letter ∷ []) [] as_word (omega arith) none_fit) (omega arith) refl refl
    (then_read spot (λ at. byte >>= (λ letter. given (changes.Set at letter))) (spaced (decimal at.row ∷ decimal at.col ∷ (letter ∷ []) ∷ [])) (spaced ((letter ∷ []) ∷ [])) at (reads_spot at ((letter ∷ []) ∷ []) is.0.0 is.0.1)
    ∙ then_read byte (λ letter. given (changes.Set at letter)) (spaced ((letter ∷ []) ∷ [])) [] letter (reads_byte letter [] high))
read_again (changes.Block at) is =
    cell_name (codes "block") (changes.Block at) at [] 0 (omega arith, refl) (omega arith) is none_fit (omega arith) refl refl
    (then_read spot (λ at. given (changes.Block at)) (spaced (decimal at.row ∷ decimal at.col ∷ [])) [] at (reads_spot at [] is.0 is.1))
read_again (changes.Bar at which) is =
    cell_name (codes "bar") (changes.Bar at which) at (side_name which ∷ []) (1 + 5 + 0) (omega arith, refl) (omega arith) is (side_fit which) (omega arith) refl refl
    (then_read spot (λ at. side >>= (λ which. given (changes.Bar at which))) (spaced (decimal at.row ∷ decimal at.col ∷ side_name which ∷ [])) (spaced (side_name which ∷ [])) at (reads_spot at (side_name which ∷ []) is.0 is.1)
    ∙ then_read side (λ which. given (changes.Bar at which)) (spaced (side_name which ∷ [])) [] which (reads_side which []))
read_again (changes.Circle at) is =
    cell_name (codes "circle") (changes.Circle at) at [] 0 (omega arith, refl) (omega arith) is none_fit (omega arith) refl refl
    (then_read spot (λ at. given (changes.Circle at)) (spaced (decimal at.row ∷ decimal at.col ∷ [])) [] at (reads_spot at [] is.0 is.1))
read_again (changes.Watch is_on) is =
    made_of (codes "watch") (switch_name is_on ∷ []) (changes.Watch is_on) refl
    (line_read (codes "watch") (switch_name is_on ∷ []) (changes.Watch is_on) 5 (1 + 3 + 0) (omega arith, refl) (omega arith) (switch_fit is_on) (omega arith) refl
    (then_read switch (λ is_on. given (changes.Watch is_on)) (spaced (switch_name is_on ∷ [])) [] is_on (reads_switch is_on [])))
read_again (changes.Put Instead where_put spelling) is =
    subst (λ spelling. IsRead (changes.Put Instead where_put spelling)) (sym is.2)
    (let piece = is.1 in
    let ws = in_field where_put (escaped_text piece ∷ []) in
    made_of (codes "text") ws (changes.Put Instead where_put (escaped_text piece)) refl
    (line_read (codes "text") ws (changes.Put Instead where_put (escaped_text piece)) 4 4030 (omega arith, refl) (omega arith) (field_fit where_put (escaped_text piece ∷ []) is.0 (text_fit piece is.3)) (omega arith) refl
    (then_read field (λ where_put. text >>= (λ spelling. given (changes.Put Instead where_put spelling))) (spaced ws) (spaced (escaped_text piece ∷ [])) where_put (reads_field where_put (escaped_text piece ∷ []) is.0)
    ∙ then_read text (λ spelling. given (changes.Put Instead where_put spelling)) (spaced (escaped_text piece ∷ [])) [] (escaped_text piece) (reads_text piece))))
read_again (changes.Put Behind where_put spelling) is =
    subst (λ spelling. IsRead (changes.Put Behind where_put spelling)) (sym is.2)
    (let piece = is.1 in
    let ws = in_field where_put (escaped_text piece ∷ []) in
    made_of (codes "more") ws (changes.Put Behind where_put (escaped_text piece)) refl
    (line_read (codes "more") ws (changes.Put Behind where_put (escaped_text piece)) 4 4030 (omega arith, refl) (omega arith) (field_fit where_put (escaped_text piece ∷ []) is.0 (text_fit piece is.3)) (omega arith) refl
    (then_read field (λ where_put. text >>= (λ spelling. given (changes.Put Behind where_put spelling))) (spaced ws) (spaced (escaped_text piece ∷ [])) where_put (reads_field where_put (escaped_text piece ∷ []) is.0)
    ∙ then_read text (λ spelling. given (changes.Put Behind where_put spelling)) (spaced (escaped_text piece ∷ [])) [] (escaped_text piece) (reads_text piece))))
read_again (changes.Clear at) is = absurd is
read_again (changes.Place named letters) is = absurd is
read_again (changes.Erase named) is = absurd is
read_again (changes.Clue named bytes) is = absurd is
read_again (changes.Write name bytes) is = absurd is
