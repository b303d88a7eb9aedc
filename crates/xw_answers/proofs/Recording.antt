-- Writing commands, section by section.
use Rattle.std.proofs.Common.{◌≡◌, ℕ, ◌+◌, ◌*◌, ◌-◌, ◌<◌, ◌≤◌, List, [], ◌∷◌, ◌++◌, length, map, take, drop, flat_map, codes, min, refl, sym, ◌∙◌, ap, append-nil, append_assoc, zero-add, subst, arith}
use Rattle.std.specs.Prelude.{Result, Some, true, decimal, slice_set, if◌then◌else◌}
use Rattle.std.specs.List.{range_with_len}
use Rattle.std.proofs.lemmas.List.FromFn.{map-range_with_len_more}
use Rattle.std.proofs.lemmas.List.{take_min, take_more_set, take_all, length-drop}
use Rattle.std.proofs.Math.Nat.{min_comm}
use Rattle.std.proofs.lemmas.List.Folds.{flat_map-map}
use Rattle.std.proofs.lemmas.Grind.{flat_map-append}
use Rattle.xw_words.specs.Dictionary.{Dictionary, Entry, known_words}
use Rattle.xw_lines.specs.Device.{Begins, HasFailed}
use Rattle.xw_lines.specs.Sends.{Sends}
use Rattle.xw_commands.specs.declared.change.Change.{Change}
use Rattle.xw_commands.specs.declared.change.Change.TheVariants.{Add, Strike, Put}
use Rattle.xw_commands.specs.declared.command.Field.{Field}
use Rattle.xw_commands.specs.declared.command.Field.TheVariants as fields
use Rattle.xw_commands.specs.declared.command.TextMode.{TextMode}
use Rattle.xw_commands.specs.declared.command.CellArg.{CellArg}
use Rattle.xw_commands.specs.declared.change.ChangeName.TheVariants as names
use Rattle.xw_commands.specs.Change.{change_word}
use Rattle.xw_answers.specs.Escape.{escaped_text}
use Rattle.xw_answers.specs.Text.{line_of}
use Rattle.xw_answers.specs.Spelling.{command_line, in_field}
use Rattle.xw_answers.specs.Record.{command_lines, regrade_commands, piece_at, known_counts}

-- lists of lists, flattened in either order
pub each_of_each : {X Y Z : Type 0} (f : Y → List Z) (g : X → List Y) (xs : List X) → flat_map (λ x. flat_map f (g x)) xs ≡ flat_map f (flat_map g xs)
each_of_each f g [] = refl
each_of_each f g (x ∷ xs) = ap (λ zs. flat_map f (g x) ++ zs) (each_of_each f g xs) ∙ sym (flat_map-append f (g x) (flat_map g xs))

pub lines_of_each : {X : Type 0} (commands : X → List Change) (xs : List X) → flat_map (λ x. command_lines (commands x)) xs ≡ command_lines (flat_map commands xs)
lines_of_each commands xs = each_of_each command_line commands xs

pub line_of_each : {X : Type 0} (command : X → Change) (xs : List X) → flat_map (λ x. command_line (command x)) xs ≡ command_lines (map command xs)
line_of_each command xs = sym (flat_map-map command_line command xs)

pub one_line : (command : Change) → command_line command ≡ command_lines (command ∷ [])
one_line command = sym (append-nil (command_line command))

pub lines_of_both : (front rest : List Change) → command_lines front ++ command_lines rest ≡ command_lines (front ++ rest)
lines_of_both front rest = sym (flat_map-append command_line front rest)

-- a word that is struck and comes back with its grade
pub regrade_lines : (entry : Entry) (word : List ℕ) (grade : ℕ) → word ≡ entry.word → grade ≡ entry.grade → entry.regraded ≡ true
    → command_line (Strike word) ++ command_line (Add word (Some grade)) ≡ command_lines (regrade_commands entry)
regrade_lines entry word grade same_word same_grade is =
    ap (λ w. command_line (Strike w) ++ command_line (Add w (Some grade))) same_word
    ∙ ap (λ n. command_line (Strike entry.word) ++ command_line (Add entry.word (Some n))) same_grade
    ∙ ap (λ rest. command_line (Strike entry.word) ++ rest) (sym (append-nil (command_line (Add entry.word (Some entry.grade)))))
    ∙ ap (λ b. command_lines (if b then Strike entry.word ∷ Add entry.word (Some entry.grade) ∷ [] else [])) (sym is)

-- the line of a piece of a text: its first word, and the rest
pub put_line_parts : (putting : TextMode) (field : Field) (text : List ℕ) → command_line (Put putting field (escaped_text text)) ≡ (change_word (names.Put putting) ++ codes " ") ++ line_of (in_field field (escaped_text text ∷ []))
put_line_parts putting (fields.Text name) text = refl
put_line_parts putting (fields.Clue spot direction) text = refl

-- a row and a column, and what follows
pub spot_parts : (spot : CellArg) (rest : List ℕ) → ((decimal spot.row ++ codes " ") ++ (decimal spot.col ++ codes " ")) ++ rest ≡ (decimal spot.row ++ codes " ") ++ ((decimal spot.col ++ codes " ") ++ rest)
spot_parts spot rest = append_assoc (decimal spot.row ++ codes " ") (decimal spot.col ++ codes " ") rest

-- at most `count` bytes from an index on
pub piece_of_rest : (text : List ℕ) (before count : ℕ) → count ≡ min (length (take (length text - 2000 * before) (drop (2000 * before) text))) 2000
    → take count (take (length text - 2000 * before) (drop (2000 * before) text)) ≡ piece_at text before
piece_of_rest text before count is =
    let rest = drop (2000 * before) text in
    let long : length text - 2000 * before ≡ length rest = sym (length-drop (2000 * before) text) in
    let whole : take (length text - 2000 * before) rest ≡ rest = ap (λ n. take n rest) long ∙ take_all (length rest) rest (omega arith) in
    let least : count ≡ min 2000 (length rest) = is ∙ ap (λ (xs : List ℕ). min (length xs) 2000) whole ∙ min_comm (length rest) 2000 in
    ap (take count) whole ∙ ap (λ n. take n rest) least ∙ take_min 2000 rest

-- the counts of the first lengths, after one more length
pub one_more_count : (words : Dictionary) (counts : List ℕ) (count known : ℕ) → count < length counts
    → take count counts ≡ map (λ n. length (known_words words n)) (range_with_len 0 count) → known ≡ length (known_words words count)
    → take (count + 1) (slice_set counts count known) ≡ map (λ n. length (known_words words n)) (range_with_len 0 (count + 1))
one_more_count words counts count known within first is =
    take_more_set counts count known within ∙ ap (λ xs. xs ++ known ∷ []) first ∙ ap (λ n. map (λ n. length (known_words words n)) (range_with_len 0 count) ++ n ∷ []) is
    ∙ sym (map-range_with_len_more (λ n. length (known_words words n)) 0 count count (zero-add count))

pub all_counts : (words : Dictionary) (counts : List ℕ) (count : ℕ) → 256 ≤ count → count ≤ 256
    → take count counts ≡ map (λ n. length (known_words words n)) (range_with_len 0 count) → length counts ≡ 256 → counts ≡ known_counts words
all_counts words counts count least most first long =
    let is : count ≡ 256 = omega (arith, least, most) in
    let past : length counts ≤ count = omega (arith, least, long) in
    sym (take_all count counts past) ∙ first ∙ ap (λ n. map (λ n. length (known_words words n)) (range_with_len 0 n)) is

module _ {S : Type 0} (transcript : S → List ℕ) (failures : S → ℕ) where
  -- writing a text, given in another form
  pub sends_as : {T E : Type 0} (old new : S) (result : Result T E) (text other : List ℕ) → text ≡ other → Sends transcript failures old new result text → Sends transcript failures old new result other
  sends_as old new result text other is sent = subst (λ (xs : List ℕ). Sends transcript failures old new result xs) is sent

  pub sent_as : (old new : S) (text other : List ℕ) → text ≡ other → (transcript new ≡ transcript old ++ text) × (failures new ≡ failures old) → (transcript new ≡ transcript old ++ other) × (failures new ≡ failures old)
  sent_as old new text other is sent = (sent.0 ∙ ap (λ xs. transcript old ++ xs) is, sent.1)

  pub stops_as : (old new : S) (text other : List ℕ) → text ≡ other → Begins (transcript old) (transcript new) text × HasFailed (failures old) (failures new) → Begins (transcript old) (transcript new) other × HasFailed (failures old) (failures new)
  stops_as old new text other is stops = (subst (λ (xs : List ℕ). Begins (transcript old) (transcript new) xs) is stops.0, stops.1)
