-- The text that is written is a text file of the puzzle.
use Rattle.std.proofs.Common.{◌≡◌, ℕ, suc, ◌<◌, true, false, List, [], ◌∷◌, ◌++◌, length, map, refl, sym, ap, subst, ◌∙◌, append_assoc, arith}
use Rattle.std.specs.List.{flat_map, list_all}
use Rattle.std.specs.Prelude.{decimal}
use Rattle.std.proofs.Common.{length-append}
use Rattle.std.proofs.lemmas.List.Splits.{join_with_byte-slice_split}
use Rattle.std.proofs.lemmas.Bool.{ne_eqb}
use Rattle.std.proofs.lemmas.List.{append-nil}
use Rattle.bstr.specs.Text.{without_terminator}
use Rattle.bstr.proofs.lemmas.LineLemmas.{lines-nil}
use Rattle.xw_grid.specs.declared.cell.Direction.{Direction}
use Rattle.xw_grid.specs.declared.cell.Direction.TheVariants.{Across, Down}
use Rattle.xw_grid.specs.Grid.{Grid, IsGrid}
use Rattle.xw_grid.specs.Clue.{ClueMap}
use Rattle.xw_files.specs.declared.fault.Tag.{Tag}
use Rattle.xw_files.specs.declared.fault.Tag.TheVariants as tags
use Rattle.xw_files.specs.Text.Lines.{without_mark, text_lines, shown, cut}
use Rattle.xw_files.specs.Text.Tag.{header, name_of, names}
use Rattle.xw_grid.specs.Puzzle.{PuzzleShown, TextsShown}
use Rattle.xw_files.specs.Part.{circled_cells}
use Rattle.xw_files.specs.Text.Shape.{Lines}
use Rattle.xw_files.specs.Finished.{has_bar}
use Rattle.xw_files.specs.Text.Written.{is_spelled, is_clue, are_notes, pieces, line, tag, tag_line, size_text, grid_text, texts_text, direction_text, clues_text, notes_text, row_texts, clue_texts, texted}
use Rattle.xw_files.specs.Text.Relation.{IsText, Spells, AreText, AreNotes}
use Rattle.xw_files.proofs.TextLemmas.Cuts.{IsSpelled, Shows, shows_then, header_shows, tag_shows, line_shows, shown_text, spelled_text, clues_show, all_plain}
use Rattle.xw_files.proofs.TextLemmas.Fine.{are_letters, rows_are, fine_text}
use Rattle.xw_files.proofs.TextLemmas.Sizes.{size_is}

-- what a puzzle needs to be written
pub record CanBeWritten (puzzle : PuzzleShown) : Type 0 where
  pub grid : IsGrid puzzle.grid
  pub no_bar : has_bar puzzle.grid ≡ false
  pub title : is_spelled puzzle.texts.title ≡ true
  pub author : is_spelled puzzle.texts.author ≡ true
  pub copyright : is_spelled puzzle.texts.copyright ≡ true
  pub across : list_all is_clue (clue_texts Across puzzle.clues puzzle.grid) ≡ true
  pub down : list_all is_clue (clue_texts Down puzzle.clues puzzle.grid) ≡ true
  pub notes : are_notes puzzle.texts.notes ≡ true
  pub no_circle : circled_cells puzzle ≡ []

-- a text and its tag
field_shows : (which : Tag) (text : List ℕ) → is_spelled text ≡ true → Shows (tag which ++ line text) (name_of which ∷ shown_text text)
field_shows which text is = shows_then (tag which) (line text) (name_of which ∷ []) (shown_text text) (tag_shows which) (line_shows text (spelled_text text is))

texts_show : (texts : TextsShown) → is_spelled texts.title ≡ true → is_spelled texts.author ≡ true → is_spelled texts.copyright ≡ true
    → Shows (texts_text texts) (((((name_of tags.Title ∷ []) ++ shown_text texts.title) ++ (name_of tags.Author ∷ [])) ++ shown_text texts.author) ++ (name_of tags.Copyright ∷ []) ++ shown_text texts.copyright)
texts_show texts title author copyright =
    shows_then _ (line texts.copyright) _ (shown_text texts.copyright)
    (shows_then _ (tag tags.Copyright) _ (name_of tags.Copyright ∷ [])
    (shows_then _ (line texts.author) _ (shown_text texts.author)
    (shows_then _ (tag tags.Author) _ (name_of tags.Author ∷ [])
    (shows_then (tag tags.Title) (line texts.title) (name_of tags.Title ∷ []) (shown_text texts.title) (tag_shows tags.Title) (line_shows texts.title (spelled_text texts.title title)))
    (tag_shows tags.Author))
    (line_shows texts.author (spelled_text texts.author author)))
    (tag_shows tags.Copyright))
    (line_shows texts.copyright (spelled_text texts.copyright copyright))

some_shown : (text : List ℕ) → 0 < length text → shown_text text ≡ text ∷ []
some_shown [] some = absurd (omega arith)
some_shown (byte ∷ text) some = refl

grid_shows : (grid : Grid) → IsGrid grid
    → Shows (grid_text grid) ((((name_of tags.Size ∷ []) ++ (size_text grid ∷ [])) ++ (name_of tags.Grid ∷ [])) ++ row_texts grid.width grid.height grid.squares)
grid_shows grid is =
    let rows = rows_are grid.width grid.height grid.squares is.wide.0 is.squares (are_letters grid.squares is.letters) in
    let size = fine_text (size_text grid) (size_is grid.width grid.height is.wide is.high).0 in
    let some : shown_text (size_text grid) ≡ size_text grid ∷ [] = some_shown (size_text grid) (omega (arith, length-append (decimal grid.width) (120 ∷ decimal grid.height))) in
    shows_then _ (flat_map line (row_texts grid.width grid.height grid.squares)) _ (row_texts grid.width grid.height grid.squares)
    (shows_then _ (tag tags.Grid) _ (name_of tags.Grid ∷ [])
    (shows_then (tag tags.Size) (line (size_text grid)) (name_of tags.Size ∷ []) (size_text grid ∷ []) (tag_shows tags.Size) (subst (λ (t : Lines). Shows (line (size_text grid)) t) some (line_shows (size_text grid) size)))
    (tag_shows tags.Grid))
    rows.shown

direction_shows : (which : Tag) (direction : Direction) (clues : ClueMap) (grid : Grid) → list_all is_clue (clue_texts direction clues grid) ≡ true → Shows (direction_text which direction clues grid) ((name_of which ∷ []) ++ clue_texts direction clues grid)
unfolding direction_text
direction_shows which direction clues grid all = shows_then (tag which) (flat_map line (clue_texts direction clues grid)) (name_of which ∷ []) (clue_texts direction clues grid) (tag_shows which) (clues_show (clue_texts direction clues grid) all)

abbrev pub note_lines : List ℕ → Lines
note_lines [] = []
note_lines (byte ∷ notes) = name_of tags.Notepad ∷ pieces (byte ∷ notes)

some_notes : (byte : ℕ) (notes : List ℕ) → are_notes (byte ∷ notes) ≡ true → list_all is_clue (pieces (byte ∷ notes)) ≡ true
unfolding are_notes
some_notes byte notes are = rw (ne_eqb (suc (length notes)) 0 (λ e. omega arith)) at are

notes_show : (notes : List ℕ) → are_notes notes ≡ true → Shows (notes_text notes) (note_lines notes)
unfolding notes_text
notes_show [] are = record { shows = λ rest. refl; clean = tt }
notes_show (byte ∷ notes) are =
    let all : list_all is_clue (pieces (byte ∷ notes)) ≡ true = some_notes byte notes are in
    shows_then (tag tags.Notepad) (flat_map line (pieces (byte ∷ notes))) (name_of tags.Notepad ∷ []) (pieces (byte ∷ notes)) (tag_shows tags.Notepad) (clues_show (pieces (byte ∷ notes)) all)

notes_are : (notes : List ℕ) → AreNotes notes (note_lines notes)
notes_are [] = refl
notes_are (byte ∷ notes) = (refl, sym (join_with_byte-slice_split 10 (byte ∷ notes)))

text_are : (which : Tag) (text : List ℕ) → names (name_of which) (name_of which) ≡ true → IsSpelled text → AreText which text (name_of which ∷ shown_text text)
text_are which [] named is = (named, refl)
text_are which (byte ∷ text) named is = (named, is.plain, refl)

-- the lines of the text of a puzzle
abbrev pub written_lines : PuzzleShown → Lines
written_lines puzzle =
    ((((header ∷ [])
    ++ ((((((name_of tags.Title ∷ []) ++ shown_text puzzle.texts.title) ++ (name_of tags.Author ∷ [])) ++ shown_text puzzle.texts.author) ++ (name_of tags.Copyright ∷ [])) ++ shown_text puzzle.texts.copyright))
    ++ ((((name_of tags.Size ∷ []) ++ (size_text puzzle.grid ∷ [])) ++ (name_of tags.Grid ∷ [])) ++ row_texts puzzle.grid.width puzzle.grid.height puzzle.grid.squares))
    ++ (((name_of tags.Across ∷ []) ++ clue_texts Across puzzle.clues puzzle.grid) ++ ((name_of tags.Down ∷ []) ++ clue_texts Down puzzle.clues puzzle.grid)))
    ++ note_lines puzzle.texts.notes

all_shows : (puzzle : PuzzleShown) → CanBeWritten puzzle → Shows (texted puzzle) (written_lines puzzle)
unfolding texted
all_shows puzzle can =
    shows_then _ (notes_text puzzle.texts.notes) _ (note_lines puzzle.texts.notes)
    (shows_then _ (clues_text puzzle.clues puzzle.grid) _ _
    (shows_then _ (grid_text puzzle.grid) _ _
    (shows_then (tag_line header) (texts_text puzzle.texts) (header ∷ []) _ header_shows (texts_show puzzle.texts can.title can.author can.copyright))
    (grid_shows puzzle.grid can.grid))
    (shows_then _ _ _ _ (direction_shows tags.Across Across puzzle.clues puzzle.grid can.across) (direction_shows tags.Down Down puzzle.clues puzzle.grid can.down)))
    (notes_show puzzle.texts.notes can.notes)

no_mark : (puzzle : PuzzleShown) → without_mark (texted puzzle) ≡ texted puzzle
unfolding texted
no_mark puzzle = refl

lines_are : (puzzle : PuzzleShown) → CanBeWritten puzzle → text_lines (texted puzzle) ≡ written_lines puzzle
lines_are puzzle can =
    let none : shown (cut []) ≡ [] = ap (λ (t : Lines). shown (map without_terminator t)) lines-nil in
    ap (λ (t : List ℕ). shown (cut t)) (no_mark puzzle) ∙ ap (λ (t : List ℕ). shown (cut t)) (sym (append-nil (texted puzzle)))
    ∙ (all_shows puzzle can).shows [] ∙ ap (λ (t : Lines). written_lines puzzle ++ t) none ∙ append-nil (written_lines puzzle)

regroup : (h t t1 a a1 c c1 s s1 g r x x1 d d1 n : Lines) →
    (((h ++ (((((t ++ t1) ++ a) ++ a1) ++ c) ++ c1)) ++ (((s ++ s1) ++ g) ++ r)) ++ ((x ++ x1) ++ (d ++ d1))) ++ n
    ≡ h ++ (t ++ (t1 ++ (a ++ (a1 ++ (c ++ (c1 ++ (s ++ (s1 ++ (g ++ (r ++ (x ++ (x1 ++ (d ++ (d1 ++ n))))))))))))))
regroup h t t1 a a1 c c1 s s1 g r x x1 d d1 n = simp append_assoc

spells : (puzzle : PuzzleShown) → CanBeWritten puzzle → Spells (text_lines (texted puzzle)) puzzle
spells puzzle can =
    let rows = rows_are puzzle.grid.width puzzle.grid.height puzzle.grid.squares can.grid.wide.0 can.grid.squares (are_letters puzzle.grid.squares can.grid.letters) in
    let size = size_is puzzle.grid.width puzzle.grid.height can.grid.wide can.grid.high in
    record {
      first = header;
      title = name_of tags.Title ∷ shown_text puzzle.texts.title;
      author = name_of tags.Author ∷ shown_text puzzle.texts.author;
      copyright = name_of tags.Copyright ∷ shown_text puzzle.texts.copyright;
      size_tag = name_of tags.Size;
      size_line = size_text puzzle.grid;
      grid_tag = name_of tags.Grid;
      rows = row_texts puzzle.grid.width puzzle.grid.height puzzle.grid.squares;
      across_tag = name_of tags.Across;
      down_tag = name_of tags.Down;
      notes = note_lines puzzle.texts.notes;
      parts = lines_are puzzle can
          ∙ regroup (header ∷ []) (name_of tags.Title ∷ []) (shown_text puzzle.texts.title) (name_of tags.Author ∷ []) (shown_text puzzle.texts.author) (name_of tags.Copyright ∷ []) (shown_text puzzle.texts.copyright)
          (name_of tags.Size ∷ []) (size_text puzzle.grid ∷ []) (name_of tags.Grid ∷ []) (row_texts puzzle.grid.width puzzle.grid.height puzzle.grid.squares)
          (name_of tags.Across ∷ []) (clue_texts Across puzzle.clues puzzle.grid) (name_of tags.Down ∷ []) (clue_texts Down puzzle.clues puzzle.grid) (note_lines puzzle.texts.notes);
      header_first = refl;
      title_there = text_are tags.Title puzzle.texts.title refl (spelled_text puzzle.texts.title can.title);
      author_there = text_are tags.Author puzzle.texts.author refl (spelled_text puzzle.texts.author can.author);
      copyright_there = text_are tags.Copyright puzzle.texts.copyright refl (spelled_text puzzle.texts.copyright can.copyright);
      size_tagged = refl;
      size_plain = (fine_text (size_text puzzle.grid) size.0).plain;
      size = size.1;
      grid_tagged = refl;
      row_lines = rows.rows;
      row_count = rows.many;
      squares = sym rows.back;
      across_tagged = refl;
      across_plain = all_plain (clue_texts Across puzzle.clues puzzle.grid) can.across;
      down_tagged = refl;
      down_plain = all_plain (clue_texts Down puzzle.clues puzzle.grid) can.down;
      notes_there = notes_are puzzle.texts.notes;
    }

-- the text of a puzzle that can be written is a text file of it
pub is_text : (puzzle : PuzzleShown) → CanBeWritten puzzle → IsText (texted puzzle) puzzle
is_text puzzle can = record { no_nul = (all_shows puzzle can).clean; lines = spells puzzle can; no_bar = can.no_bar; no_circle = can.no_circle }
