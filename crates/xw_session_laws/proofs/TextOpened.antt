-- The puzzle of a text file meets the premises of the laws.
use Rattle.std.proofs.Common.{◌≡◌, ℕ, ◌<◌, true, false, List, [], ◌∷◌, Some, None, refl, sym, subst, arith}
use Rattle.std.specs.Prelude.{Option, Ok, nat_eq, position}
use Rattle.std.specs.List.{AllByRecursion}
use Rattle.std.proofs.lemmas.Bool.{cond_both}
use Rattle.std.proofs.lemmas.Bool.Decides.{nat_tests}
use Rattle.xw_grid.specs.declared.cell.Cell.{Cell}
use Rattle.xw_grid.specs.declared.cell.Direction.{Direction}
use Rattle.xw_grid.specs.declared.cell.Direction.TheVariants.{Across, Down}
use Rattle.xw_grid.specs.declared.lights.Light.{Light}
use Rattle.xw_grid.specs.Grid.{Grid, IsGrid, is_inside}
use Rattle.xw_grid.specs.Clue.{ClueMap, no_clues, with_clue}
use Rattle.xw_grid.specs.Light.{lights_of, same_direction}
use Rattle.xw_files.specs.declared.fault.ReadFault.TheVariants as faults
use Rattle.xw_files.specs.declared.fault.Tag.{Tag}
use Rattle.xw_files.specs.declared.fault.Tag.TheVariants as tags
use Rattle.xw_grid.specs.Puzzle.{TextsShown, PuzzleShown}
use Rattle.xw_files.specs.Text.Lines.{text_lines}
use Rattle.xw_files.specs.Text.Relation.{AreText, AreNotes}
use Rattle.xw_files.specs.Text.Shape.{Lines, header_at, tag_at, text_at, texts_at, size_at, rows_at, grid_at, with_clues, clues_at, both_clues_at, notes_at, shape, shaped, is_nul, all_of}
use Rattle.xw_files.specs.Text.Starts.{start_in, starts_in, starts}
use Rattle.xw_files.proofs.StepLemmas.{ok_is, bind_ok}
use Rattle.xw_files.proofs.TextLemmas.Alls.{all_append}
use Rattle.xw_files.proofs.TextLemmas.Found.{all_takes}
use Rattle.xw_files.proofs.TextLemmas.Takes.{header_takes, tag_takes, text_takes, size_takes, rows_take, clues_take, notes_takes}
use Rattle.xw_commands.specs.declared.command.TextField.{TextField}
use Rattle.xw_commands.specs.declared.command.TextField.TheVariants.{Title, Author, Copyright, Notes}
use Rattle.xw_session.specs.Put.{text_of_field}
use Rattle.xw_answers.specs.Escape.{has_nul}
use Rattle.xw_session_laws.specs.Replay.{BarsAreOnEdges, AreTextsFrom, clues_of, SessionsOpen}
use Rattle.xw_session_laws.proofs.KeptInOrder.{clue_kept}
use Rattle.xw_session_laws.proofs.PlainLines.{IsPlainText, ArePlainTexts, all_parts, text_lines_plain, joined_plain}
use Rattle.xw_session_laws.proofs.SessionOpened.{IsKept, session_on, made_edges, no_clues_kept, BeginInside, lights_begin_inside}

other_way : (byte : ℕ) → is_nul byte ≡ false → nat_eq 0 byte ≡ false
other_way byte e = grind (arith, nat_tests, e)

no_nul : (text : List ℕ) → IsPlainText text → has_nul text ≡ false
no_nul [] plain = refl
no_nul (byte ∷ text) plain = rw (other_way byte plain.0) (no_nul text plain.1)

-- ---- texts

own_text : (tag : Tag) (text : List ℕ) (own : Lines) → AreText tag text own → ArePlainTexts own → IsPlainText text
own_text tag text [] are plain = absurd are
own_text tag text (first ∷ []) are plain = subst IsPlainText (sym are.1) tt
own_text tag text (first ∷ second ∷ []) are plain = subst IsPlainText (sym are.2) plain.1.0
own_text tag text (first ∷ second ∷ third ∷ rest) are plain = absurd are

text_plain : (tag : Tag) (lines after rest : Lines) (text : List ℕ) → tag_at tag lines ≡ Ok after → text_at after ≡ Ok (text, rest) → ArePlainTexts lines → IsPlainText text × ArePlainTexts rest
text_plain tag lines after rest text e f plain =
    let taken = text_takes tag lines after rest text e f in
    let parts = all_parts IsPlainText taken.0 rest (subst ArePlainTexts taken.1 plain) in
    (own_text tag text taken.0 taken.2 parts.0, parts.1)

after_one : (line : List ℕ) (lines rest : Lines) → lines ≡ line ∷ rest → ArePlainTexts lines → ArePlainTexts rest
after_one line lines rest is plain = (subst ArePlainTexts is plain).1

after_tag : (tag : Tag) (lines rest : Lines) → tag_at tag lines ≡ Ok rest → ArePlainTexts lines → ArePlainTexts rest
after_tag tag lines rest e plain = let taken = tag_takes tag lines rest e in after_one taken.0 lines rest taken.1 plain

-- title, author and copyright have no NUL
record AreAbove (texts : TextsShown) : Type 0 where
  title : IsPlainText texts.title
  author : IsPlainText texts.author
  copyright : IsPlainText texts.copyright

texts_plain : (lines rest : Lines) (texts : TextsShown) → texts_at lines ≡ Ok (texts, rest) → ArePlainTexts lines → AreAbove texts × ArePlainTexts rest
unfolding texts_at
texts_plain lines rest texts e plain =
    let a = bind_ok (tag_at tags.Title lines) _ (texts, rest) e in
    let title = bind_ok (text_at a.0) _ (texts, rest) a.2 in
    let b = bind_ok (tag_at tags.Author title.0.1) _ (texts, rest) title.2 in
    let author = bind_ok (text_at b.0) _ (texts, rest) b.2 in
    let c = bind_ok (tag_at tags.Copyright author.0.1) _ (texts, rest) author.2 in
    let copyright = bind_ok (text_at c.0) _ (texts, rest) c.2 in
    let first = text_plain tags.Title lines a.0 title.0.1 title.0.0 a.1 title.1 plain in
    let second = text_plain tags.Author title.0.1 b.0 author.0.1 author.0.0 b.1 author.1 first.1 in
    let third = text_plain tags.Copyright author.0.1 c.0 copyright.0.1 copyright.0.0 c.1 copyright.1 second.1 in
    subst (λ (p : TextsShown × Lines). AreAbove p.0 × ArePlainTexts p.1) (ok_is _ (texts, rest) copyright.2)
    (record { title = first.0; author = second.0; copyright = third.0 }, third.1)

notes_plain : (lines : Lines) (notes : List ℕ) → AreNotes notes lines → ArePlainTexts lines → IsPlainText notes
notes_plain [] notes are plain = subst IsPlainText (sym are) tt
notes_plain (line ∷ lines) notes are plain = subst IsPlainText (sym are.1) (joined_plain lines plain.1)

-- ---- the grid

grid_plain : (lines rest : Lines) (grid : Grid) → grid_at lines ≡ Ok (grid, rest) → ArePlainTexts lines → BarsAreOnEdges grid × ArePlainTexts rest
unfolding grid_at
grid_plain lines rest grid e plain =
    let a = bind_ok (tag_at tags.Size lines) _ (grid, rest) e in
    let size = bind_ok (size_at a.0) _ (grid, rest) a.2 in
    let b = bind_ok (tag_at tags.Grid size.0.1) _ (grid, rest) size.2 in
    let rows = bind_ok (rows_at size.0.0.0 1 size.0.0.1 b.0) _ (grid, rest) b.2 in
    let line = size_takes a.0 size.0.1 size.0.0 size.1 in
    let taken = rows_take size.0.0.0 1 size.0.0.1 b.0 rows.0.1 rows.0.0 rows.1 in
    let sized = after_one line.0 a.0 size.0.1 line.1 (after_tag tags.Size lines a.0 a.1 plain) in
    let below = subst ArePlainTexts taken.parts (after_tag tags.Grid size.0.1 b.0 b.1 sized) in
    subst (λ (p : Grid × Lines). BarsAreOnEdges p.0 × ArePlainTexts p.1) (ok_is _ (grid, rest) rows.2)
    (made_edges size.0.0.0 size.0.0.1 rows.0.0, (all_parts IsPlainText taken.rows rows.0.1 below).1)

-- ---- clues

module _ (grid : Grid) (is : IsGrid grid) where
  abbrev AreInside : List Cell → Type 0
  AreInside cells = AllByRecursion (λ cell. is_inside grid cell ≡ true) cells

  abbrev AreCluesKept : ClueMap → Type 0
  AreCluesKept clues = (direction : Direction) → AreTextsFrom grid 0 (clues_of clues direction)

  wide : 0 < grid.width
  wide = omega (arith, is.wide)

  starts_inside : (direction : Direction) (lights : List Light) → BeginInside grid lights → AreInside (starts_in direction lights)
  starts_inside direction [] inside = tt
  starts_inside direction (light ∷ lights) inside =
      all_append (λ cell. is_inside grid cell ≡ true) (start_in direction light) (starts_in direction lights)
      (cond_both (same_direction light.name.direction direction) (light.start ∷ []) [] AreInside (λ _. (inside.0, tt)) (λ _. tt))
      (starts_inside direction lights inside.1)

  start_clues_kept : (direction : Direction) (cells : List Cell) (texts : Lines) (clues : ClueMap) → AreInside cells → ArePlainTexts texts → AreCluesKept clues → AreCluesKept (with_clues direction cells texts clues)
  start_clues_kept direction [] texts clues inside plain are = are
  start_clues_kept direction (cell ∷ cells) [] clues inside plain are = are
  start_clues_kept direction (cell ∷ cells) (text ∷ texts) clues inside plain are =
      start_clues_kept direction cells texts (with_clue clues cell direction text) inside.1 plain.1 (clue_kept grid wide clues cell direction text inside.0 (no_nul text plain.0) are)

  both_kept : (lines rest : Lines) (clues : ClueMap) → both_clues_at grid lines ≡ Ok (clues, rest) → ArePlainTexts lines → AreCluesKept clues × ArePlainTexts rest
  unfolding both_clues_at
  both_kept lines rest clues e plain =
      let a = bind_ok (tag_at tags.Across lines) _ (clues, rest) e in
      let across = bind_ok (clues_at faults.AcrossCount Across (starts grid Across) no_clues a.0) _ (clues, rest) a.2 in
      let b = bind_ok (tag_at tags.Down across.0.1) _ (clues, rest) across.2 in
      let one = clues_take faults.AcrossCount Across (starts grid Across) no_clues across.0.0 a.0 across.0.1 across.1 in
      let other = clues_take faults.DownCount Down (starts grid Down) across.0.0 clues b.0 rest b.2 in
      let first = all_parts IsPlainText one.texts across.0.1 (subst ArePlainTexts one.parts (after_tag tags.Across lines a.0 a.1 plain)) in
      let second = all_parts IsPlainText other.texts rest (subst ArePlainTexts other.parts (after_tag tags.Down across.0.1 b.0 b.1 first.1)) in
      let inside : (direction : Direction) → AreInside (starts grid direction) = λ direction. starts_inside direction (lights_of grid) (lights_begin_inside grid) in
      let half : AreCluesKept across.0.0 = subst AreCluesKept (sym one.meaning) (start_clues_kept Across (starts grid Across) one.texts no_clues (inside Across) first.0 (no_clues_kept grid)) in
      (subst AreCluesKept (sym other.meaning) (start_clues_kept Down (starts grid Down) other.texts across.0.0 (inside Down) second.0 half), second.1)

-- ---- the whole puzzle

each_plain : (texts : TextsShown) (notes : List ℕ) → AreAbove texts → IsPlainText notes → (name : TextField) → has_nul (text_of_field (record texts { notes = notes }) name) ≡ false
each_plain texts notes above plain Title = no_nul texts.title above.title
each_plain texts notes above plain Author = no_nul texts.author above.author
each_plain texts notes above plain Copyright = no_nul texts.copyright above.copyright
each_plain texts notes above plain Notes = no_nul notes plain

shape_kept : (lines : Lines) (puzzle : PuzzleShown) → shape lines ≡ Ok puzzle → ArePlainTexts lines → IsGrid puzzle.grid → IsKept puzzle
unfolding shape
shape_kept lines puzzle e plain =
    let a = bind_ok (header_at lines) _ puzzle e in
    let texts = bind_ok (texts_at a.0) _ puzzle a.2 in
    let grid = bind_ok (grid_at texts.0.1) _ puzzle texts.2 in
    let clues = bind_ok (both_clues_at grid.0.0 grid.0.1) _ puzzle grid.2 in
    let notes = bind_ok (notes_at clues.0.1) _ puzzle clues.2 in
    let header = header_takes lines a.0 a.1 in
    let above = texts_plain a.0 texts.0.1 texts.0.0 texts.1 (after_one header.0 lines a.0 header.1 plain) in
    let squares = grid_plain texts.0.1 grid.0.1 grid.0.0 grid.1 above.1 in
    let made : PuzzleShown = record { grid = grid.0.0; texts = record texts.0.0 { notes = notes.0 }; clues = clues.0.0; circles = [] } in
    subst (λ (p : PuzzleShown). IsGrid p.grid → IsKept p) (ok_is made puzzle notes.2) (λ is.
    let both = both_kept grid.0.0 is grid.0.1 clues.0.1 clues.0.0 clues.1 squares.1 in
    record {
      bars = squares.0;
      texts = each_plain texts.0.0 notes.0 above.0 (notes_plain clues.0.1 notes.0 (notes_takes clues.0.1 notes.0 notes.1) both.1);
      clues = both.0;
      circles = tt;
    })

is_shaped : (offset : Option ℕ) (bytes : List ℕ) (puzzle : PuzzleShown) → shaped offset bytes ≡ Ok puzzle → shape (text_lines bytes) ≡ Ok puzzle
is_shaped None bytes puzzle e = e
is_shaped (Some offset) bytes puzzle e = absurd cc

is_read : (bytes : List ℕ) (puzzle : PuzzleShown) → all_of bytes ≡ Ok puzzle → shape (text_lines bytes) ≡ Ok puzzle
unfolding all_of
is_read bytes puzzle e = is_shaped (position is_nul bytes) bytes puzzle e

pub text_opened : SessionsOpen all_of
text_opened words bytes puzzle e formed first =
    let plain = text_lines_plain bytes (all_takes bytes puzzle e).0.no_nul in
    session_on words puzzle (shape_kept (text_lines bytes) puzzle (is_read bytes puzzle e) plain formed.grid) formed first
