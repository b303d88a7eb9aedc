-- The puzzle of a `.puz` file meets the premises of the laws.
use Rattle.std.proofs.Common.{◌≡◌, ℕ, ◌+◌, ◌*◌, ◌<◌, ◌≤◌, true, false, ◌&&◌, List, [], ◌∷◌, length, take, drop, Some, None, refl, sym, subst, arith}
use Rattle.std.specs.Prelude.{Option, Ok, ◌==◌, nat_lt}
use Rattle.std.proofs.lemmas.Bool.{cond_both, eqb-true, ne_eqb}
use Rattle.xw_grid.specs.declared.cell.Cell.{Cell}
use Rattle.xw_grid.specs.declared.cell.Direction.{Direction}
use Rattle.xw_grid.specs.declared.lights.Light.{Light}
use Rattle.xw_grid.specs.Grid.{Grid, IsGrid, is_inside, is_open, cell_at}
use Rattle.xw_grid.specs.Edit.{grid_of}
use Rattle.xw_grid.specs.Clue.{ClueMap, no_clues, with_clue, with_circle}
use Rattle.xw_grid.specs.Light.{lights_of}
use Rattle.xw_grid.proofs.GridLemmas.{cell_at-inside}
use Rattle.xw_files.specs.declared.fault.TextName.TheVariants as names
use Rattle.xw_files.specs.declared.puz.header.Header.{Header}
use Rattle.xw_grid.specs.Puzzle.{PuzzleShown}
use Rattle.xw_files.specs.Puz.Reading.{Fields, text_at, clues_at, texts_at, header_at, fields_at, cell_count}
use Rattle.xw_files.specs.Puz.Sections.{Section, is_marked, with_mark, with_marks, circles_by, gext_in}
use Rattle.xw_files.specs.Puz.Spelling.{HasNoNul, AllHaveNoNul}
use Rattle.xw_files.specs.Puz.Sums.{sums_of, sum_from, wrong_sum}
use Rattle.xw_files.specs.Puz.Board.{with_clues, squares_at, grid_at, clues_in, no_wrong, puzzle_of, puzzle_at}
use Rattle.xw_files.proofs.StepLemmas.{ok_is, bind_ok, passed, avoided}
use Rattle.xw_files.proofs.PuzLemmas.Texts.{text_at-takes}
use Rattle.xw_files.proofs.PuzLemmas.Taken.{clues_at-takes}
use Rattle.xw_commands.specs.declared.command.TextField.{TextField}
use Rattle.xw_commands.specs.declared.command.TextField.TheVariants.{Title, Author, Copyright, Notes}
use Rattle.xw_session.specs.Put.{text_of_field}
use Rattle.xw_answers.specs.Escape.{has_nul}
use Rattle.xw_session_laws.specs.Replay.{BarsAreOnEdges, AreFrom, AreTextsFrom, clues_of, SessionsOpen}
use Rattle.xw_session_laws.proofs.KeptInOrder.{circle_kept, clue_kept}
use Rattle.xw_session_laws.proofs.SessionOpened.{IsKept, session_on, made_edges, no_clues_kept, BeginInside, lights_begin_inside}

no_nul : (text : List ℕ) → HasNoNul text → has_nul text ≡ false
no_nul [] none = refl
no_nul (byte ∷ text) none = rw (ne_eqb 0 byte (λ e. none.0 (sym e))) (no_nul text none.1)

module _ (grid : Grid) (is : IsGrid grid) where
  wide : 0 < grid.width
  wide = omega (arith, is.wide)

  light_clues_kept : (lights : List Light) (texts : List (List ℕ)) (clues : ClueMap) → BeginInside grid lights → AllHaveNoNul texts → ((direction : Direction) → AreTextsFrom grid 0 (clues_of clues direction))
      → (direction : Direction) → AreTextsFrom grid 0 (clues_of (with_clues clues lights texts) direction)
  light_clues_kept lights [] clues inside plain are = are
  light_clues_kept [] (text ∷ texts) clues inside plain are = are
  light_clues_kept (light ∷ lights) (text ∷ texts) clues inside plain are =
      light_clues_kept lights texts (with_clue clues light.start light.name.direction text) inside.1 plain.1
      (clue_kept grid wide clues light.start light.name.direction text inside.0 (no_nul text plain.0) are)

  file_clues_kept : (fields : Fields) (clues : ClueMap) → AllHaveNoNul fields.clues → clues_in (lights_of grid) fields ≡ Ok clues → (direction : Direction) → AreTextsFrom grid 0 (clues_of clues direction)
  file_clues_kept fields clues plain e direction =
      let counted = passed (fields.header.clue_count == length (lights_of grid)) _ _ clues e in
      subst (λ (c : ClueMap). AreTextsFrom grid 0 (clues_of c direction)) (ok_is (with_clues no_clues (lights_of grid) fields.clues) clues counted.1)
      (light_clues_kept (lights_of grid) fields.clues no_clues (lights_begin_inside grid) plain (no_clues_kept grid) direction)

  marks_kept : (bytes : List ℕ) (index : ℕ) (circles : List Cell) → index + length bytes ≤ grid.width * grid.height → AreFrom grid 0 circles → AreFrom grid 0 (with_marks grid circles index bytes)
  marks_kept [] index circles fit are = are
  marks_kept (byte ∷ bytes) index circles fit are =
      let cell = cell_at grid index in
      let inside : is_inside grid cell ≡ true = cell_at-inside grid index is (omega (arith, fit)) in
      marks_kept bytes (index + 1) (with_mark grid circles cell byte) (omega (arith, fit))
      (cond_both (is_marked byte && is_open grid cell) (with_circle circles cell true) circles (AreFrom grid 0) (λ _. circle_kept grid wide cell circles true inside are) (λ _. are))

  file_circles_kept : (section : Option Section) (circles : List Cell) → circles_by grid section ≡ Ok circles → AreFrom grid 0 circles
  file_circles_kept None circles e = subst (AreFrom grid 0) (ok_is [] circles e) tt
  file_circles_kept (Some section) circles e =
      let long = passed (length section.body == grid.width * grid.height) _ _ circles e in
      let same : length section.body ≡ grid.width * grid.height = eqb-true _ _ long.0 in
      let summed = passed (sum_from 0 section.body == section.sum) _ _ circles long.1 in
      subst (AreFrom grid 0) (ok_is (with_marks grid [] 0 section.body) circles summed.1) (marks_kept section.body 0 [] (omega (arith, same)) tt)

-- the texts of a file have no NUL
record ArePlain (fields : Fields) : Type 0 where
  title : HasNoNul fields.title
  author : HasNoNul fields.author
  copyright : HasNoNul fields.copyright
  clues : AllHaveNoNul fields.clues
  notes : HasNoNul fields.notes

texts_plain : (header : Header) (solution state bytes : List ℕ) (fields : Fields) → texts_at header solution state bytes ≡ Ok fields → ArePlain fields
texts_plain header solution state bytes fields e =
    let title = bind_ok (text_at names.Title bytes) _ fields e in
    let author = bind_ok (text_at names.Author title.0.1) _ fields title.2 in
    let copyright = bind_ok (text_at names.Copyright author.0.1) _ fields author.2 in
    let clues = bind_ok (clues_at 1 header.clue_count copyright.0.1) _ fields copyright.2 in
    let notes = bind_ok (text_at names.Notes clues.0.1) _ fields clues.2 in
    subst ArePlain (ok_is _ fields notes.2) (record {
      title = (text_at-takes names.Title bytes title.0.0 title.0.1 title.1).0;
      author = (text_at-takes names.Author title.0.1 author.0.0 author.0.1 author.1).0;
      copyright = (text_at-takes names.Copyright author.0.1 copyright.0.0 copyright.0.1 copyright.1).0;
      clues = (clues_at-takes 1 header.clue_count copyright.0.1 clues.0.0 clues.0.1 clues.1).0;
      notes = (text_at-takes names.Notes clues.0.1 notes.0.0 notes.0.1 notes.1).0;
    })

fields_plain : (bytes : List ℕ) (fields : Fields) → fields_at bytes ≡ Ok fields → ArePlain fields
fields_plain bytes fields e =
    let header = bind_ok (header_at bytes) _ fields e in
    let cells = cell_count header.0 in
    let boards = avoided (nat_lt (length bytes) (52 + 2 * cells)) _ _ fields header.2 in
    let body = drop 52 bytes in
    texts_plain header.0 (take cells body) (take cells (drop cells body)) (drop cells (drop cells body)) fields boards.1

fields_kept : (fields : Fields) (puzzle : PuzzleShown) → ArePlain fields → puzzle_of fields ≡ Ok puzzle → IsGrid puzzle.grid → IsKept puzzle
fields_kept fields puzzle plain e =
    let summed = bind_ok (no_wrong (wrong_sum fields.header (sums_of fields))) _ puzzle e in
    let grid = bind_ok (grid_at fields) _ puzzle summed.2 in
    let clues = bind_ok (clues_in (lights_of grid.0) fields) _ puzzle grid.2 in
    let circles = bind_ok (circles_by grid.0 (gext_in fields.rest)) _ puzzle clues.2 in
    let squares = bind_ok (squares_at fields.header.width 0 fields.solution) _ grid.0 grid.1 in
    let made : grid_of fields.header.width fields.header.height squares.0 ≡ grid.0 = ok_is _ grid.0 squares.2 in
    subst (λ (p : PuzzleShown). IsGrid p.grid → IsKept p) (ok_is _ puzzle circles.2) (λ is. record {
      bars = subst BarsAreOnEdges made (made_edges fields.header.width fields.header.height squares.0);
      texts = λ name. each name;
      clues = file_clues_kept grid.0 is fields clues.0 plain.clues clues.1;
      circles = file_circles_kept grid.0 is (gext_in fields.rest) circles.0 circles.1;
    })
  where
    each : (name : TextField) → has_nul (text_of_field (record { title = fields.title; author = fields.author; copyright = fields.copyright; notes = fields.notes }) name) ≡ false
    each Title = no_nul fields.title plain.title
    each Author = no_nul fields.author plain.author
    each Copyright = no_nul fields.copyright plain.copyright
    each Notes = no_nul fields.notes plain.notes

pub puz_opened : SessionsOpen puzzle_at
puz_opened words bytes puzzle e formed first =
    let fields = bind_ok (fields_at bytes) puzzle_of puzzle e in
    session_on words puzzle (fields_kept fields.0 puzzle (fields_plain bytes fields.0 fields.1) fields.2 formed.grid) formed first
