-- The bytes written for a puzzle are a `.puz` file of it, with or without allowed bytes appended.
use Rattle.std.proofs.Common.{◌≡◌, ◌≢◌, ℕ, suc, ◌+◌, ◌*◌, ◌<◌, ◌^◌, Bool, true, false, cond, List, [], ◌∷◌, ◌++◌, map, length, replicate, nat_eq, refl, sym, ap, ◌∙◌, subst, arith, append_assoc, Ok, Err}
use Rattle.std.specs.Prelude.{Result, Option, Some, None, All, IfOk}
use Rattle.std.specs.List.{list_any}
use Rattle.std.specs.declared.vec.Vec.{Vec}
use Rattle.std.proofs.lemmas.List.{length-map}
use Rattle.std.proofs.lemmas.Nat.{mul-le}
use Rattle.xw_grid.specs.declared.cell.Cell.{Cell}
use Rattle.xw_grid.specs.declared.cell.Square.{Square}
use Rattle.xw_grid.specs.Grid.{IsGrid, IsSquare, cells}
use Rattle.xw_grid.specs.Light.{lights_of}
use Rattle.xw_grid.proofs.CountLemmas.{lights_are_few}
use Rattle.xw_files.specs.declared.fault.TextName.{TextName}
use Rattle.xw_files.specs.declared.fault.WriteFault.{WriteFault}
use Rattle.xw_grid.specs.Puzzle.{PuzzleShown, clue_of}
use Rattle.xw_files.specs.Part.{light_clues, is_circled_open, circled_cells}
use Rattle.xw_files.specs.Finished.{has_bar, empty_cell, square_byte}
use Rattle.xw_files.specs.Puz.Reading.{Fields}
use Rattle.xw_files.specs.Puz.Spelling.{HasNoNul, AllHaveNoNul, with_nuls, header_bytes, cib_bytes}
use Rattle.xw_files.specs.Puz.Sums.{summed, sum_from, sums_of, text_bytes}
use Rattle.xw_files.specs.Puz.Sections.{Section, AreBytes, AreSections, HasNoGext, first_gext}
use Rattle.xw_files.specs.Puz.Board.{square_of}
use Rattle.xw_files.specs.Puz.Relation.{AreMarked, IsPuz}
use Rattle.xw_files.specs.Puz.Writing.{state_byte, mark_of, marks_of, gext_of, gext_bytes, unsealed_fields, fields_of, spelled_puzzle, written_by, has_nul, clue_with_nul, or_notes, text_with_nul, field_fault, filled_fault, write_fault}
use Rattle.xw_files.specs.Puz.Laws.{WrittenIsRead}
use Rattle.xw_files.proofs.PuzLemmas.SumsAndSquares.{square-again}
use Rattle.xw_files.proofs.PlainLights.{or-false}
use Rattle.xw_files.proofs.CellLemmas.{length-map-cells}
use Rattle.xw_files.proofs.PuzLemmas.CircleLemmas.{none-filtered, marked-written}
use Rattle.xw_files.proofs.PuzLemmas.Cuts.{Cut, cut-of, one-more, bytes-after}
use Rattle.xw_files.proofs.PuzLemmas.Related.{readable, found, one_part}

-- ---- no NUL

not-zero : (b : ℕ) → nat_eq b 0 ≡ false → b ≢ 0
not-zero b h = λ z. (let bad : nat_eq b 0 ≡ true = rw z refl in cc)

no_nul : (text : List ℕ) → has_nul text ≡ false → HasNoNul text
no_nul [] h = tt
no_nul (b ∷ text) h = let both = or-false (nat_eq b 0) (has_nul text) h in (not-zero b both.0, no_nul text both.1)

-- if the result is None, the test failed
passed_over : {A : Type 0} (b : Bool) (o : Option A) (x : A) → cond b (Some x) o ≡ None → (b ≡ false) × (o ≡ None)
passed_over true o x e = cc
passed_over false o x e = (refl, e)

no_nuls : (k : ℕ) (clues : List (List ℕ)) → clue_with_nul k clues ≡ None → AllHaveNoNul clues
no_nuls k [] h = tt
no_nuls k (clue ∷ clues) h = let first = passed_over (has_nul clue) (clue_with_nul (k + 1) clues) _ h in (no_nul clue first.0, no_nuls (k + 1) clues first.1)

no_notes : (notes : List ℕ) (o : Option TextName) → or_notes notes o ≡ None → (o ≡ None) × (has_nul notes ≡ false)
no_notes notes (Some text) e = cc
no_notes notes None e = (refl, (passed_over (has_nul notes) None _ e).0)

no_field : (o : Option TextName) → field_fault o ≡ None → o ≡ None
no_field (Some text) e = cc
no_field None e = refl

all_filled : (puzzle : PuzzleShown) (o : Option Cell) → filled_fault puzzle o ≡ None → text_with_nul puzzle ≡ None
all_filled puzzle (Some cell) e = cc
all_filled puzzle None e = no_field (text_with_nul puzzle) e

-- ---- checksums, squares and the tail

sum-small : (start : ℕ) (bytes : List ℕ) → start < 2 ^ 16 → sum_from start bytes < 2 ^ 16
sum-small start [] h = h
sum-small start (b ∷ bytes) h = sum-small (summed start b) bytes (omega arith)

squares-same : (squares : List Square) → All IsSquare squares → map square_of (map square_byte squares) ≡ map (λ square. Some square) squares
squares-same [] h = refl
squares-same (square ∷ squares) h = rw (square-again square (h 0 square (omega arith)), squares-same squares (λ k d l. h (suc k) d (omega arith))) refl

with_nuls-tail : (texts : List (List ℕ)) (notes rest tail : List ℕ) → with_nuls texts (notes ++ 0 ∷ rest) ++ tail ≡ with_nuls texts (notes ++ 0 ∷ (rest ++ tail))
with_nuls-tail [] notes rest tail = append_assoc notes (0 ∷ rest) tail
with_nuls-tail (text ∷ texts) notes rest tail = append_assoc text (0 ∷ with_nuls texts (notes ++ 0 ∷ rest)) tail ∙ ap (λ more. text ++ 0 ∷ more) (with_nuls-tail texts notes rest tail)

-- bytes after a file are bytes after its last section
spelled-tail : (head solution state title author copyright notes rest tail : List ℕ) (clues : List (List ℕ))
    → (head ++ (solution ++ (state ++ (title ++ 0 ∷ (author ++ 0 ∷ (copyright ++ 0 ∷ with_nuls clues (notes ++ 0 ∷ rest))))))) ++ tail
    ≡ head ++ (solution ++ (state ++ (title ++ 0 ∷ (author ++ 0 ∷ (copyright ++ 0 ∷ with_nuls clues (notes ++ 0 ∷ (rest ++ tail)))))))
spelled-tail head solution state title author copyright notes rest tail clues =
    let last = with_nuls clues (notes ++ 0 ∷ rest) in
    let third : (copyright ++ 0 ∷ last) ++ tail ≡ copyright ++ 0 ∷ with_nuls clues (notes ++ 0 ∷ (rest ++ tail)) = append_assoc copyright (0 ∷ last) tail ∙ ap (λ more. copyright ++ 0 ∷ more) (with_nuls-tail clues notes rest tail) in
    let second = append_assoc author (0 ∷ (copyright ++ 0 ∷ last)) tail ∙ ap (λ more. author ++ 0 ∷ more) third in
    let first = append_assoc title (0 ∷ (author ++ 0 ∷ (copyright ++ 0 ∷ last))) tail ∙ ap (λ more. title ++ 0 ∷ more) second in
    let texts = title ++ 0 ∷ (author ++ 0 ∷ (copyright ++ 0 ∷ last)) in
    append_assoc head (solution ++ (state ++ texts)) tail
    ∙ ap (λ more. head ++ more) (append_assoc solution (state ++ texts) tail ∙ ap (λ more. solution ++ more) (append_assoc state texts tail ∙ ap (λ more. state ++ more) first))

-- ---- sections

-- the sections of the circles and of the appended bytes
record Marked (puzzle : PuzzleShown) (rest : List ℕ) : Type 0 where
  sections : List Section
  tail : List ℕ
  are : AreSections rest sections tail
  marked : AreMarked puzzle (first_gext sections)

with-section : (puzzle : PuzzleShown) (tail : List ℕ) → IsGrid puzzle.grid → Cut tail → Marked puzzle (gext_bytes (marks_of puzzle.grid puzzle.circles) ++ tail)
with-section puzzle tail is cut =
    let grid = puzzle.grid in
    let marks = marks_of grid puzzle.circles in
    let long : length marks ≡ grid.width * grid.height = length-map-cells (mark_of grid puzzle.circles) grid in
    let few : length marks < 2 ^ 16 = omega (arith, long, mul-le grid.width grid.height 255 255 is.wide.1 is.high.1) in
    record {
      sections = gext_of marks ∷ cut.sections;
      tail = cut.tail;
      are = one-more (gext_bytes marks ++ tail) tail cut.tail (gext_of marks) cut.sections (record { name = refl; size = few; sum = sum-small 0 marks (omega arith) }) refl cut.are;
      marked = (long, refl, marked-written grid puzzle.circles);
    }

without-section : (puzzle : PuzzleShown) (tail : List ℕ) → circled_cells puzzle ≡ [] → HasNoGext tail → Marked puzzle tail
without-section puzzle tail none lacks = record { sections = lacks.sections; tail = lacks.tail; are = lacks.are; marked = subst (AreMarked puzzle) (sym lacks.none) none }

marked-sections : (puzzle : PuzzleShown) (tail : List ℕ) (any : Bool) → IsGrid puzzle.grid → AreBytes tail → list_any (is_circled_open puzzle.grid puzzle.circles) (cells puzzle.grid) ≡ any → (circled_cells puzzle ≡ [] → HasNoGext tail)
    → Marked puzzle (cond any (gext_bytes (marks_of puzzle.grid puzzle.circles)) [] ++ tail)
marked-sections puzzle tail true is small some lacks = with-section puzzle tail is (cut-of tail small)
marked-sections puzzle tail false is small none lacks =
    let empty = none-filtered (is_circled_open puzzle.grid puzzle.circles) (cells puzzle.grid) none in
    without-section puzzle tail empty (lacks empty)

-- ---- the whole file

pub written_again : (puzzle : PuzzleShown) (tail : List ℕ) → IsGrid puzzle.grid → write_fault puzzle ≡ None → AreBytes tail → (circled_cells puzzle ≡ [] → HasNoGext tail) → IsPuz (spelled_puzzle puzzle ++ tail) puzzle
written_again puzzle tail is right small none =
    let grid = puzzle.grid in
    let lights = lights_of grid in
    let written = unsealed_fields puzzle in
    let bars = passed_over (has_bar grid) (filled_fault puzzle (empty_cell grid)) _ right in
    let nuls = all_filled puzzle (empty_cell grid) bars.1 in
    let title = passed_over (has_nul puzzle.texts.title) _ _ nuls in
    let author = passed_over (has_nul puzzle.texts.author) _ _ title.1 in
    let copyright = passed_over (has_nul puzzle.texts.copyright) _ _ author.1 in
    let notes = no_notes puzzle.texts.notes (clue_with_nul 1 (light_clues puzzle)) copyright.1 in
    let few : length lights < 2 ^ 16 = omega (arith, lights_are_few grid is) in
    let marked = marked-sections puzzle tail (list_any (is_circled_open grid puzzle.circles) (cells grid)) is small refl none in
    let fields : Fields = record (fields_of puzzle) { rest = (fields_of puzzle).rest ++ tail } in
    record {
      fields = fields;
      reserved = replicate 16 0;
      sections = marked.sections;
      tail = marked.tail;
      reserved_long = refl;
      fits = record {
        header = record {
          file_sum = sum-small (sums_of written).cib (written.solution ++ (written.state ++ text_bytes written)) (sum-small 0 (cib_bytes written.header) (omega arith));
          cib_sum = sum-small 0 (cib_bytes written.header) (omega arith);
          clue_count = few;
          bitmask = omega arith;
          masked = refl;
          width = is.wide.0;
          height = is.high.0;
        };
        solution = length-map grid.squares square_byte ∙ is.squares;
        state = length-map grid.squares state_byte ∙ is.squares;
        title = no_nul puzzle.texts.title title.0;
        author = no_nul puzzle.texts.author author.0;
        copyright = no_nul puzzle.texts.copyright copyright.0;
        clues = no_nuls 1 (light_clues puzzle) notes.0;
        clue_count = length-map lights (clue_of puzzle.clues);
        notes = no_nul puzzle.texts.notes notes.1;
      };
      cut = spelled-tail (header_bytes (fields_of puzzle).header (replicate 16 0)) written.solution written.state puzzle.texts.title puzzle.texts.author puzzle.texts.copyright puzzle.texts.notes written.rest tail written.clues;
      cut_rest = marked.are;
      sums = record { cib = refl; file = refl; masked = refl };
      width = refl;
      height = refl;
      no_bar = bars.0;
      squares = squares-same grid.squares is.letters;
      texts = refl;
      clues = refl;
      circles = marked.marked;
    }

-- the result of a writer is a file of its puzzle, with or without bytes appended
pub gives-again : {Z : Type 0} (result : Result (Vec ℕ Z) WriteFault) (puzzle : PuzzleShown) → IsGrid puzzle.grid → write_fault puzzle ≡ None → IfOk result (λ bytes. bytes.items ≡ spelled_puzzle puzzle)
    → IfOk result (λ bytes. (tail : List ℕ) → AreBytes tail → (circled_cells puzzle ≡ [] → HasNoGext tail) → IsPuz (bytes.items ++ tail) puzzle)
gives-again (Ok bytes) puzzle is right e = λ tail small none. subst (λ xs. IsPuz (xs ++ tail) puzzle) (sym e) (written_again puzzle tail is right small none)
gives-again (Err fault) puzzle is right e = tt

-- a puzzle that is written has no fault
unfaulted : (puzzle : PuzzleShown) (fault : Option WriteFault) (bytes : List ℕ) → written_by puzzle fault ≡ Ok bytes → (fault ≡ None) × (spelled_puzzle puzzle ≡ bytes)
unfaulted puzzle (Some fault) bytes e = cc
unfaulted puzzle None bytes e = (refl, cc)

pub written_is_read : WrittenIsRead
written_is_read puzzle bytes tail is e small none =
    let right = unfaulted puzzle (write_fault puzzle) bytes e in
    let file : IsPuz (bytes ++ tail) puzzle = subst (λ xs. IsPuz (xs ++ tail) puzzle) right.1 (written_again puzzle tail is right.0 (bytes-after bytes tail small) none) in
    let read = readable (bytes ++ tail) puzzle small file in
    (read.0, read.1, one_part (bytes ++ tail) read.0 puzzle (found (bytes ++ tail) read.0 small read.1) file)
