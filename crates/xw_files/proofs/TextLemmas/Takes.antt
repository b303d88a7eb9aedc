-- Lines spell what is read from them.
use Rattle.std.proofs.Common.{◌≡◌, ℕ, zero, suc, ◌+◌, true, false, eqb, List, [], ◌∷◌, ◌++◌, length, Option, Some, None, Result, Ok, Err, map, refl, sym, ap, subst, ◌∙◌, inl, inr}
use Rattle.std.specs.Prelude.{position}
use Rattle.std.specs.List.{flat_map, All, AllByRecursion}
use Rattle.std.proofs.lemmas.Bool.{eqb-true}
use Rattle.xw_text.proofs.Position.{position-None}
use Rattle.xw_grid.specs.declared.cell.Cell.{Cell}
use Rattle.xw_grid.specs.declared.cell.Square.{Square}
use Rattle.xw_grid.specs.declared.cell.Direction.{Direction}
use Rattle.xw_grid.specs.Grid.{IsSquare}
use Rattle.xw_grid.specs.Clue.{ClueMap, with_clue}
use Rattle.xw_files.specs.declared.fault.Tag.{Tag}
use Rattle.xw_files.specs.declared.fault.Tag.TheVariants as tags
use Rattle.xw_files.specs.declared.fault.ReadFault.{ReadFault}
use Rattle.xw_files.specs.declared.fault.ReadFault.TheVariants as faults
use Rattle.xw_files.specs.Text.Tag.{header, name_of, names}
use Rattle.xw_files.specs.Steps.{◌>>=◌}
use Rattle.xw_files.specs.Text.Shape.{Lines, header_at, tag_at, plain_at, text_at, sized, sides_at, size_at, sides_of, is_bad_square, square_of, squares_in, row_squares, cells_at, row_at, rows_at, with_clues, clues_at, notes_at}
use Rattle.xw_files.specs.Text.Relation.{IsTag, IsPlain, AreText, IsRow, AreNotes}
use Rattle.xw_files.proofs.StepLemmas.{bind_ok, ok_is}
use Rattle.xw_files.proofs.TextLemmas.Shapes.{chosen}
use Rattle.xw_files.proofs.TextLemmas.Squares.{square_good}
use Rattle.xw_files.proofs.TextLemmas.Plains.{plain_takes, no_plain, cases_option, line_due}
use Rattle.xw_files.proofs.TextLemmas.Clues.{clue_next_is, clue_missing_is, clues_done_is, clues_over_is}
use Rattle.xw_files.proofs.TextLemmas.Alls.{all_at, all_from, all_append}

pub header_takes : (lines rest : Lines) → header_at lines ≡ Ok rest → (line : List ℕ) × (lines ≡ line ∷ rest) × (names line header ≡ true)
unfolding header_at
header_takes [] rest e = absurd cc
header_takes (line ∷ lines) rest e =
    let parts = chosen (names line header) faults.Header (Ok lines) rest e in
    (line, ap (λ (t : Lines). line ∷ t) (ok_is lines rest parts.1), parts.0)

pub tag_takes : (tag : Tag) (lines rest : Lines) → tag_at tag lines ≡ Ok rest → (line : List ℕ) × (lines ≡ line ∷ rest) × IsTag tag line
unfolding tag_at
tag_takes tag [] rest e = absurd cc
tag_takes tag (line ∷ lines) rest e =
    let parts = chosen (names line (name_of tag)) (faults.Tag tag) (Ok lines) rest e in
    (line, ap (λ (t : Lines). line ∷ t) (ok_is lines rest parts.1), parts.0)

pub text_takes : (tag : Tag) (lines after rest : Lines) (text : List ℕ) → tag_at tag lines ≡ Ok after → text_at after ≡ Ok (text, rest) → (own : Lines) × (lines ≡ own ++ rest) × AreText tag text own
unfolding text_at
text_takes tag lines after rest text e f =
    let first = tag_takes tag lines after e in
    let both = ok_is _ (text, rest) f in
    let rest_is = ap (λ (p : List ℕ × Lines). p.1) both in
    let text_is = ap (λ (p : List ℕ × Lines). p.0) both in
    elim (cases_option (plain_at after).0) [
      | inl found ↦
          let taken = plain_takes after found.0 found.1 in
          (first.0 ∷ found.0 ∷ [], first.1 ∙ ap (λ (t : Lines). first.0 ∷ t) (taken.parts ∙ ap (λ (t : Lines). found.0 ∷ t) rest_is), (first.2, taken.plain, sym text_is ∙ rw found.1 refl))
      | inr none ↦ (first.0 ∷ [], first.1 ∙ ap (λ (t : Lines). first.0 ∷ t) (sym (no_plain after none) ∙ rest_is), (first.2, sym text_is ∙ rw none refl))
    ]

pub notes_takes : (lines : Lines) (notes : List ℕ) → notes_at lines ≡ Ok notes → AreNotes notes lines
unfolding notes_at
notes_takes [] notes e = sym (ok_is [] notes e)
notes_takes (line ∷ lines) notes e =
    let parts = chosen (names line (name_of tags.Notepad)) (faults.Tag tags.Notepad) _ notes e in
    (parts.0, sym (ok_is _ notes parts.1))

sized_is : (sides : Option (ℕ × ℕ)) (after rest : Lines) (size : ℕ × ℕ) → sized sides after ≡ Ok (size, rest) → (sides ≡ Some size) × (after ≡ rest)
sized_is None after rest size e = absurd cc
sized_is (Some sides) after rest size e =
    let both = ok_is (sides, after) (size, rest) e in
    (ap (λ (p : (ℕ × ℕ) × Lines). Some p.0) both, ap (λ (p : (ℕ × ℕ) × Lines). p.1) both)

no_size : (after : Lines) (r : (ℕ × ℕ) × Lines) → sides_at None after ≡ Ok r → ⊥
no_size after r e = cc

pub size_takes : (lines rest : Lines) (size : ℕ × ℕ) → size_at lines ≡ Ok (size, rest) → (line : List ℕ) × (lines ≡ line ∷ rest) × IsPlain line × (sides_of line ≡ Some size)
unfolding size_at
size_takes lines rest size e =
    elim (line_due lines) [
      | inl found ↦
          let parts = sized_is (sides_of found.0) (plain_at lines).1 rest size (rw found.1 at e) in
          (found.0, found.2.parts ∙ ap (λ (t : Lines). found.0 ∷ t) parts.1, found.2.plain, parts.0)
      | inr none ↦ absurd (no_size (plain_at lines).1 (size, rest) (rw none at e))
    ]

squares_are : (row : ℕ) (index : Option ℕ) (line : List ℕ) (squares : List Square) → squares_in row index line ≡ Ok squares → (index ≡ None) × (map square_of line ≡ squares)
squares_are row None line squares e = (refl, ok_is _ squares e)
squares_are row (Some index) line squares e = absurd cc

row_is : (width row : ℕ) (line : List ℕ) (after rest : Lines) (squares : List Square) → IsPlain line → cells_at width row (Some line) after ≡ Ok (squares, rest) → IsRow width line × (map square_of line ≡ squares) × (after ≡ rest)
row_is width row line after rest squares plain e =
    let right = chosen (eqb (length line) width) (faults.GridLine row) (row_squares row line >>= λ own. Ok (own, after)) (squares, rest) e in
    let own = bind_ok (row_squares row line) (λ own. Ok (own, after)) (squares, rest) right.1 in
    let both = ok_is (own.0, after) (squares, rest) own.2 in
    let good = squares_are row (position is_bad_square line) line own.0 own.1 in (
      record { plain = plain; wide = eqb-true _ _ right.0; good = all_from (λ byte. is_bad_square byte ≡ false) line (position-None is_bad_square line good.0) },
      good.1 ∙ ap (λ (p : List Square × Lines). p.0) both,
      ap (λ (p : List Square × Lines). p.1) both,
    )

no_row : (width row : ℕ) (after : Lines) (r : List Square × Lines) → cells_at width row None after ≡ Ok r → ⊥
no_row width row after r e = cc

pub row_takes : (width row : ℕ) (lines rest : Lines) (squares : List Square) → row_at width row lines ≡ Ok (squares, rest) → (line : List ℕ) × (lines ≡ line ∷ rest) × IsRow width line × (map square_of line ≡ squares)
unfolding row_at
row_takes width row lines rest squares e =
    elim (line_due lines) [
      | inl found ↦
          let parts = row_is width row found.0 (plain_at lines).1 rest squares found.2.plain (rw found.1 at e) in
          (found.0, found.2.parts ∙ ap (λ (t : Lines). found.0 ∷ t) parts.2, parts.0, parts.1)
      | inr none ↦ absurd (no_row width row (plain_at lines).1 (squares, rest) (rw none at e))
    ]

-- `count` rows were read
pub record TakesRows (width count : ℕ) (lines rest : Lines) (squares : List Square) : Type 0 where
  pub rows : Lines
  pub parts : lines ≡ rows ++ rest
  pub are : AllByRecursion (IsRow width) rows
  pub many : length rows ≡ count
  pub meaning : squares ≡ flat_map (map square_of) rows

pub rows_take : (width row count : ℕ) (lines rest : Lines) (squares : List Square) → rows_at width row count lines ≡ Ok (squares, rest) → TakesRows width count lines rest squares
unfolding rows_at
rows_take width row zero lines rest squares e =
    let both = ok_is ([], lines) (squares, rest) e in
    record { rows = []; parts = ap (λ (p : List Square × Lines). p.1) both; are = tt; many = refl; meaning = sym (ap (λ (p : List Square × Lines). p.0) both) }
rows_take width row (suc count) lines rest squares e =
    let first = bind_ok (row_at width row lines) (λ first. rows_at width (row + 1) count first.1 >>= λ others. Ok (first.0 ++ others.0, others.1)) (squares, rest) e in
    let others = bind_ok (rows_at width (row + 1) count first.0.1) (λ others. Ok (first.0.0 ++ others.0, others.1)) (squares, rest) first.2 in
    let both = ok_is (first.0.0 ++ others.0.0, others.0.1) (squares, rest) others.2 in
    let one = row_takes width row lines first.0.1 first.0.0 first.1 in
    let more = rows_take width (row + 1) count first.0.1 others.0.1 others.0.0 others.1 in
    record {
      rows = one.0 ∷ more.rows;
      parts = one.1 ∙ ap (λ (t : Lines). one.0 ∷ t) (more.parts ∙ ap (λ (t : Lines). more.rows ++ t) (ap (λ (p : List Square × Lines). p.1) both));
      are = (one.2, more.are);
      many = ap suc more.many;
      meaning = sym (ap (λ (p : List Square × Lines). p.0) both) ∙ ap (λ (t : List Square). t ++ others.0.0) (sym one.3) ∙ ap (λ (t : List Square). map square_of one.0 ++ t) more.meaning;
    }

line_squares : (line : List ℕ) → AllByRecursion (λ byte. is_bad_square byte ≡ false) line → AllByRecursion IsSquare (map square_of line)
line_squares [] good = tt
line_squares (byte ∷ line) good = (square_good byte good.0, line_squares line good.1)

row_squares_are : (width : ℕ) (rows : Lines) → AllByRecursion (IsRow width) rows → AllByRecursion IsSquare (flat_map (map square_of) rows)
row_squares_are width [] are = tt
row_squares_are width (row ∷ rows) are = all_append IsSquare (map square_of row) (flat_map (map square_of) rows) (line_squares row are.0.good) (row_squares_are width rows are.1)

-- the letters of the rows are A to Z
pub rows_letters : (width row count : ℕ) (lines rest : Lines) (squares : List Square) → rows_at width row count lines ≡ Ok (squares, rest) → All IsSquare squares
rows_letters width row count lines rest squares e =
    let taken = rows_take width row count lines rest squares e in
    all_at IsSquare squares (subst (AllByRecursion IsSquare) (sym taken.meaning) (row_squares_are width taken.rows taken.are))

-- a clue was read for each start
pub record TakesClues (direction : Direction) (starts : List Cell) (clues new : ClueMap) (lines rest : Lines) : Type 0 where
  pub texts : Lines
  pub parts : lines ≡ texts ++ rest
  pub plain : AllByRecursion IsPlain texts
  pub many : length texts ≡ length starts
  pub meaning : new ≡ with_clues direction starts texts clues

no_clue : {A : Type 0} (fault : ReadFault) (x : A) → ◌≡◌ {A = Result A ReadFault} (Err fault) (Ok x) → ⊥
no_clue fault x e = cc

pub clues_take : (fault : ReadFault) (direction : Direction) (starts : List Cell) (clues new : ClueMap) (lines rest : Lines) → clues_at fault direction starts clues lines ≡ Ok (new, rest) → TakesClues direction starts clues new lines rest
clues_take fault direction [] clues new lines rest e =
    elim (line_due lines) [
      | inl found ↦ absurd (no_clue fault (new, rest) (sym (clues_over_is fault direction clues found.0 (plain_at lines).1 found.2.plain) ∙ ap (clues_at fault direction [] clues) (sym found.2.parts) ∙ e))
      | inr none ↦
          let both = ok_is (clues, lines) (new, rest) (sym (clues_done_is fault direction clues lines none) ∙ e) in
          record { texts = []; parts = ap (λ (p : ClueMap × Lines). p.1) both; plain = tt; many = refl; meaning = sym (ap (λ (p : ClueMap × Lines). p.0) both) }
    ]
clues_take fault direction (start ∷ starts) clues new lines rest e =
    elim (line_due lines) [
      | inl found ↦
          let more = clues_take fault direction starts (with_clue clues start direction found.0) new (plain_at lines).1 rest
          (sym (clue_next_is fault direction start starts clues found.0 (plain_at lines).1 found.2.plain) ∙ ap (clues_at fault direction (start ∷ starts) clues) (sym found.2.parts) ∙ e) in
          record {
            texts = found.0 ∷ more.texts;
            parts = found.2.parts ∙ ap (λ (t : Lines). found.0 ∷ t) more.parts;
            plain = (found.2.plain, more.plain);
            many = ap suc more.many;
            meaning = more.meaning;
          }
      | inr none ↦ absurd (no_clue fault (new, rest) (sym (clue_missing_is fault direction start starts clues lines none) ∙ e))
    ]
