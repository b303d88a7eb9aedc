-- Written rows and sizes are valid lines.
use Rattle.std.proofs.Common.{◌≡◌, ℕ, zero, suc, ◌-◌, ◌*◌, ◌<◌, ◌≤◌, false, eqb, List, [], ◌∷◌, ◌++◌, length, Some, None, map, get_or, take, drop, refl, sym, ap, subst, ◌∙◌, length-drop, take-append-drop, arith}
use Rattle.std.specs.List.{flat_map, All, AllByRecursion}
use Rattle.std.proofs.lemmas.Bool.{ne_eqb, le-leb, lt-leb}
use Rattle.std.proofs.lemmas.List.{length-take, length-map, nil_from_length}
use Rattle.xw_grid.specs.declared.cell.Square.{Square}
use Rattle.xw_grid.specs.Grid.{IsSquare}
use Rattle.xw_grid.specs.declared.cell.Square.TheVariants.{Block, Open}
use Rattle.xw_files.specs.Text.Lines.{is_blank}
use Rattle.xw_files.specs.Text.Tag.{is_tag_line}
use Rattle.xw_files.specs.Text.Shape.{Lines, is_bad_square, square_of}
use Rattle.xw_files.specs.Finished.{square_byte}
use Rattle.xw_files.specs.Text.Written.{is_line_end, line, row_texts}
use Rattle.xw_files.specs.Text.Relation.{IsRow}
use Rattle.xw_files.proofs.TextLemmas.Cuts.{NoEnds, IsSpelled, Shows, shows_then, line_shows, shown_text}
use Rattle.xw_files.proofs.TextLemmas.Alls.{all_from}

-- the byte may occur anywhere in a line
abbrev pub IsFine : ℕ → Type 0
IsFine byte = (is_line_end byte ≡ false) × ((is_blank byte ≡ false) × (eqb byte 60 ≡ false))

pub fine_ends : (text : List ℕ) → AllByRecursion IsFine text → NoEnds text
fine_ends [] all = tt
fine_ends (byte ∷ text) all = (all.0.0, fine_ends text all.1)

pub fine_blank : (text : List ℕ) (k : ℕ) → AllByRecursion IsFine text → is_blank (get_or text k 0) ≡ false
fine_blank [] k all = refl
fine_blank (byte ∷ text) zero all = all.0.1.0
fine_blank (byte ∷ text) (suc k) all = fine_blank text k all.1

pub fine_plain : (text : List ℕ) → AllByRecursion IsFine text → is_tag_line text ≡ false
fine_plain [] all = refl
fine_plain (byte ∷ text) all = all.0.1.1

pub fine_text : (text : List ℕ) → AllByRecursion IsFine text → IsSpelled text
fine_text text all = record { ends = fine_ends text all; front = fine_blank text 0 all; back = fine_blank text (length text - 1) all; plain = fine_plain text all }

-- ---- squares

-- the letters of the squares are A to Z
abbrev pub AreLetters : List Square → Type 0
AreLetters squares = AllByRecursion IsSquare squares

pub are_letters : (squares : List Square) → All IsSquare squares → AreLetters squares
are_letters squares all = all_from IsSquare squares all

pub record IsSquareByte (square : Square) : Type 0 where
  pub fine : IsFine (square_byte square)
  pub good : is_bad_square (square_byte square) ≡ false
  pub back : square_of (square_byte square) ≡ square

pub square_stands : (square : Square) → IsSquare square → IsSquareByte square
square_stands Block stood = record { fine = (refl, (refl, refl)); good = refl; back = refl }
square_stands (Open None) stood = record { fine = (refl, (refl, refl)); good = refl; back = refl }
square_stands (Open (Some letter)) stood =
    let apart : (n : ℕ) → n < 65 → eqb letter n ≡ false = λ n lt. ne_eqb letter n (λ e. omega (arith, stood.0)) in
    record {
      fine = (rw (apart 0 (omega arith), apart 10 (omega arith), apart 13 (omega arith)) refl, (rw (apart 32 (omega arith), apart 9 (omega arith)) refl, apart 60 (omega arith)));
      good = rw (le-leb 65 letter stood.0, le-leb letter 90 stood.1) refl;
      back = rw (apart 46 (omega arith), apart 45 (omega arith), lt-leb 97 letter (omega (arith, stood.1))) refl;
    }

letters_take : (n : ℕ) (squares : List Square) → AreLetters squares → AreLetters (take n squares)
letters_take zero squares all = tt
letters_take (suc n) [] all = tt
letters_take (suc n) (square ∷ squares) all = (all.0, letters_take n squares all.1)

letters_drop : (n : ℕ) (squares : List Square) → AreLetters squares → AreLetters (drop n squares)
letters_drop zero squares all = all
letters_drop (suc n) [] all = tt
letters_drop (suc n) (square ∷ squares) all = letters_drop n squares all.1

row_fine : (row : List Square) → AreLetters row → AllByRecursion IsFine (map square_byte row)
row_fine [] all = tt
row_fine (square ∷ row) all = ((square_stands square all.0).fine, row_fine row all.1)

row_good : (row : List Square) → AreLetters row → AllByRecursion (λ byte. is_bad_square byte ≡ false) (map square_byte row)
row_good [] all = tt
row_good (square ∷ row) all = ((square_stands square all.0).good, row_good row all.1)

row_back : (row : List Square) → AreLetters row → map square_of (map square_byte row) ≡ row
row_back [] all = refl
row_back (square ∷ row) all = rw ((square_stands square all.0).back, row_back row all.1) refl

row_shown : (row : List Square) → 0 < length row → shown_text (map square_byte row) ≡ map square_byte row ∷ []
row_shown [] some = absurd (omega arith)
row_shown (square ∷ row) some = refl

-- the rows of squares are lines, and are read as these squares
pub record AreRows (width count : ℕ) (squares : List Square) : Type 0 where
  pub shown : Shows (flat_map line (row_texts width count squares)) (row_texts width count squares)
  pub rows : AllByRecursion (IsRow width) (row_texts width count squares)
  pub many : length (row_texts width count squares) ≡ count
  pub back : flat_map (map square_of) (row_texts width count squares) ≡ squares

pub rows_are : (width count : ℕ) (squares : List Square) → 1 ≤ width → length squares ≡ width * count → AreLetters squares → AreRows width count squares
unfolding row_texts
rows_are width zero squares wide size letters = record {
  shown = record { shows = λ rest. refl; clean = tt };
  rows = tt;
  many = refl;
  back = sym (nil_from_length squares (omega (arith, size)));
}
rows_are width (suc count) squares wide size letters =
    let row = take width squares in
    let after = drop width squares in
    let row_size : length row ≡ width = omega (arith, length-take width squares, size) in
    let rest = rows_are width count after wide (omega (arith, length-drop width squares, size)) (letters_drop width squares letters) in
    let own = letters_take width squares letters in
    let spelled = fine_text (map square_byte row) (row_fine row own) in
    record {
      shown = subst (λ (t : Lines). Shows (line (map square_byte row) ++ flat_map line (row_texts width count after)) (t ++ row_texts width count after)) (row_shown row (omega (arith, row_size)))
          (shows_then (line (map square_byte row)) (flat_map line (row_texts width count after)) (shown_text (map square_byte row)) (row_texts width count after) (line_shows (map square_byte row) spelled) rest.shown);
      rows = (record { plain = spelled.plain; wide = length-map row square_byte ∙ row_size; good = row_good row own }, rest.rows);
      many = ap suc rest.many;
      back = rw (row_back row own, rest.back) (take-append-drop width squares);
    }
