-- The first cell whose byte is not a square, and the number of clues.
use Rattle.std.proofs.Common.{◌≡◌, ◌≢◌, ℕ, zero, suc, ◌+◌, ◌*◌, ◌/◌, ◌<◌, ◌≤◌, List, [], ◌∷◌, map, take, drop, length, get_or, nat_lt, refl, sym, ap, ◌∙◌, subst, arith, inl, inr, Ok, Err}
use Rattle.std.specs.Prelude.{Option, Some, None}
use Rattle.std.proofs.lemmas.Bool.{cases_lt}
use Rattle.std.proofs.Math.Nat.{div-mul-le_self}
use Rattle.std.proofs.lemmas.Nat.{le-div, div-add-mod'}
use Rattle.xw_grid.specs.declared.cell.Cell.{Cell}
use Rattle.xw_grid.specs.declared.cell.Square.{Square}
use Rattle.xw_grid.specs.Grid.{Grid, cell_in}
use Rattle.xw_grid.specs.Edit.{grid_of}
use Rattle.xw_grid.specs.Light.{lights_of}
use Rattle.xw_files.specs.declared.puz.header.Header.{Header}
use Rattle.xw_files.specs.declared.fault.ReadFault.{ReadFault}
use Rattle.xw_files.specs.declared.fault.ReadFault.TheVariants.{BadCell, ClueCount}
use Rattle.xw_files.specs.Puz.Reading.{Fields, cell_count, part_at, header_at, fields_at}
use Rattle.xw_files.specs.Puz.Sections.{AreBytes}
use Rattle.xw_files.specs.Puz.Board.{square_of, square_or_fault, squares_at, grid_at}
use Rattle.xw_files.specs.Puz.Faults.{width_in, height_in, cells_in, clue_count_in, solution_in, AreFields, IsLess, IsFirstFault}
use Rattle.xw_files.proofs.StepLemmas.{bind_ok, ok_is, avoided}
use Rattle.xw_files.proofs.PuzLemmas.BoardLemmas.{square-found}
use Rattle.xw_files.proofs.PuzLemmas.Related.{some-same}
use Rattle.xw_files.proofs.PuzLemmas.Taken.{fields_at-takes, texts_at-takes}
use Rattle.xw_files.proofs.PuzLemmas.SumsAndSquares.{squares_found, cons-same, part-length}
use Rattle.xw_files.proofs.PuzLemmas.Ranks.{err_is, bind_err, Clear, Never, NotSooner, NoSooner, more, only_9, only_10, first_among, first_alone}
use Rattle.xw_files.proofs.PuzLemmas.TextFaults.{told}

-- ---- fields by offsets

pub record Fielded (bytes : List ℕ) (fields : Fields) : Type 0 where
  pub are : AreFields bytes fields
  pub width : fields.header.width ≡ width_in bytes
  pub height : fields.header.height ≡ height_in bytes
  pub clue_count : fields.header.clue_count ≡ clue_count_in bytes
  pub solution : fields.solution ≡ solution_in bytes
  pub cells : length (solution_in bytes) ≡ cells_in bytes

pub fielded : (bytes : List ℕ) (fields : Fields) → AreBytes bytes → fields_at bytes ≡ Ok fields → Fielded bytes fields
fielded bytes fields small e =
    let taken = fields_at-takes bytes fields small e in
    let head = bind_ok (header_at bytes) _ fields e in
    let long = avoided (nat_lt (length bytes) (52 + 2 * cell_count head.0)) _ _ fields head.2 in
    let cells = cell_count head.0 in
    let body = drop 52 bytes in
    let texts = texts_at-takes head.0 (take cells body) (take cells (drop cells body)) (drop cells (drop cells body)) fields long.1 in
    let says = told bytes head.0 head.1 in
    let solution : fields.solution ≡ solution_in bytes = texts.solution ∙ ap (λ n. take n (drop 52 bytes)) says.cells in
    record {
      are = record { reserved = part_at 28 16 bytes; reserved_long = part-length bytes 28 16 (let h = taken.long in omega (arith, h)); fits = taken.fits; cut = taken.spelled };
      width = ap (λ (h : Header). h.width) texts.header ∙ says.width;
      height = ap (λ (h : Header). h.height) texts.header ∙ says.height;
      clue_count = ap (λ (h : Header). h.clue_count) texts.header ∙ says.clue_count;
      solution = solution;
      cells = ap length (sym solution) ∙ taken.fits.solution ∙ ap cell_count texts.header ∙ says.cells;
    }

-- ---- cells

-- an index whose cell comes earlier in reading order comes earlier
index_less : (width p q : ℕ) → 0 < width → IsLess ((cell_in width p).row, (cell_in width p).col) ((cell_in width q).row, (cell_in width q).col) → p < q
index_less width p q wide less = elim (cases_lt p q) [
  | inl before ↦ before
  | inr after ↦
      let down : q / width * width ≤ q = div-mul-le_self q width in
      let rows : q / width ≤ p / width = le-div (q / width) p width wide (omega (arith, down, after)) in
      elim less [
        | inl row ↦ absurd (omega (arith, rows, row))
        | inr col ↦
            let first = div-add-mod' p width in
            let second = div-add-mod' q width in
            let same : p / width ≡ q / width = (let h = col.0 in omega (arith, h)) in
            let both : p / width * width ≡ q / width * width = ap (λ n. n * width) same in
            omega (arith, first, second, both, col.1)
      ]
]

-- the first byte that is not a square, j bytes after the first
record BadAt (width index : ℕ) (bytes : List ℕ) (fault : ReadFault) : Type 0 where
  j : ℕ
  is : BadCell (cell_in width (index + j)) ≡ fault
  inside : j < length bytes
  nothing : square_of (get_or bytes j 0) ≡ None
  before : (i : ℕ) → i < j → square_of (get_or bytes i 0) ≡ None → ⊥

square-lost : (width index : ℕ) (read : Option Square) (fault : ReadFault) → square_or_fault width index read ≡ Err fault → (read ≡ None) × (BadCell (cell_in width index) ≡ fault)
square-lost width index (Some square) fault e = cc
square-lost width index None fault e = (refl, err_is (BadCell (cell_in width index)) fault e)

some-before : (byte : ℕ) (bytes : List ℕ) (square : Square) (j : ℕ) → square_of byte ≡ Some square → ((i : ℕ) → i < j → square_of (get_or bytes i 0) ≡ None → ⊥) → (i : ℕ) → i < suc j → square_of (get_or (byte ∷ bytes) i 0) ≡ None → ⊥
some-before byte bytes square j e before zero h none = let bad = sym e ∙ none in cc
some-before byte bytes square j e before (suc i) h none = before i (omega (arith, h)) none

squares_stop : (width index : ℕ) (bytes : List ℕ) (fault : ReadFault) → squares_at width index bytes ≡ Err fault → BadAt width index bytes fault
squares_stop width index [] fault e = cc
squares_stop width index (byte ∷ bytes) fault e = elim (bind_err (square_or_fault width index (square_of byte)) _ fault e) [
  | inl here ↦
      let lost = square-lost width index (square_of byte) fault here in
      record {
        j = 0;
        is = (let plus : index + 0 ≡ index = omega arith in ap (λ n. BadCell (cell_in width n)) plus ∙ lost.1);
        inside = omega arith;
        nothing = lost.0;
        before = λ i h none. absurd (omega (arith, h));
      }
  | inr square ↦ elim (bind_err (squares_at width (index + 1) bytes) _ fault square.2) [
    | inl there ↦
        let rest = squares_stop width (index + 1) bytes fault there in
        record {
          j = suc rest.j;
          is = (let plus : index + suc rest.j ≡ index + 1 + rest.j = omega arith in ap (λ n. BadCell (cell_in width n)) plus ∙ rest.is);
          inside = (let h = rest.inside in omega (arith, h));
          nothing = rest.nothing;
          before = some-before byte bytes square.0 rest.j (square-found width index (square_of byte) square.0 square.1) rest.before;
        }
    | inr all ↦ cc
  ]
]

no_sooner : (bytes : List ℕ) (j : ℕ) → 0 < width_in bytes → ((i : ℕ) → i < j → square_of (get_or (solution_in bytes) i 0) ≡ None → ⊥) → NoSooner bytes (BadCell (cell_in (width_in bytes) j))
no_sooner bytes j wide before =
    let Less : Cell → Type 0 = λ c. IsLess (c.row, c.col) ((cell_in (width_in bytes) j).row, (cell_in (width_in bytes) j).col) in
    only_9 (NotSooner bytes (BadCell (cell_in (width_in bytes) j))) (λ cell less has. before has.0 (index_less (width_in bytes) has.0 j wide (subst Less has.2 less)) has.3)

pub cell_first : (bytes : List ℕ) (fields : Fields) (fault : ReadFault) → Fielded bytes fields → Clear bytes 9 → grid_at fields ≡ Err fault → IsFirstFault bytes fault
cell_first bytes fields fault says clear e = elim (bind_err (squares_at fields.header.width 0 fields.solution) _ fault e) [
  | inl stop ↦
      let Stops : ℕ → List ℕ → Type 0 = λ w xs. BadAt w 0 xs fault in
      let bad = subst (Stops (width_in bytes)) says.solution (subst (λ w. Stops w fields.solution) says.width (squares_stop fields.header.width 0 fields.solution fault stop)) in
      let from_0 : 0 + bad.j ≡ bad.j = omega arith in
      let is : BadCell (cell_in (width_in bytes) bad.j) ≡ fault = ap (λ n. BadCell (cell_in (width_in bytes) n)) (sym from_0) ∙ bad.is in
      let wide : 0 < width_in bytes = subst (λ n. 0 < n) says.width says.are.fits.header.width in
      let inside : bad.j < cells_in bytes = subst (λ n. bad.j < n) says.cells bad.inside in
      subst (IsFirstFault bytes) is (first_among bytes (BadCell (cell_in (width_in bytes) bad.j)) (bad.j, inside, refl, bad.nothing) clear (no_sooner bytes bad.j wide bad.before))
  | inr squares ↦ cc
]

-- if squares are read from bytes, each byte is a square
each-stands : (bytes : List ℕ) (squares : List Square) (i : ℕ) → map square_of bytes ≡ map (λ square. Some square) squares → i < length bytes → square_of (get_or bytes i 0) ≡ None → ⊥
each-stands [] squares i e h none = absurd (omega (arith, h))
each-stands (byte ∷ bytes) [] i e h none = absurd (let n : suc (length (map square_of bytes)) ≡ 0 = ap length e in omega (arith, n))
each-stands (byte ∷ bytes) (square ∷ squares) zero e h none =
    let both = cons-same (square_of byte) (Some square) (map square_of bytes) (map (λ s. Some s) squares) e in
    let bad = sym both.0 ∙ none in cc
each-stands (byte ∷ bytes) (square ∷ squares) (suc i) e h none =
    let both = cons-same (square_of byte) (Some square) (map square_of bytes) (map (λ s. Some s) squares) e in
    each-stands bytes squares i both.1 (omega (arith, h)) none

-- a grid that is read
pub record Gridded (bytes : List ℕ) (grid : Grid) : Type 0 where
  pub squares : List Square
  pub stand : map square_of (solution_in bytes) ≡ map (λ square. Some square) squares
  pub is : grid ≡ grid_of (width_in bytes) (height_in bytes) squares

made-same : (w v h g : ℕ) (squares : List Square) → w ≡ v → h ≡ g → grid_of w h squares ≡ grid_of v g squares
made-same w v h g squares pw ph = rw (pw, ph) refl

pub gridded : (bytes : List ℕ) (fields : Fields) (grid : Grid) → Fielded bytes fields → grid_at fields ≡ Ok grid → Gridded bytes grid
gridded bytes fields grid says e =
    let squares = bind_ok (squares_at fields.header.width 0 fields.solution) _ grid e in
    record {
      squares = squares.0;
      stand = ap (map square_of) (sym says.solution) ∙ squares_found fields.header.width 0 fields.solution squares.0 squares.1;
      is = sym (ok_is (grid_of fields.header.width fields.header.height squares.0) grid squares.2) ∙ made-same _ _ _ _ squares.0 says.width says.height;
    }

pub cells_clear : (bytes : List ℕ) (fields : Fields) (grid : Grid) → Fielded bytes fields → Gridded bytes grid → Clear bytes 9 → Clear bytes 10
cells_clear bytes fields grid says made clear =
    more bytes 9 clear (only_9 (Never bytes) (λ cell has. each-stands (solution_in bytes) made.squares has.0 made.stand (subst (λ n. has.0 < n) (sym says.cells) has.1) has.3))

-- ---- clues

pub count_first : (bytes : List ℕ) (grid : Grid) → Gridded bytes grid → Clear bytes 10 → clue_count_in bytes ≢ length (lights_of grid) → IsFirstFault bytes ClueCount
count_first bytes grid made clear other =
    first_alone bytes ClueCount refl (made.squares, made.stand, (λ e. other (e ∙ ap (λ (g : Grid). length (lights_of g)) (sym made.is)))) clear

pub count_clear : (bytes : List ℕ) (grid : Grid) → Gridded bytes grid → Clear bytes 10 → clue_count_in bytes ≡ length (lights_of grid) → Clear bytes 11
count_clear bytes grid made clear same =
    let Counts : List Square → Type 0 = λ squares. clue_count_in bytes ≡ length (lights_of (grid_of (width_in bytes) (height_in bytes) squares)) in
    let here : Counts made.squares = same ∙ ap (λ (g : Grid). length (lights_of g)) made.is in
    more bytes 10 clear (only_10 (Never bytes) (λ has. has.2 (subst Counts (some-same made.squares has.0 (sym made.stand ∙ has.1)) here)))
