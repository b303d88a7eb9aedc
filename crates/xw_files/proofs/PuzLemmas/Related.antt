-- Reading gives a puzzle if and only if the bytes are a file of it.
use Rattle.std.proofs.Common.{◌≡◌, ◌≢◌, ℕ, ◌*◌, Bool, true, false, ◌&&◌, List, [], ◌∷◌, ◌++◌, map, length, nat_eq, refl, sym, ap, ◌∙◌, subst, arith, Ok, Err}
use Rattle.std.specs.Prelude.{Result, Option, Some, None, filter, IfOk, IsOkUnless}
use Rattle.std.proofs.lemmas.List.{length-map}
use Rattle.xw_grid.specs.declared.cell.Cell.{Cell}
use Rattle.xw_grid.specs.declared.cell.Square.{Square}
use Rattle.xw_grid.specs.declared.cell.Symmetry.TheVariants as kinds
use Rattle.xw_grid.specs.Grid.{Grid, cells, is_open}
use Rattle.xw_grid.specs.Edit.{grid_of}
use Rattle.xw_grid.specs.Light.{lights_of}
use Rattle.xw_grid.specs.Clue.{ClueMap, no_clues}
use Rattle.xw_files.specs.declared.fault.ReadFault.{ReadFault}
use Rattle.xw_files.specs.declared.fault.ReadFault.TheVariants as faults
use Rattle.xw_files.specs.declared.fault.SumName.{SumName}
use Rattle.xw_grid.specs.declared.puzzle.Puzzle.{Puzzle}
use Rattle.xw_grid.specs.Puzzle.{PuzzleShown, puzzle_view, clue_of}
use Rattle.xw_files.specs.Part.{circled_cells, part_of}
use Rattle.xw_files.specs.Finished.{has_bar}
use Rattle.xw_files.specs.Steps.{◌>>=◌}
use Rattle.xw_files.specs.Puz.Reading.{Fields, fields_at, part_at}
use Rattle.xw_files.specs.Steps.{GivesOrLacksMemory}
use Rattle.xw_files.specs.Puz.Spelling.{with_nuls, file_bytes, header_bytes}
use Rattle.xw_files.specs.Puz.Sums.{sum_from, sums_of, wrong_sum}
use Rattle.xw_files.specs.Puz.Sections.{Section, AreBytes, AreSections, first_gext, marked_cells, gext_in, with_marks, circles_by}
use Rattle.xw_files.specs.Puz.Board.{square_of, no_wrong, squares_at, grid_at, clues_in, with_clues, puzzle_of, puzzle_at}
use Rattle.xw_files.specs.Puz.Relation.{AreMarked, IsPuz, texts_of}
use Rattle.xw_files.specs.Puz.Laws.{FilesHaveOnePart}
use Rattle.xw_files.proofs.StepLemmas.{ok_is, bind_ok, passed}
use Rattle.xw_files.proofs.PuzLemmas.Files.{fields_at-again}
use Rattle.xw_files.proofs.PuzLemmas.Taken.{fields_at-takes}
use Rattle.xw_files.proofs.PuzLemmas.SumsAndSquares.{right_sums, passing_sums, squares_found, squares-from, same_from, same, part-length, cons-same}
use Rattle.xw_files.proofs.PuzLemmas.Cuts.{bytes-after, one-cut, gext-is, cut-of}
use Rattle.xw_files.proofs.PuzLemmas.CircleLemmas.{marked-read}
use Rattle.xw_files.proofs.PuzLemmas.LightClues.{light-clues-back}
use Rattle.xw_files.proofs.PlainLights.{no_bar_made, plain_lights}

-- ---- the bytes are a file of what is read

pub nothing_wrong : (o : Option SumName) (x : Unit {0}) → no_wrong o ≡ Ok x → o ≡ None
nothing_wrong None x e = refl
nothing_wrong (Some sum) x e = cc

after-text : (text rest : List ℕ) → AreBytes (text ++ 0 ∷ rest) → AreBytes rest
after-text text rest small = bytes-after (0 ∷ []) rest (bytes-after text (0 ∷ rest) small)

after-texts : (texts : List (List ℕ)) (rest : List ℕ) → AreBytes (with_nuls texts rest) → AreBytes rest
after-texts [] rest small = small
after-texts (text ∷ texts) rest small = after-texts texts rest (after-text text (with_nuls texts rest) small)

-- what follows the notes of a file is a list of bytes
pub rest-bytes : (fields : Fields) (reserved : List ℕ) → AreBytes (file_bytes fields reserved) → AreBytes fields.rest
rest-bytes fields reserved small =
    let texts = bytes-after fields.state _ (bytes-after fields.solution _ (bytes-after (header_bytes fields.header reserved) _ small)) in
    let clues = after-text fields.copyright _ (after-text fields.author _ (after-text fields.title _ texts)) in
    after-text fields.notes fields.rest (after-texts fields.clues (fields.notes ++ 0 ∷ fields.rest) clues)

and-never : (b : Bool) → (b && false) ≡ false
and-never true = refl
and-never false = refl

filter-never : (p : Cell → Bool) (xs : List Cell) → ((x : Cell) → p x ≡ false) → filter p xs ≡ []
filter-never p [] never = refl
filter-never p (x ∷ xs) never = rw (never x) (filter-never p xs never)

marked : (puzzle : PuzzleShown) (gext : Option Section) → circles_by puzzle.grid gext ≡ Ok puzzle.circles → AreMarked puzzle gext
marked puzzle None e =
    let none : [] ≡ puzzle.circles = ok_is [] puzzle.circles e in
    subst (λ (cs : List Cell). circled_cells (record puzzle { circles = cs }) ≡ []) none (filter-never _ (cells puzzle.grid) (λ cell. and-never (is_open puzzle.grid cell)))
marked puzzle (Some section) e =
    let long = passed (nat_eq (length section.body) (puzzle.grid.width * puzzle.grid.height)) _ _ puzzle.circles e in
    let summed = passed (nat_eq (sum_from 0 section.body) section.sum) _ _ puzzle.circles long.1 in
    let is = ok_is (with_marks puzzle.grid [] 0 section.body) puzzle.circles summed.1 in (
      same_from _ _ long.0,
      sym (same_from _ _ summed.0),
      subst (λ (cs : List Cell). circled_cells (record puzzle { circles = cs }) ≡ marked_cells puzzle.grid section.body) is (marked-read puzzle.grid section.body),
    )

pub found : (bytes : List ℕ) (puzzle : PuzzleShown) → AreBytes bytes → puzzle_at bytes ≡ Ok puzzle → IsPuz bytes puzzle
found bytes puzzle small e =
    let read = bind_ok (fields_at bytes) puzzle_of puzzle e in
    let fields = read.0 in
    let taken = fields_at-takes bytes fields small read.1 in
    let sums = bind_ok (no_wrong (wrong_sum fields.header (sums_of fields))) _ puzzle read.2 in
    let grid = bind_ok (grid_at fields) _ puzzle sums.2 in
    let squares = bind_ok (squares_at fields.header.width 0 fields.solution) _ grid.0 grid.1 in
    let grid_is = ok_is (grid_of fields.header.width fields.header.height squares.0) grid.0 squares.2 in
    let clues = bind_ok (clues_in (lights_of grid.0) fields) _ puzzle grid.2 in
    let counted = passed (nat_eq fields.header.clue_count (length (lights_of grid.0))) (Ok (with_clues no_clues (lights_of grid.0) fields.clues)) _ clues.0 clues.1 in
    let count = taken.fits.clue_count ∙ same_from fields.header.clue_count (length (lights_of grid.0)) counted.0 in
    let circles = bind_ok (circles_by grid.0 (gext_in fields.rest)) _ puzzle clues.2 in
    let rest = rest-bytes fields (part_at 28 16 bytes) (subst AreBytes taken.spelled small) in
    let cut = cut-of fields.rest rest in
    let is : PuzzleShown = record { grid = grid.0; texts = texts_of fields; clues = clues.0; circles = circles.0 } in
    subst (IsPuz bytes) {x = is} (ok_is is puzzle circles.2) (record {
      fields = fields;
      reserved = part_at 28 16 bytes;
      sections = cut.sections;
      tail = cut.tail;
      reserved_long = part-length bytes 28 16 (omega (arith, taken.long));
      fits = taken.fits;
      cut = taken.spelled;
      cut_rest = cut.are;
      sums = passing_sums fields.header (sums_of fields) taken.fits.header.masked (nothing_wrong _ sums.0 sums.1);
      width = sym (ap (λ (g : Grid). g.width) grid_is);
      height = sym (ap (λ (g : Grid). g.height) grid_is);
      no_bar = subst (λ (g : Grid). has_bar g ≡ false) grid_is (no_bar_made fields.header.width fields.header.height squares.0);
      squares = squares_found fields.header.width 0 fields.solution squares.0 squares.1 ∙ ap (λ (g : Grid). map (λ square. Some square) g.squares) grid_is;
      texts = refl;
      clues = subst (λ (cs : ClueMap). map (clue_of cs) (lights_of grid.0) ≡ fields.clues) (ok_is _ clues.0 counted.1) (light-clues-back grid.0 no_clues fields.clues count);
      circles = marked is (first_gext cut.sections) (ap (circles_by grid.0) (sym (gext-is fields.rest cut.tail cut.sections rest cut.are)) ∙ circles.1);
    })

-- ---- a file of a puzzle is read

circles-read : (puzzle : PuzzleShown) (grid : Grid) (gext : Option Section) → puzzle.grid.width ≡ grid.width → puzzle.grid.height ≡ grid.height → AreMarked puzzle gext → (circles : List Cell) × (circles_by grid gext ≡ Ok circles)
circles-read puzzle grid None w h are = ([], refl)
circles-read puzzle grid (Some section) w h are =
    let long : nat_eq (length section.body) (grid.width * grid.height) ≡ true = rw (are.0, w, h) (same (grid.width * grid.height)) in
    let summed : nat_eq (sum_from 0 section.body) section.sum ≡ true = rw are.1 (same (sum_from 0 section.body)) in
    (with_marks grid [] 0 section.body, rw (long, summed) refl)

puzzle-read : (fields : Fields) (grid : Grid) (clues : ClueMap) (circles : List Cell) → wrong_sum fields.header (sums_of fields) ≡ None → grid_at fields ≡ Ok grid → clues_in (lights_of grid) fields ≡ Ok clues → circles_by grid (gext_in fields.rest) ≡ Ok circles
    → puzzle_of fields ≡ Ok (record { grid = grid; texts = texts_of fields; clues = clues; circles = circles })
puzzle-read fields grid clues circles sums g k c = rw (sums, g, k, c) refl

clues-read : (fields : Fields) (grid : Grid) → fields.header.clue_count ≡ length (lights_of grid) → clues_in (lights_of grid) fields ≡ Ok (with_clues no_clues (lights_of grid) fields.clues)
clues-read fields grid count =
    let test : nat_eq fields.header.clue_count (length (lights_of grid)) ≡ true = rw count (same (length (lights_of grid))) in
    rw test refl

pub readable : (bytes : List ℕ) (puzzle : PuzzleShown) → AreBytes bytes → IsPuz bytes puzzle → (read : PuzzleShown) × (puzzle_at bytes ≡ Ok read)
readable bytes puzzle small is =
    let fields = is.fields in
    let grid : Grid = grid_of fields.header.width fields.header.height puzzle.grid.squares in
    let read : fields_at bytes ≡ Ok fields = ap fields_at is.cut ∙ fields_at-again fields is.reserved is.fits is.reserved_long in
    let squares = squares-from fields.header.width 0 fields.solution puzzle.grid.squares is.squares in
    let made : grid_at fields ≡ Ok grid = ap (λ r. r >>= λ squares. Ok (grid_of fields.header.width fields.header.height squares)) squares in
    let lights : lights_of puzzle.grid ≡ lights_of grid = plain_lights puzzle.grid is.no_bar ∙ ap (λ w. lights_of (grid_of w puzzle.grid.height puzzle.grid.squares)) is.width ∙ ap (λ h. lights_of (grid_of fields.header.width h puzzle.grid.squares)) is.height in
    let count : fields.header.clue_count ≡ length (lights_of grid) = sym is.fits.clue_count ∙ ap length (sym is.clues) ∙ length-map (lights_of puzzle.grid) (clue_of puzzle.clues) ∙ ap length lights in
    let rest = rest-bytes fields is.reserved (subst AreBytes is.cut small) in
    let circles = circles-read puzzle grid (first_gext is.sections) is.width is.height is.circles in
    let marks : circles_by grid (gext_in fields.rest) ≡ Ok circles.0 = ap (circles_by grid) (gext-is fields.rest is.tail is.sections rest is.cut_rest) ∙ circles.1 in
    (_, ap (λ r. r >>= puzzle_of) read ∙ puzzle-read fields grid _ circles.0 (right_sums fields.header (sums_of fields) is.sums) made (clues-read fields grid count) marks)

-- ---- one file part

pub some-same : (xs ys : List Square) → map (λ square. Some square) xs ≡ map (λ square. Some square) ys → xs ≡ ys
some-same [] [] e = refl
some-same [] (y ∷ ys) e = absurd (let n : 0 ≡ length (map (λ s. Some s) (y ∷ ys)) = ap length e in omega arith)
some-same (x ∷ xs) [] e = absurd (let n : length (map (λ s. Some s) (x ∷ xs)) ≡ 0 = ap length e in omega arith)
some-same (x ∷ xs) (y ∷ ys) e =
    let both = cons-same (Some x) (Some y) (map (λ s. Some s) xs) (map (λ s. Some s) ys) e in
    let head : x ≡ y = (let h = both.0 in cc) in
    rw (head, some-same xs ys both.1) refl

marks-same : (w h v g : ℕ) (xs ys : List Square) (body : List ℕ) → w ≡ v → h ≡ g → xs ≡ ys → marked_cells (grid_of w h xs) body ≡ marked_cells (grid_of v g ys) body
marks-same w h v g xs ys body pw ph ps = rw (pw, ph, ps) refl

circled-same : (puzzle other : PuzzleShown) (gext : Option Section) → puzzle.grid.width ≡ other.grid.width → puzzle.grid.height ≡ other.grid.height → puzzle.grid.squares ≡ other.grid.squares → AreMarked puzzle gext → AreMarked other gext → circled_cells puzzle ≡ circled_cells other
circled-same puzzle other None w h s are also = are ∙ sym also
circled-same puzzle other (Some section) w h s are also =
    are.2 ∙ marks-same puzzle.grid.width puzzle.grid.height other.grid.width other.grid.height puzzle.grid.squares other.grid.squares section.body w h s ∙ sym also.2

pub one_part : FilesHaveOnePart
one_part bytes puzzle other is also =
    let read : fields_at bytes ≡ Ok is.fields = ap fields_at is.cut ∙ fields_at-again is.fields is.reserved is.fits is.reserved_long in
    let read_also : fields_at bytes ≡ Ok also.fields = ap fields_at also.cut ∙ fields_at-again also.fields also.reserved also.fits also.reserved_long in
    let one : is.fields ≡ also.fields = ok_is is.fields also.fields (sym read ∙ read_also) in
    let width = is.width ∙ ap (λ (f : Fields). f.header.width) one ∙ sym also.width in
    let height = is.height ∙ ap (λ (f : Fields). f.header.height) one ∙ sym also.height in
    let squares = some-same puzzle.grid.squares other.grid.squares (sym is.squares ∙ ap (λ (f : Fields). map square_of f.solution) one ∙ also.squares) in
    let texts = is.texts ∙ ap texts_of one ∙ sym also.texts in
    let clues = is.clues ∙ ap (λ (f : Fields). f.clues) one ∙ sym also.clues in
    let cuts = one-cut also.fields.rest is.sections also.sections is.tail also.tail (subst (λ (f : Fields). AreSections f.rest is.sections is.tail) one is.cut_rest) also.cut_rest in
    let circles : AreMarked puzzle (first_gext also.sections) = subst (λ ss. AreMarked puzzle (first_gext ss)) cuts.0 is.circles in
    let circled = circled-same puzzle other (first_gext also.sections) width height squares circles also.circles in
    λ i. record { width = width i; height = height i; squares = squares i; texts = texts i; clues = clues i; circled = circled i }

-- ---- the same for the result of a reader

pub memory-alone : (fault : ReadFault) → (fault ≢ faults.Memory → ⊥) → fault ≡ faults.Memory
memory-alone (faults.Short piece) h = absurd (h (λ e. cc))
memory-alone faults.Magic h = absurd (h (λ e. cc))
memory-alone faults.Version h = absurd (h (λ e. cc))
memory-alone faults.Scrambled h = absurd (h (λ e. cc))
memory-alone faults.Size h = absurd (h (λ e. cc))
memory-alone (faults.NoNul text) h = absurd (h (λ e. cc))
memory-alone (faults.BadSum sum) h = absurd (h (λ e. cc))
memory-alone (faults.BadCell cell) h = absurd (h (λ e. cc))
memory-alone faults.ClueCount h = absurd (h (λ e. cc))
memory-alone faults.Memory h = refl
memory-alone faults.Header h = absurd (h (λ e. cc))
memory-alone (faults.Tag tag) h = absurd (h (λ e. cc))
memory-alone faults.SizeLine h = absurd (h (λ e. cc))
memory-alone (faults.GridLine row) h = absurd (h (λ e. cc))
memory-alone faults.AcrossCount h = absurd (h (λ e. cc))
memory-alone faults.DownCount h = absurd (h (λ e. cc))
memory-alone (faults.NulByte offset) h = absurd (h (λ e. cc))
memory-alone faults.GextSize h = absurd (h (λ e. cc))
memory-alone faults.GextSum h = absurd (h (λ e. cc))

-- the puzzle that is read has no symmetry
unturned : (bytes : List ℕ) (puzzle : PuzzleShown) → puzzle_at bytes ≡ Ok puzzle → puzzle.grid.symmetry ≡ kinds.None
unturned bytes puzzle e =
    let read = bind_ok (fields_at bytes) puzzle_of puzzle e in
    let fields = read.0 in
    let sums = bind_ok (no_wrong (wrong_sum fields.header (sums_of fields))) _ puzzle read.2 in
    let grid = bind_ok (grid_at fields) _ puzzle sums.2 in
    let squares = bind_ok (squares_at fields.header.width 0 fields.solution) _ grid.0 grid.1 in
    let grid_is = ok_is (grid_of fields.header.width fields.header.height squares.0) grid.0 squares.2 in
    let clues = bind_ok (clues_in (lights_of grid.0) fields) _ puzzle grid.2 in
    let circles = bind_ok (circles_by grid.0 (gext_in fields.rest)) _ puzzle clues.2 in
    let is : PuzzleShown = record { grid = grid.0; texts = texts_of fields; clues = clues.0; circles = circles.0 } in
    sym (ap (λ (g : Grid). g.symmetry) grid_is ∙ ap (λ (p : PuzzleShown). p.grid.symmetry) (ok_is is puzzle circles.2))

pub gives-unturned : (bytes : List ℕ) (result : Result Puzzle ReadFault) → GivesOrLacksMemory puzzle_view result (puzzle_at bytes) → IfOk result (λ puzzle. puzzle.grid.symmetry ≡ kinds.None)
gives-unturned bytes (Ok puzzle) e = unturned bytes (puzzle_view puzzle) e
gives-unturned bytes (Err fault) e = tt

pub gives-found : (bytes : List ℕ) (result : Result Puzzle ReadFault) → AreBytes bytes → GivesOrLacksMemory puzzle_view result (puzzle_at bytes) → IfOk result (λ puzzle. IsPuz bytes (puzzle_view puzzle))
gives-found bytes (Ok puzzle) small e = found bytes (puzzle_view puzzle) small e
gives-found bytes (Err fault) small e = tt

pub gives-part : (bytes : List ℕ) (result : Result Puzzle ReadFault) (puzzle : PuzzleShown) → AreBytes bytes → GivesOrLacksMemory puzzle_view result (puzzle_at bytes) → IsPuz bytes puzzle → IfOk result (λ read. part_of (puzzle_view read) ≡ part_of puzzle) × IsOkUnless result faults.Memory
gives-part bytes (Ok read) puzzle small e is = (one_part bytes (puzzle_view read) puzzle (found bytes (puzzle_view read) small e) is, tt)
gives-part bytes (Err fault) puzzle small e is =
    let read = readable bytes puzzle small is in
    (tt, memory-alone fault (λ other. (let bad = sym read.1 ∙ e other in cc)))
