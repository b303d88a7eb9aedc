-- Steps of the loops that write a text.
use Rattle.std.proofs.Common.{◌≡◌, ℕ, suc, ◌+◌, ◌-◌, ◌*◌, ◌<◌, ◌≤◌, true, false, List, [], ◌∷◌, ◌++◌, length, Some, None, map, take, drop, refl, sym, ap, ◌∙◌, append_assoc, length-drop, ltb, arith}
use Rattle.std.specs.Prelude.{position, OnOk, Result, Ok, Err}
use Rattle.std.specs.List.{flat_map, position_or_len}
use Rattle.std.proofs.lemmas.List.{append-nil, take_all}
use Rattle.std.proofs.lemmas.List.Splits.{slice_split_first, slice_split_none}
use Rattle.std.proofs.lemmas.Bool.{ltb-true}
use Rattle.std.proofs.lemmas.Option.{cond_some}
use Rattle.xw_text.proofs.Position.{position-None}
use Rattle.xw_grid.specs.declared.cell.Cell.{Cell}
use Rattle.xw_grid.specs.declared.cell.Direction.{Direction}
use Rattle.xw_grid.specs.Grid.{Grid, cell_at}
use Rattle.xw_grid.specs.Light.{begins}
use Rattle.xw_grid.specs.Clue.{ClueMap, clue_at}
use Rattle.xw_files.proofs.TextLemmas.Clues.{starts_after, start_here, no_start, no_more_starts}
use Rattle.xw_grid.specs.declared.cell.Square.{Square}
use Rattle.xw_files.specs.Finished.{square_byte}
use Rattle.xw_text.specs.Lines.{is_line_feed}
use Rattle.xw_files.specs.Text.Written.{line, row_texts, pieces}

-- the clues at these starts, as lines
abbrev pub clues_after : ClueMap → Direction → List Cell → List ℕ
clues_after clues direction starts = flat_map line (map (λ start. clue_at clues start direction) starts)

-- the rows that are left to write
pub record RowsLeft (width height above : ℕ) (front : List ℕ) (squares : List Square) (out : List ℕ) (rest : List Square) : Type 0 where
  pub size : length rest ≡ width * (height - above)
  pub text : out ++ flat_map line (row_texts width (height - above) rest) ≡ front ++ flat_map line (row_texts width height squares)

pub rows_start : (width height : ℕ) (front : List ℕ) (squares : List Square) → length squares ≡ width * height → RowsLeft width height 0 front squares front squares
rows_start width height front squares size =
    let same : height - 0 ≡ height = omega arith in
    record { size = rw same size; text = rw same refl }

pub row_fits : (width height above : ℕ) (rest : List Square) → above < height → length rest ≡ width * (height - above) → width ≤ length rest
row_fits width height above rest lt size =
    let left : height - above ≡ suc (height - (above + 1)) = omega arith in
    let e : length rest ≡ width * suc (height - (above + 1)) = size ∙ ap (λ (k : ℕ). width * k) left in
    omega (arith, e)

pub rows_left : (width height above : ℕ) (front : List ℕ) (squares : List Square) (out new : List ℕ) (rest : List Square) → above < height → RowsLeft width height above front squares out rest
    → new ≡ out ++ line (map square_byte (take width rest)) → RowsLeft width height (above + 1) front squares new (drop width rest)
unfolding row_texts
rows_left width height above front squares out new rest lt so_far put =
    let left : height - above ≡ suc (height - (above + 1)) = omega arith in
    let e : length rest ≡ width * suc (height - (above + 1)) = so_far.size ∙ ap (λ (k : ℕ). width * k) left in
    let more : flat_map line (row_texts width (height - above) rest) ≡ line (map square_byte (take width rest)) ++ flat_map line (row_texts width (height - (above + 1)) (drop width rest)) = rw left refl in
    record {
      size = omega (arith, e, length-drop width rest);
      text = ap (λ (t : List ℕ). t ++ flat_map line (row_texts width (height - (above + 1)) (drop width rest))) put
          ∙ append_assoc out (line (map square_byte (take width rest))) (flat_map line (row_texts width (height - (above + 1)) (drop width rest)))
          ∙ ap (λ (t : List ℕ). out ++ t) (sym more) ∙ so_far.text;
    }

pub rows_end : (width height above : ℕ) (front : List ℕ) (squares : List Square) (out : List ℕ) (rest : List Square) → height ≤ above → RowsLeft width height above front squares out rest → out ≡ front ++ flat_map line (row_texts width height squares)
unfolding row_texts
rows_end width height above front squares out rest le so_far =
    let none : height - above ≡ 0 = omega arith in
    let last : out ++ flat_map line (row_texts width (height - above) rest) ≡ out = rw none (append-nil out) in
    sym last ∙ so_far.text

-- ---- pieces

pub piece_more : (rest : List ℕ) (end : ℕ) → position is_line_feed rest ≡ Some end → pieces rest ≡ take end rest ∷ pieces (drop (end + 1) rest)
piece_more rest end here =
    let parts = cond_some (ltb (position_or_len is_line_feed rest) (length rest)) (position_or_len is_line_feed rest) end here in
    slice_split_first is_line_feed rest 0 (ltb-true _ _ parts.0) ∙ ap (λ (k : ℕ). take k rest ∷ pieces (drop (k + 1) rest)) parts.1

pub piece_last : (rest : List ℕ) → position is_line_feed rest ≡ None → pieces rest ≡ rest ∷ []
piece_last rest nowhere = slice_split_none is_line_feed rest (position-None is_line_feed rest nowhere)

pub pieces_go_on : (front out new : List ℕ) (rest whole : List ℕ) (end : ℕ) → position is_line_feed rest ≡ Some end → out ++ flat_map line (pieces rest) ≡ whole → new ≡ out ++ line (take end rest) → new ++ flat_map line (pieces (drop (end + 1) rest)) ≡ whole
pieces_go_on front out new rest whole end here so_far put =
    let more : flat_map line (pieces rest) ≡ line (take end rest) ++ flat_map line (pieces (drop (end + 1) rest)) = ap (flat_map line) (piece_more rest end here) in
    ap (λ (t : List ℕ). t ++ flat_map line (pieces (drop (end + 1) rest))) put ∙ append_assoc out (line (take end rest)) (flat_map line (pieces (drop (end + 1) rest))) ∙ ap (λ (t : List ℕ). out ++ t) (sym more) ∙ so_far

pub pieces_end : (out new rest whole : List ℕ) → position is_line_feed rest ≡ None → out ++ flat_map line (pieces rest) ≡ whole → new ≡ out ++ line rest → new ≡ whole
pieces_end out new rest whole nowhere so_far put =
    let last : flat_map line (pieces rest) ≡ line rest = ap (flat_map line) (piece_last rest nowhere) ∙ append-nil (line rest) in
    put ∙ ap (λ (t : List ℕ). out ++ t) (sym last) ∙ so_far

pub tail_is : (k : ℕ) (xs : List ℕ) → take (length xs - k) (drop k xs) ≡ drop k xs
tail_is k xs = take_all (length xs - k) (drop k xs) (omega (arith, length-drop k xs))

pub pieces_step : (out new : List ℕ) (rest whole : List ℕ) (end : ℕ) → position is_line_feed rest ≡ Some end → out ++ flat_map line (pieces rest) ≡ whole → new ≡ out ++ line (take end rest)
    → new ++ flat_map line (pieces (take (length rest - (end + 1)) (drop (end + 1) rest))) ≡ whole
pieces_step out new rest whole end here so_far put =
    ap (λ (t : List ℕ). new ++ flat_map line (pieces t)) (tail_is (end + 1) rest) ∙ pieces_go_on [] out new rest whole end here so_far put

-- the clues that are left to write
pub clues_go_on : (clues : ClueMap) (direction : Direction) (grid : Grid) (size k : ℕ) (cell : Cell) (out new whole : List ℕ) → size ≡ grid.width * grid.height → k < size → cell ≡ cell_at grid k → begins grid direction cell ≡ true
    → new ≡ out ++ line (clue_at clues cell direction) → out ++ clues_after clues direction (starts_after grid direction k) ≡ whole → new ++ clues_after clues direction (starts_after grid direction (k + 1)) ≡ whole
clues_go_on clues direction grid size k cell out new whole is lt at begin put so_far =
    let rest = clues_after clues direction (starts_after grid direction (k + 1)) in
    ap (λ (t : List ℕ). t ++ rest) put ∙ append_assoc out (line (clue_at clues cell direction)) rest
    ∙ ap (λ (cs : List Cell). out ++ clues_after clues direction cs) (sym (start_here grid direction size k cell is lt at begin)) ∙ so_far

pub clues_passed : (clues : ClueMap) (direction : Direction) (grid : Grid) (size k : ℕ) (cell : Cell) (out whole : List ℕ) → size ≡ grid.width * grid.height → k < size → cell ≡ cell_at grid k → begins grid direction cell ≡ false
    → out ++ clues_after clues direction (starts_after grid direction k) ≡ whole → out ++ clues_after clues direction (starts_after grid direction (k + 1)) ≡ whole
clues_passed clues direction grid size k cell out whole is lt at begin so_far =
    ap (λ (cs : List Cell). out ++ clues_after clues direction cs) (sym (no_start grid direction size k cell is lt at begin)) ∙ so_far

pub clues_end : (clues : ClueMap) (direction : Direction) (grid : Grid) (size k : ℕ) (out whole : List ℕ) → size ≡ grid.width * grid.height → size ≤ k → out ++ clues_after clues direction (starts_after grid direction k) ≡ whole → out ≡ whole
clues_end clues direction grid size k out whole is le so_far =
    sym (append-nil out) ∙ ap (λ (cs : List Cell). out ++ clues_after clues direction cs) (sym (no_more_starts grid direction size k is le)) ∙ so_far

pub on_ok_from : {T E P Q : Type 0} (r : Result T E) → (P → Q) → OnOk r P → OnOk r Q
on_ok_from (Ok x) f h = f h
on_ok_from (Err e) f h = tt
