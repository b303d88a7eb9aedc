-- Steps of the loops that read rows.
use Rattle.std.proofs.Common.{◌≡◌, ℕ, zero, suc, ◌+◌, ◌-◌, ◌*◌, ◌<◌, ◌≤◌, Bool, true, false, cond, eqb, List, [], ◌++◌, length, Option, Some, None, Result, Ok, Err, refl, sym, ap, ◌∙◌, append_assoc, length-append, arith}
use Rattle.std.specs.Prelude.{position}
use Rattle.std.proofs.lemmas.Bool.{eqb-true}
use Rattle.std.proofs.lemmas.List.{length-map, append-nil}
use Rattle.xw_grid.specs.declared.cell.Square.{Square}
use Rattle.xw_files.specs.declared.fault.ReadFault.{ReadFault}
use Rattle.xw_files.specs.declared.fault.ReadFault.TheVariants as faults
use Rattle.xw_files.specs.Steps.{◌>>=◌}
use Rattle.xw_files.proofs.StepLemmas.{bind_ok, ok_is}
use Rattle.xw_files.specs.Text.Shape.{Lines, with_front, plain_at, is_bad_square, square_of, squares_in, row_squares, cells_at, row_at, rows_at}

-- ---- rows

pub regroup : {A : Type 0} (front first : List A) (r : Result (List A × Lines) ReadFault) → with_front front (r >>= λ x. Ok (first ++ x.0, x.1)) ≡ with_front (front ++ first) r
regroup front first (Ok x) = ap (λ squares. Ok (squares, x.1)) (sym (append_assoc front first x.0))
regroup front first (Err d) = refl

pub front_ok : {A : Type 0} (front : List A) (r : Result (List A × Lines) ReadFault) (all : List A) (rest : Lines) → with_front front r ≡ Ok (all, rest) → (own : List A) × (r ≡ Ok (own, rest)) × (all ≡ front ++ own)
front_ok {A} front (Ok x) all rest e =
    let same = ok_is (front ++ x.0, x.1) (all, rest) e in
    (x.0, ap (λ (r : Lines). Ok (x.0, r)) (ap (λ (p : List A × Lines). p.1) same), sym (ap (λ (p : List A × Lines). p.0) same))
front_ok front (Err d) all rest e = absurd cc

pub front_err : {A : Type 0} (front : List A) (r : Result (List A × Lines) ReadFault) (fault : ReadFault) → with_front front r ≡ Err fault → r ≡ Err fault
front_err front (Ok x) fault e = absurd cc
front_err front (Err d) fault e = cc

row_then : (width count above : ℕ) (front own : List Square) (lines rest : Lines) (whole : Result (List Square × Lines) ReadFault) → above < count
    → row_at width (above + 1) lines ≡ Ok (own, rest)
    → with_front front (rows_at width (above + 1) (count - above) lines) ≡ whole → with_front (front ++ own) (rows_at width (above + 1 + 1) (count - (above + 1)) rest) ≡ whole
unfolding rows_at
row_then width count above front own lines rest whole lt here so_far =
    let left : count - above ≡ suc (count - (above + 1)) = omega arith in
    let one : with_front front (rows_at width (above + 1) (count - above) lines) ≡ with_front (front ++ own) (rows_at width (above + 1 + 1) (count - (above + 1)) rest) =
    rw (left, here) (regroup front own (rows_at width (above + 1 + 1) (count - (above + 1)) rest)) in
    sym one ∙ so_far

pub rows_go_on : (width count above : ℕ) (front squares : List Square) (lines rest : Lines) (whole : Result (List Square × Lines) ReadFault) → above < count
    → with_front front (row_at width (above + 1) lines) ≡ Ok (squares, rest)
    → with_front front (rows_at width (above + 1) (count - above) lines) ≡ whole → with_front squares (rows_at width (above + 1 + 1) (count - (above + 1)) rest) ≡ whole
rows_go_on width count above front squares lines rest whole lt here so_far =
    let parts = front_ok front (row_at width (above + 1) lines) squares rest here in
    rw parts.2 (row_then width count above front parts.0 lines rest whole lt parts.1 so_far)

pub rows_fail : (width count above : ℕ) (front : List Square) (lines : Lines) (whole : Result (List Square × Lines) ReadFault) (fault : ReadFault) → above < count
    → with_front front (row_at width (above + 1) lines) ≡ Err fault → with_front front (rows_at width (above + 1) (count - above) lines) ≡ whole → whole ≡ Err fault
unfolding rows_at
rows_fail width count above front lines whole fault lt here so_far =
    let left : count - above ≡ suc (count - (above + 1)) = omega arith in
    let failed = front_err front (row_at width (above + 1) lines) fault here in
    let one : with_front front (rows_at width (above + 1) (count - above) lines) ≡ Err fault = rw (left, failed) refl in
    sym so_far ∙ one

pub rows_done : (width count above : ℕ) (front : List Square) (lines : Lines) (whole : Result (List Square × Lines) ReadFault) → count ≤ above
    → with_front front (rows_at width (above + 1) (count - above) lines) ≡ whole → whole ≡ Ok (front, lines)
unfolding rows_at
rows_done width count above front lines whole le so_far =
    let left : count - above ≡ 0 = omega arith in
    let one : with_front front (rows_at width (above + 1) (count - above) lines) ≡ Ok (front, lines) = rw left (ap (λ (squares : List Square). Ok (squares, lines)) (append-nil front)) in
    sym so_far ∙ one

-- a test that must pass
pub chosen : {A : Type 0} (b : Bool) (d : ReadFault) (r : Result A ReadFault) (y : A) → cond b r (Err d) ≡ Ok y → (b ≡ true) × (r ≡ Ok y)
chosen true d r y e = (refl, e)
chosen false d r y e = absurd cc

squares_length : (row : ℕ) (index : Option ℕ) (line : List ℕ) (squares : List Square) → squares_in row index line ≡ Ok squares → length squares ≡ length line
squares_length row None line squares e = ap length (sym (ok_is _ _ e)) ∙ length-map line square_of
squares_length row (Some index) line squares e = absurd cc

-- a row has as many squares as the grid is wide
row_is_wide : (width row : ℕ) (line : Option (List ℕ)) (after rest : Lines) (squares : List Square) → cells_at width row line after ≡ Ok (squares, rest) → length squares ≡ width
row_is_wide width row None after rest squares e = absurd cc
row_is_wide width row (Some line) after rest squares e =
    let right = chosen (eqb (length line) width) (faults.GridLine row) (row_squares row line >>= λ own. Ok (own, after)) (squares, rest) e in
    let own = bind_ok (row_squares row line) (λ own. Ok (own, after)) (squares, rest) right.1 in
    let same : own.0 ≡ squares = ap (λ (p : List Square × Lines). p.0) (ok_is (own.0, after) (squares, rest) own.2) in
    ap length (sym same) ∙ squares_length row (position is_bad_square line) line own.0 own.1 ∙ eqb-true _ _ right.0

rows_count : (width row count : ℕ) (lines rest : Lines) (squares : List Square) → rows_at width row count lines ≡ Ok (squares, rest) → length squares ≡ width * count
unfolding rows_at row_at
rows_count width row zero lines rest squares e =
    let same : [] ≡ squares = ap (λ (p : List Square × Lines). p.0) (ok_is ([], lines) (squares, rest) e) in
    ap length (sym same) ∙ omega arith
rows_count width row (suc count) lines rest squares e =
    let first = bind_ok (row_at width row lines) (λ first. rows_at width (row + 1) count first.1 >>= λ others. Ok (first.0 ++ others.0, others.1)) (squares, rest) e in
    let others = bind_ok (rows_at width (row + 1) count first.0.1) (λ others. Ok (first.0.0 ++ others.0, others.1)) (squares, rest) first.2 in
    let same : first.0.0 ++ others.0.0 ≡ squares = ap (λ (p : List Square × Lines). p.0) (ok_is (first.0.0 ++ others.0.0, others.0.1) (squares, rest) others.2) in
    let one = row_is_wide width row (plain_at lines).0 (plain_at lines).1 first.0.1 first.0.0 first.1 in
    let more = rows_count width (row + 1) count first.0.1 others.0.1 others.0.0 others.1 in
    ap length (sym same) ∙ length-append first.0.0 others.0.0 ∙ omega (arith, one, more)

pub rows_length : (width row count : ℕ) (lines rest : Lines) (squares : List Square) → rows_at width row count lines ≡ Ok (squares, rest) → length squares ≡ width * count
rows_length width row count lines rest squares e = rows_count width row count lines rest squares e
