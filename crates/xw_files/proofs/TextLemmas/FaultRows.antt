-- Reading the rows returns the first fault if it fails.
use Rattle.std.proofs.Common.{◌≡◌, ℕ, zero, suc, ◌+◌, ◌-◌, ◌<◌, ◌≤◌, ◌⊎◌, true, false, List, [], ◌∷◌, ◌++◌, length, get_or, take, drop, map, Option, Some, None, Result, Ok, Err, refl, sym, ap, subst, ◌∙◌, inl, inr, arith}
use Rattle.std.specs.Prelude.{position, slice_get}
use Rattle.std.specs.List.{flat_map, AllByRecursion}
use Rattle.std.proofs.lemmas.Bool.{cases_Bool, cases_eq, cond-true, cond-false, eq-eqb, ne_eqb}
use Rattle.std.proofs.lemmas.List.{take_at, drop_at}
use Rattle.std.proofs.lemmas.List.Quantifiers.{position-Some}
use Rattle.std.proofs.lemmas.Option.{slice_get_within, get_or_from_slice_get, slice_get-get_or}
use Rattle.xw_grid.specs.declared.cell.Square.{Square}
use Rattle.xw_files.specs.declared.fault.Tag.TheVariants as tags
use Rattle.xw_files.specs.declared.fault.ReadFault.{ReadFault}
use Rattle.xw_files.specs.declared.fault.ReadFault.TheVariants as faults
use Rattle.xw_files.specs.Steps.{◌>>=◌}
use Rattle.xw_files.specs.Text.Tag.{is_tag_line}
use Rattle.xw_files.specs.Text.Shape.{Lines, is_bad_square, square_of, squares_in, cells_at, row_at, rows_at}
use Rattle.xw_files.specs.Text.Relation.{IsPlain, IsRow}
use Rattle.xw_files.specs.Text.Faults.{below, from_size, from_grid, from_across, HasSize, IsNoRow, HasBadByte, WithRow, LinesHave, location_of, within_location}
use Rattle.xw_files.proofs.TextLemmas.Alls.{all_at}
use Rattle.xw_files.proofs.TextLemmas.Takes.{row_takes, rows_take}
use Rattle.xw_files.proofs.TextLemmas.FaultOrder.{IsFirst, NoneBefore, Leads, is_single, tag_single}
use Rattle.xw_files.proofs.TextLemmas.FaultSteps.{true_not_false, of_size}

err_is : {X : Type 0} (one other : ReadFault) → ◌≡◌ {A = Result X ReadFault} (Err one) (Err other) → other ≡ one
err_is one other e = cc

-- a chain that fails did so at its first step, or went on
bind_err : {A B : Type 0} (r : Result A ReadFault) (f : A → Result B ReadFault) (fault : ReadFault) → (r >>= f) ≡ Err fault → (r ≡ Err fault) ⊎ ((x : A) × (r ≡ Ok x) × (f x ≡ Err fault))
bind_err (Ok x) f fault e = inr (x, refl, e)
bind_err (Err other) f fault e = inl (ap Err (sym (err_is other fault e)))

-- a row that is right
abbrev pub IsFine : ℕ → Option (List ℕ) → Type 0
IsFine width None = ⊥
IsFine width (Some line) = IsRow width line

-- a line of the right width whose first bad byte is at this index
pub record IsBadAt (width : ℕ) (line : List ℕ) (index : ℕ) : Type 0 where
  pub plain : IsPlain line
  pub wide : length line ≡ width
  pub within : index < length line
  pub bad : is_bad_square (get_or line index 0) ≡ true
  pub before : (k : ℕ) → k < index → is_bad_square (get_or line k 0) ≡ false

-- a row is no line of a row, or has a bad byte
abbrev pub Fails : ℕ → ℕ → Option (List ℕ) → ReadFault → Type 0
Fails width row line fault =
    ((fault ≡ faults.GridLine row) × IsNoRow width line)
    ⊎ ((own : List ℕ) × (index : ℕ) × (line ≡ Some own) × IsBadAt width own index × (fault ≡ faults.BadCell (record { row = row; col = index + 1 })))

ok_fails : {X : Type 0} {x : X} {fault : ReadFault} → ◌≡◌ {A = Result X ReadFault} (Ok x) (Err fault) → ⊥
ok_fails e = cc

line_fails : (width row : ℕ) (line : List ℕ) (rest : Lines) (fault : ReadFault) → IsPlain line → cells_at width row (Some line) rest ≡ Err fault → Fails width row (Some line) fault
line_fails width row line rest fault plain e =
    elim (cases_eq (length line) width) [
      | inr apart ↦ inl (err_is (faults.GridLine row) fault (sym (cond-false _ _ _ (ne_eqb _ _ apart)) ∙ e), inr apart)
      | inl wide ↦ bytes_fail wide (position is_bad_square line) refl (sym (cond-true _ _ _ (eq-eqb _ _ wide)) ∙ e)
    ]
  where
    bytes_fail : length line ≡ width → (index : Option ℕ) → position is_bad_square line ≡ index → ◌>>=◌ {B = List Square × Lines} (squares_in row (position is_bad_square line) line) (λ squares. Ok (squares, rest)) ≡ Err fault → Fails width row (Some line) fault
    bytes_fail wide None none e = absurd (ok_fails (rw none at e))
    bytes_fail wide (Some index) some e =
        let there = position-Some is_bad_square line index 0 some in
        inr (line, index, refl, record { plain = plain; wide = wide; within = there.0; bad = there.1; before = there.2 }, err_is (faults.BadCell (record { row = row; col = index + 1 })) fault (rw some at e))

row_fails : (width row : ℕ) (lines : Lines) (fault : ReadFault) → row_at width row lines ≡ Err fault → Fails width row (slice_get lines 0) fault
unfolding row_at
row_fails width row [] fault e = inl (err_is (faults.GridLine row) fault e, tt)
row_fails width row (line ∷ rest) fault e =
    elim (cases_Bool (is_tag_line line)) [
      | inl tagged ↦ inl (err_is (faults.GridLine row) fault (rw tagged at e), inl tagged)
      | inr plain ↦ line_fails width row line rest fault plain (rw plain at e)
    ]

-- the first row that fails, where the first of them has this number
pub record RowsFail (width row count : ℕ) (lines : Lines) (fault : ReadFault) : Type 0 where
  pub above : ℕ
  pub within : above < count
  pub fine : (k : ℕ) → k < above → IsFine width (slice_get lines k)
  pub number : ℕ
  pub is_number : number ≡ row + above
  pub fails : Fails width number (slice_get lines above) fault

fine_more : (width above : ℕ) (line : List ℕ) (lines rest : Lines) → lines ≡ line ∷ rest → IsRow width line → ((k : ℕ) → k < above → IsFine width (slice_get rest k)) → (k : ℕ) → k < suc above → IsFine width (slice_get lines k)
fine_more width above line lines rest parts is fine zero lt = subst (λ t. IsFine width (slice_get t 0)) (sym parts) is
fine_more width above line lines rest parts is fine (suc k) lt = subst (λ t. IsFine width (slice_get t (suc k))) (sym parts) (fine k (omega (arith, lt)))

pub rows_fail : (width row count : ℕ) (lines : Lines) (fault : ReadFault) → rows_at width row count lines ≡ Err fault → RowsFail width row count lines fault
unfolding rows_at
rows_fail width row zero lines fault e = absurd cc
rows_fail width row (suc count) lines fault e =
    elim (bind_err (row_at width row lines) (λ first. rows_at width (row + 1) count first.1 >>= λ others. Ok (first.0 ++ others.0, others.1)) fault e) [
      | inl here ↦ record {
        above = 0;
        within = omega arith;
        fine = λ k lt. absurd (omega (arith, lt));
        number = row;
        is_number = omega arith;
        fails = row_fails width row lines fault here;
      }
      | inr first ↦ elim (bind_err (rows_at width (row + 1) count first.0.1) (λ others. Ok (first.0.0 ++ others.0, others.1)) fault first.2) [
        | inl below ↦
            let one = row_takes width row lines first.0.1 first.0.0 first.1 in
            let more = rows_fail width (row + 1) count first.0.1 fault below in
            record {
              above = suc more.above;
              within = omega (arith, more.within);
              fine = fine_more width more.above one.0 lines first.0.1 one.1 one.2 more.fine;
              number = more.number;
              is_number = omega (arith, more.is_number);
              fails = subst (λ t. Fails width more.number (slice_get t (suc more.above)) fault) (sym one.1) more.fails;
            }
        | inr others ↦ absurd (ok_fails others.2)
      ]
    ]

-- all rows are right
pub rows_fine : (width : ℕ) (rows rest : Lines) → AllByRecursion (IsRow width) rows → (k : ℕ) → k < length rows → IsFine width (slice_get (rows ++ rest) k)
rows_fine width [] rest are k lt = absurd (omega (arith, lt))
rows_fine width (row ∷ rows) rest are zero lt = are.0
rows_fine width (row ∷ rows) rest are (suc k) lt = rows_fine width rows rest are.1 k (omega (arith, lt))

-- ---- rows by their number

-- row k is the k-th line below the grid tag
pub by_number : (lines : Lines) (row k : ℕ) → row ≡ 1 + k → slice_get lines row ≡ slice_get (below lines) k
by_number lines zero k is = absurd (omega (arith, is))
by_number [] (suc row) k is = refl
by_number (line ∷ lines) (suc row) k is = let same : row ≡ k = omega (arith, is) in ap (slice_get lines) same

no_row_fine : (width : ℕ) (line : Option (List ℕ)) → IsFine width line → IsNoRow width line → ⊥
no_row_fine width None fine wrong = fine
no_row_fine width (Some line) fine (inl tagged) = true_not_false tagged fine.plain
no_row_fine width (Some line) fine (inr apart) = apart fine.wide

not_bad_before : (line : List ℕ) (index col : ℕ) → ((k : ℕ) → k < index → is_bad_square (get_or line k 0) ≡ false) → col < index + 1 → HasBadByte col (Some line) → ⊥
not_bad_before line index col good lt bad =
    let is : get_or line (col - 1) 0 ≡ bad.0 = get_or_from_slice_get line (col - 1) bad.0 0 bad.2 in
    true_not_false (ap is_bad_square is ∙ bad.3) (good (col - 1) (omega (arith, lt, bad.1)))

fine_not_bad : (width : ℕ) (line : Option (List ℕ)) (col : ℕ) → IsFine width line → HasBadByte col line → ⊥
fine_not_bad width None col fine bad = fine
fine_not_bad width (Some line) col fine bad =
    let k = col - 1 in
    let is : get_or line k 0 ≡ bad.0 = get_or_from_slice_get line k bad.0 0 bad.2 in
    true_not_false (ap is_bad_square is ∙ bad.3) (all_at (λ byte. is_bad_square byte ≡ false) line fine.good k 0 (slice_get_within line k bad.0 bad.2))

-- a size is there
module _ (lines : Lines) (width height : ℕ) (has : HasSize (below (from_size lines)) width height) where
  -- a row that is neither wrong nor has the bad byte has no fault there
  no_fault_in : (row : ℕ) (fault : ReadFault) → location_of fault ≡ 8 → (within_location fault).0 ≡ row
      → (1 ≤ row → row ≤ height → (IsNoRow width (slice_get (from_grid lines) row) → ⊥) × (HasBadByte (within_location fault).1 (slice_get (from_grid lines) row) → ⊥)) → LinesHave lines fault → ⊥
  no_fault_in row (faults.GridLine own) at is good have =
      let there = of_size lines width height (λ w h. (1 ≤ row) × (row ≤ h) × IsNoRow w (slice_get (from_grid lines) row)) has (subst (λ r. WithRow lines r IsNoRow) is have) in
      (good there.0 there.1).0 there.2
  no_fault_in row (faults.BadCell cell) at is good have =
      let there = of_size lines width height (λ w h. (1 ≤ row) × (row ≤ h) × HasBadByte cell.col (slice_get (from_grid lines) row)) has (subst (λ r. WithRow lines r (λ w line. HasBadByte cell.col line)) is have) in
      (good there.0 there.1).1 there.2
  no_fault_in row (faults.Tag tag) at is good have = true_not_false (tag_single tag) (ap is_single at)
  no_fault_in row fault at is good have = absurd (omega (arith, at))

  no_fault_in_fine : (row : ℕ) (fault : ReadFault) → location_of fault ≡ 8 → (within_location fault).0 ≡ row → (1 ≤ row → row ≤ height → IsFine width (slice_get (from_grid lines) row)) → LinesHave lines fault → ⊥
  no_fault_in_fine row fault at is fine have =
      no_fault_in row fault at is (λ one high. (
        no_row_fine width (slice_get (from_grid lines) row) (fine one high),
        fine_not_bad width (slice_get (from_grid lines) row) (within_location fault).1 (fine one high),
      )) have

  abbrev Under : Lines
  Under = below (from_grid lines)

  abbrev AllRows : List Square × Lines → Type 0
  AllRows x = (x.1 ≡ from_across height lines) × (x.0 ≡ flat_map (map square_of) (take height Under)) × NoneBefore lines (location_of (faults.Tag tags.Across))

  -- the first rows, this many of them, are right
  abbrev FineTo : ℕ → Type 0
  FineTo count = (k : ℕ) → k < count → IsFine width (slice_get Under k)

  none_to : (count : ℕ) → FineTo count → (fault : ReadFault) → location_of fault ≡ 8 → (within_location fault).0 < count + 1 → LinesHave lines fault → ⊥
  none_to count fine fault at lt have =
      let row = (within_location fault).0 in
      no_fault_in_fine row fault at refl (λ one high. subst (IsFine width) (sym (by_number (from_grid lines) row (row - 1) (omega (arith, one)))) (fine (row - 1) (omega (arith, one, lt)))) have

  none_after : FineTo height → NoneBefore lines 8 → NoneBefore lines (location_of (faults.Tag tags.Across))
  none_after fine none earlier lt have =
      elim (cases_eq (location_of earlier) 8) [
        | inl same ↦ no_fault_in_fine (within_location earlier).0 earlier same refl (λ one high.
            let row = (within_location earlier).0 in
            subst (IsFine width) (sym (by_number (from_grid lines) row (row - 1) (omega (arith, one)))) (fine (row - 1) (omega (arith, one, high)))) have
        | inr apart ↦ none earlier (omega (arith, lt, apart)) have
      ]

  -- the bad byte that comes first
  bad_is_first : (above number index : ℕ) (own : List ℕ) → above < height → number ≡ 1 + above → FineTo above → slice_get Under above ≡ Some own → IsBadAt width own index → NoneBefore lines 8 → IsFirst lines (faults.BadCell (record { row = number; col = index + 1 }))
  bad_is_first above number index own lt is fine line bad none =
      let there : slice_get (from_grid lines) number ≡ Some own = by_number (from_grid lines) number above is ∙ line in
      let same : index + 1 - 1 ≡ index = omega arith in (
        (width, height, has, (omega (arith, is), omega (arith, is, lt), subst (HasBadByte (index + 1)) (sym there) (get_or own index 0, omega arith, ap (slice_get own) same ∙ slice_get-get_or own index 0 bad.within, bad.bad))),
        λ earlier before have. elim before [
          | inl sooner ↦ none earlier sooner have
          | inr same ↦ elim same.1 [
            | inl higher ↦ none_to above fine earlier same.0 (omega (arith, is, higher)) have
            | inr left ↦ no_fault_in number earlier same.0 left.0 (λ one high. (
              λ wrong. not_no_row (subst (IsNoRow width) there wrong),
              λ byte. not_bad_before own index (within_location earlier).1 bad.before left.1 (subst (HasBadByte (within_location earlier).1) there byte),
            )) have
          ]
        ],
      )
    where
      not_no_row : IsNoRow width (Some own) → ⊥
      not_no_row (inl tagged) = true_not_false tagged bad.plain
      not_no_row (inr apart) = apart bad.wide

  no_line_is_first : (above number : ℕ) → above < height → number ≡ 1 + above → FineTo above → IsNoRow width (slice_get Under above) → NoneBefore lines 8 → IsFirst lines (faults.GridLine number)
  no_line_is_first above number lt is fine wrong none = (
    (width, height, has, (omega (arith, is), omega (arith, is, lt), subst (IsNoRow width) (sym (by_number (from_grid lines) number above is)) wrong)),
    λ earlier before have. elim before [
      | inl sooner ↦ none earlier sooner have
      | inr same ↦ elim same.1 [
        | inl higher ↦ none_to above fine earlier same.0 (omega (arith, is, higher)) have
        | inr left ↦ absurd (omega (arith, left.1))
      ]
    ],
  )

  rows_found : (r : Result (List Square × Lines) ReadFault) → rows_at width 1 height Under ≡ r → NoneBefore lines 8 → Leads lines AllRows r
  rows_found (Ok x) e none =
      let taken = rows_take width 1 height Under x.1 x.0 e in (
        sym (ap (drop height) taken.parts ∙ drop_at taken.rows x.1 height taken.many),
        taken.meaning ∙ ap (flat_map (map square_of)) (sym (ap (take height) taken.parts ∙ take_at taken.rows x.1 height taken.many)),
        none_after (λ k lt. subst (λ t. IsFine width (slice_get t k)) (sym taken.parts) (rows_fine width taken.rows x.1 taken.are k (omega (arith, lt, taken.many)))) none,
      )
  rows_found (Err fault) e none =
      let failed = rows_fail width 1 height Under fault e in
      elim failed.fails [
        | inl line ↦ subst (IsFirst lines) (sym line.0) (no_line_is_first failed.above failed.number failed.within failed.is_number failed.fine line.1 none)
        | inr cell ↦ subst (IsFirst lines) (sym cell.4) (bad_is_first failed.above failed.number cell.1 cell.0 failed.within failed.is_number failed.fine cell.2 cell.3 none)
      ]

  pub rows_lead : (at : Lines) → at ≡ Under → NoneBefore lines 8 → Leads lines AllRows (rows_at width 1 height at)
  rows_lead at same none = subst (λ t. Leads lines AllRows (rows_at width 1 height t)) (sym same) (rows_found (rows_at width 1 height Under) refl none)
