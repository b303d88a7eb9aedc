-- Steps of the loop that reads clues.
use Rattle.std.proofs.Common.{◌≡◌, ℕ, ◌+◌, ◌*◌, ◌<◌, ◌≤◌, true, false, List, [], ◌∷◌, length, drop, Option, Some, None, Result, Ok, Err, refl, sym, ap, ◌∙◌, inl, inr, arith}
use Rattle.std.specs.Prelude.{filter}
use Rattle.std.specs.List.{prefix_len}
use Rattle.std.proofs.lemmas.Bool.{cases_Bool, cases_eq, eq-eqb, ne_eqb}
use Rattle.xw_grid.specs.declared.cell.Cell.{Cell}
use Rattle.xw_grid.specs.declared.cell.Direction.{Direction}
use Rattle.xw_grid.specs.Grid.{Grid, cells, cell_at}
use Rattle.xw_grid.specs.Light.{begins}
use Rattle.xw_grid.specs.Clue.{ClueMap, with_clue}
use Rattle.xw_files.specs.declared.fault.ReadFault.{ReadFault}
use Rattle.xw_files.specs.Text.Tag.{is_tag_line}
use Rattle.xw_files.specs.Text.Shape.{Lines, is_plain, plain_at, clues_at, clue_in, clue_at_start}
use Rattle.xw_files.specs.Text.Relation.{IsPlain}
use Rattle.xw_files.proofs.StepLemmas.{ok_is}
use Rattle.xw_files.proofs.TextLemmas.Plains.{line_due, no_plain}
use Rattle.xw_files.proofs.CellLemmas.{cells_drop, cells_past}

-- ---- one more light

-- no line before the next tag is left
none_plain : (lines : Lines) → (plain_at lines).0 ≡ None → prefix_len is_plain lines ≡ 0
none_plain [] none = refl
none_plain (line ∷ lines) none =
    elim (cases_Bool (is_tag_line line)) [
      | inl tagged ↦ rw tagged refl
      | inr plain ↦ absurd (some_none (rw plain at none))
    ]
  where
    some_none : {A : Type 0} {x : A} → Some x ≡ None → ⊥
    some_none e = cc

pub clue_next_is : (fault : ReadFault) (direction : Direction) (start : Cell) (starts : List Cell) (clues : ClueMap) (line : List ℕ) (rest : Lines) → IsPlain line → clues_at fault direction (start ∷ starts) clues (line ∷ rest) ≡ clues_at fault direction starts (with_clue clues start direction line) rest
unfolding clues_at
clue_next_is fault direction start starts clues line rest plain =
    let n = prefix_len is_plain rest in
    elim (cases_eq n (length starts)) [
      | inl same ↦ rw (plain, eq-eqb (1 + n) (length (start ∷ starts)) (omega (arith, same)), eq-eqb n (length starts) same) refl
      | inr apart ↦ rw (plain, ne_eqb (1 + n) (length (start ∷ starts)) (λ e. apart (omega arith)), ne_eqb n (length starts) apart) refl
    ]

pub clue_missing_is : (fault : ReadFault) (direction : Direction) (start : Cell) (starts : List Cell) (clues : ClueMap) (lines : Lines) → (plain_at lines).0 ≡ None → clues_at fault direction (start ∷ starts) clues lines ≡ Err fault
unfolding clues_at
clue_missing_is fault direction start starts clues lines none = rw (none_plain lines none, ne_eqb 0 (length (start ∷ starts)) (λ e. omega arith)) refl

pub clues_done_is : (fault : ReadFault) (direction : Direction) (clues : ClueMap) (lines : Lines) → (plain_at lines).0 ≡ None → clues_at fault direction [] clues lines ≡ Ok (clues, lines)
unfolding clues_at
clues_done_is fault direction clues lines none = rw (none_plain lines none) refl

pub clues_over_is : (fault : ReadFault) (direction : Direction) (clues : ClueMap) (line : List ℕ) (rest : Lines) → IsPlain line → clues_at fault direction [] clues (line ∷ rest) ≡ Err fault
unfolding clues_at
clues_over_is fault direction clues line rest plain = rw (plain, ne_eqb (1 + prefix_len is_plain rest) 0 (λ e. omega arith)) refl

-- ---- cell by cell

-- the starts of lights from a cell index on
abbrev pub starts_after : Grid → Direction → ℕ → List Cell
starts_after grid direction k = filter (begins grid direction) (drop k (cells grid))

pub start_here : (grid : Grid) (direction : Direction) (size k : ℕ) (cell : Cell) → size ≡ grid.width * grid.height → k < size → cell ≡ cell_at grid k → begins grid direction cell ≡ true → starts_after grid direction k ≡ cell ∷ starts_after grid direction (k + 1)
start_here grid direction size k cell is lt at begin = rw (cells_drop grid size k cell is lt at, begin) refl

pub no_start : (grid : Grid) (direction : Direction) (size k : ℕ) (cell : Cell) → size ≡ grid.width * grid.height → k < size → cell ≡ cell_at grid k → begins grid direction cell ≡ false → starts_after grid direction k ≡ starts_after grid direction (k + 1)
no_start grid direction size k cell is lt at begin = rw (cells_drop grid size k cell is lt at, begin) refl

pub no_more_starts : (grid : Grid) (direction : Direction) (size k : ℕ) → size ≡ grid.width * grid.height → size ≤ k → starts_after grid direction k ≡ []
no_more_starts grid direction size k is le = rw (cells_past grid size k is le) refl

-- the line of a light was read
pub clue_taken : (fault : ReadFault) (direction : Direction) (start : Cell) (starts : List Cell) (clues new : ClueMap) (lines rest : Lines) → clue_at_start fault direction start clues lines ≡ Ok (new, rest) → clues_at fault direction (start ∷ starts) clues lines ≡ clues_at fault direction starts new rest
unfolding clue_at_start
clue_taken fault direction start starts clues new lines rest e =
    elim (line_due lines) [
      | inl found ↦
          let same = taken_is found.0 (rw found.1 at e) in
          ap (clues_at fault direction (start ∷ starts) clues) found.2.parts ∙ clue_next_is fault direction start starts clues found.0 (plain_at lines).1 found.2.plain
          ∙ ap (λ (c : ClueMap). clues_at fault direction starts c (plain_at lines).1) same.0 ∙ ap (clues_at fault direction starts new) same.1
      | inr none ↦ absurd (not_taken (rw none at e))
    ]
  where
    taken_is : (line : List ℕ) → clue_in fault direction start clues (Some line) (plain_at lines).1 ≡ Ok (new, rest) → (with_clue clues start direction line ≡ new) × ((plain_at lines).1 ≡ rest)
    taken_is line e = let both = ok_is _ (new, rest) e in (ap (λ (p : ClueMap × Lines). p.0) both, ap (λ (p : ClueMap × Lines). p.1) both)

    not_taken : clue_in fault direction start clues None (plain_at lines).1 ≡ Ok (new, rest) → ⊥
    not_taken e = cc

-- the line of a light is missing
pub clue_not_taken : (fault other : ReadFault) (direction : Direction) (start : Cell) (starts : List Cell) (clues : ClueMap) (lines : Lines) → clue_at_start fault direction start clues lines ≡ Err other → clues_at fault direction (start ∷ starts) clues lines ≡ Err other
unfolding clue_at_start
clue_not_taken fault other direction start starts clues lines e =
    elim (line_due lines) [
      | inl found ↦ absurd (taken found.0 (rw found.1 at e))
      | inr none ↦ clue_missing_is fault direction start starts clues lines none ∙ is (rw none at e)
    ]
  where
    taken : (line : List ℕ) → clue_in fault direction start clues (Some line) (plain_at lines).1 ≡ Err other → ⊥
    taken line e = cc

    is : clue_in fault direction start clues None (plain_at lines).1 ≡ Err other → ◌≡◌ {A = Result (ClueMap × Lines) ReadFault} (Err fault) (Err other)
    is e = e

-- ---- the loop

pub clue_goes_on : (fault : ReadFault) (direction : Direction) (grid : Grid) (size k : ℕ) (cell : Cell) (clues new : ClueMap) (lines rest : Lines) (whole : Result (ClueMap × Lines) ReadFault)
    → size ≡ grid.width * grid.height → k < size → cell ≡ cell_at grid k → begins grid direction cell ≡ true → clue_at_start fault direction cell clues lines ≡ Ok (new, rest)
    → clues_at fault direction (starts_after grid direction k) clues lines ≡ whole → clues_at fault direction (starts_after grid direction (k + 1)) new rest ≡ whole
clue_goes_on fault direction grid size k cell clues new lines rest whole is lt at begin taken so_far =
    sym (clue_taken fault direction cell (starts_after grid direction (k + 1)) clues new lines rest taken)
    ∙ ap (λ (starts : List Cell). clues_at fault direction starts clues lines) (sym (start_here grid direction size k cell is lt at begin)) ∙ so_far

pub clue_passed : (fault : ReadFault) (direction : Direction) (grid : Grid) (size k : ℕ) (cell : Cell) (clues : ClueMap) (lines : Lines) (whole : Result (ClueMap × Lines) ReadFault)
    → size ≡ grid.width * grid.height → k < size → cell ≡ cell_at grid k → begins grid direction cell ≡ false
    → clues_at fault direction (starts_after grid direction k) clues lines ≡ whole → clues_at fault direction (starts_after grid direction (k + 1)) clues lines ≡ whole
clue_passed fault direction grid size k cell clues lines whole is lt at begin so_far =
    ap (λ (starts : List Cell). clues_at fault direction starts clues lines) (sym (no_start grid direction size k cell is lt at begin)) ∙ so_far

pub clue_missing : (fault other : ReadFault) (direction : Direction) (grid : Grid) (size k : ℕ) (cell : Cell) (clues : ClueMap) (lines : Lines) (whole : Result (ClueMap × Lines) ReadFault)
    → size ≡ grid.width * grid.height → k < size → cell ≡ cell_at grid k → begins grid direction cell ≡ true → clue_at_start fault direction cell clues lines ≡ Err other
    → clues_at fault direction (starts_after grid direction k) clues lines ≡ whole → whole ≡ Err other
clue_missing fault other direction grid size k cell clues lines whole is lt at begin failed so_far =
    sym so_far ∙ ap (λ (starts : List Cell). clues_at fault direction starts clues lines) (start_here grid direction size k cell is lt at begin)
    ∙ clue_not_taken fault other direction cell (starts_after grid direction (k + 1)) clues lines failed

pub clue_too_many : (fault : ReadFault) (direction : Direction) (grid : Grid) (size k : ℕ) (clues : ClueMap) (lines rest : Lines) (line : List ℕ) (whole : Result (ClueMap × Lines) ReadFault)
    → size ≡ grid.width * grid.height → size ≤ k → plain_at lines ≡ (Some line, rest) → clues_at fault direction (starts_after grid direction k) clues lines ≡ whole → whole ≡ Err fault
clue_too_many fault direction grid size k clues lines rest line whole is le plain so_far =
    elim (line_due lines) [
      | inl found ↦
          sym so_far ∙ ap (λ (starts : List Cell). clues_at fault direction starts clues lines) (no_more_starts grid direction size k is le) ∙ ap (clues_at fault direction [] clues) found.2.parts
          ∙ clues_over_is fault direction clues found.0 (plain_at lines).1 found.2.plain
      | inr none ↦ absurd (some_none (sym (ap (λ (p : Option (List ℕ) × Lines). p.0) plain) ∙ none))
    ]
  where
    some_none : {A : Type 0} {x : A} → Some x ≡ None → ⊥
    some_none e = cc

pub clues_done : (fault : ReadFault) (direction : Direction) (grid : Grid) (size k : ℕ) (clues : ClueMap) (lines rest : Lines) (whole : Result (ClueMap × Lines) ReadFault)
    → size ≡ grid.width * grid.height → size ≤ k → plain_at lines ≡ (None, rest) → clues_at fault direction (starts_after grid direction k) clues lines ≡ whole → whole ≡ Ok (clues, rest)
clues_done fault direction grid size k clues lines rest whole is le plain so_far =
    let none : (plain_at lines).0 ≡ None = ap (λ (p : Option (List ℕ) × Lines). p.0) plain in
    let same : lines ≡ rest = sym (no_plain lines none) ∙ ap (λ (p : Option (List ℕ) × Lines). p.1) plain in
    sym so_far ∙ ap (λ (starts : List Cell). clues_at fault direction starts clues lines) (no_more_starts grid direction size k is le) ∙ clues_done_is fault direction clues lines none ∙ ap (λ (r : Lines). Ok (clues, r)) same
