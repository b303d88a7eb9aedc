-- Contents of cells in reading order, up to an index.
use Rattle.std.proofs.Common.{◌≡◌, ℕ, ◌+◌, ◌*◌, ◌<◌, ◌≤◌, zero, suc, Bool, true, false, ◌||◌, cond, eqb, List, [], ◌∷◌, ◌++◌, length, take, filter, Some, refl, sym, ◌∙◌, ap, inl, inr, arith}
use Rattle.std.specs.Prelude.{nat_lt, if◌then◌else◌}
use Rattle.std.specs.Map.{lookup}
use Rattle.std.specs.Option.{unwrap_or}
use Rattle.std.specs.BTreeMap.{insert_entry}
use Rattle.std.specs.Ordering.{match_ordering}
use Rattle.std.proofs.lemmas.Bool.{cases_Bool, cases_lt, eq-eqb}
use Rattle.std.proofs.lemmas.Bool.Decides.{nat_tests}
use Rattle.std.proofs.lemmas.List.Elements.{filter-append}
use Rattle.xw_grid.specs.declared.cell.Cell.{Cell}
use Rattle.xw_grid.specs.Grid.{Grid, is_inside, index_of, cell_at, cells, same_cell, cell_cmp}
use Rattle.xw_grid.specs.Clue.{Texts, text_at, is_circled}
use Rattle.xw_grid.proofs.GridLemmas.{index_of-lt, cell_at-index_of, same_cell-cell_at, take-cells, all-cells}
use Rattle.xw_answers.specs.Escape.{has_nul}
use Rattle.xw_session_laws.specs.Replay.{AreFrom, AreTextsFrom}
use Rattle.xw_session_laws.proofs.CirclesAgain.{in_order}

-- ---- one more element below an index

step_less : {X : Type 0} (x : X) (more less new : List X) (a b : Bool) → a ≡ true → b ≡ true → more ≡ less ++ new → cond a (x ∷ more) more ≡ cond b (x ∷ less) less ++ new
step_less x more less new true true p q e = ap (λ xs. x ∷ xs) e
step_less x more less new true false p q e = cc
step_less x more less new false b p q e = cc

step_same : {X : Type 0} (x : X) (more less new : List X) (a b : Bool) → a ≡ true → b ≡ false → more ≡ [] → less ≡ [] → new ≡ x ∷ [] → cond a (x ∷ more) more ≡ cond b (x ∷ less) less ++ new
step_same x more less new true false p q e f g = ap (λ xs. x ∷ xs) e ∙ sym (ap (λ xs. xs ++ new) f ∙ g)
step_same x more less new true true p q e f g = cc
step_same x more less new false b p q e f g = cc

step_more : {X : Type 0} (x : X) (more less new : List X) (a b : Bool) → a ≡ false → b ≡ false → more ≡ less ++ new → cond a (x ∷ more) more ≡ cond b (x ∷ less) less ++ new
step_more x more less new false false p q e = e
step_more x more less new false true p q e = cc
step_more x more less new true b p q e = cc

is_less : (i k : ℕ) → i < k → nat_lt i k ≡ true
is_less i k h = grind (arith, nat_tests, h)

is_no_less : (i k : ℕ) → k ≤ i → nat_lt i k ≡ false
is_no_less i k h = grind (arith, nat_tests, h)

apart : (i k : ℕ) → (k ≡ i → ⊥) → eqb k i ≡ false
apart i k other = elim (cases_Bool (eqb k i)) [ inl same ↦ absurd (other (eqb_same same)) | inr is ↦ is ] where
  eqb_same : eqb k i ≡ true → k ≡ i
  eqb_same h = grind (arith, nat_tests, h)

module _ (grid : Grid) where
  -- the cells below an index
  abbrev pub cells_before : ℕ → List Cell → List Cell
  cells_before k kept = filter (λ cell. nat_lt (index_of grid cell) k) kept

  abbrev pub texts_before : ℕ → Texts → Texts
  texts_before k texts = filter (λ entry. nat_lt (index_of grid entry.0) k) texts

  -- ---- cells

  pub no_cells_before : (kept : List Cell) (from k : ℕ) → AreFrom grid from kept → k ≤ from → cells_before k kept ≡ []
  no_cells_before [] from k are low = refl
  no_cells_before (cell ∷ kept) from k are low =
      ap (λ b. cond b (cell ∷ cells_before k kept) (cells_before k kept)) (is_no_less (index_of grid cell) k (omega (arith, low, are.1)))
      ∙ no_cells_before kept (index_of grid cell + 1) k are.2 (omega (arith, low, are.1))

  pub all_cells_before : (kept : List Cell) (from : ℕ) → AreFrom grid from kept → cells_before (grid.width * grid.height) kept ≡ kept
  all_cells_before [] from are = refl
  all_cells_before (cell ∷ kept) from are =
      let rest = cells_before (grid.width * grid.height) kept in
      ap (λ b. cond b (cell ∷ rest) rest) (is_less (index_of grid cell) (grid.width * grid.height) (index_of-lt grid cell are.0))
      ∙ ap (λ xs. cell ∷ xs) (all_cells_before kept (index_of grid cell + 1) are.2)

  abbrev circle_if : ℕ → Bool → List Cell
  circle_if k circled = if circled then cell_at grid k ∷ [] else []

  pub one_cell_more : (k : ℕ) (kept : List Cell) (from : ℕ) → AreFrom grid from kept
      → cells_before (k + 1) kept ≡ cells_before k kept ++ circle_if k (is_circled kept (cell_at grid k))
  one_cell_more k [] from are = refl
  one_cell_more k (cell ∷ kept) from are =
      let i = index_of grid cell in
      let tests : same_cell (cell_at grid k) cell ≡ eqb k i = same_cell-cell_at grid k cell are.0 in
      let others = is_circled kept (cell_at grid k) in
      let rest = one_cell_more k kept (i + 1) are.2 in
      elim (cases_lt i k) [
        | inl less ↦
            let other : same_cell (cell_at grid k) cell ≡ false = tests ∙ apart i k (λ e. absurd (omega (arith, e, less))) in
            step_less cell _ _ (circle_if k (same_cell (cell_at grid k) cell || others)) (nat_lt i (k + 1)) (nat_lt i k) (is_less i (k + 1) (omega (arith, less))) (is_less i k less)
            (rest ∙ ap (λ b. cells_before k kept ++ circle_if k (b || others)) (sym other))
        | inr most ↦ elim (cases_lt k i) [
          | inl more ↦
              let other : same_cell (cell_at grid k) cell ≡ false = tests ∙ apart i k (λ e. absurd (omega (arith, e, more))) in
              step_more cell _ _ (circle_if k (same_cell (cell_at grid k) cell || others)) (nat_lt i (k + 1)) (nat_lt i k) (is_no_less i (k + 1) (omega (arith, more))) (is_no_less i k most)
              (rest ∙ ap (λ b. cells_before k kept ++ circle_if k (b || others)) (sym other))
          | inr least ↦
              let equal : k ≡ i = omega (arith, most, least) in
              let same : same_cell (cell_at grid k) cell ≡ true = tests ∙ eq-eqb k i equal in
              let here : cell_at grid k ≡ cell = ap (cell_at grid) equal ∙ cell_at-index_of grid cell are.0 in
              step_same cell _ _ (circle_if k (same_cell (cell_at grid k) cell || others)) (nat_lt i (k + 1)) (nat_lt i k) (is_less i (k + 1) (omega (arith, least))) (is_no_less i k most)
              (no_cells_before kept (i + 1) (k + 1) are.2 (omega (arith, equal))) (no_cells_before kept (i + 1) k are.2 (omega (arith, equal)))
              (ap (λ b. circle_if k (b || others)) same ∙ ap (λ c. c ∷ []) here)
        ]
      ]

  -- ---- texts

  pub no_texts_before : (texts : Texts) (from k : ℕ) → AreTextsFrom grid from texts → k ≤ from → texts_before k texts ≡ []
  no_texts_before [] from k are low = refl
  no_texts_before (entry ∷ texts) from k are low =
      ap (λ b. cond b (entry ∷ texts_before k texts) (texts_before k texts)) (is_no_less (index_of grid entry.0) k (omega (arith, low, are.1)))
      ∙ no_texts_before texts (index_of grid entry.0 + 1) k are.4 (omega (arith, low, are.1))

  pub all_texts_before : (texts : Texts) (from : ℕ) → AreTextsFrom grid from texts → texts_before (grid.width * grid.height) texts ≡ texts
  all_texts_before [] from are = refl
  all_texts_before (entry ∷ texts) from are =
      let rest = texts_before (grid.width * grid.height) texts in
      ap (λ b. cond b (entry ∷ rest) rest) (is_less (index_of grid entry.0) (grid.width * grid.height) (index_of-lt grid entry.0 are.0))
      ∙ ap (λ xs. entry ∷ xs) (all_texts_before texts (index_of grid entry.0 + 1) are.4)

  -- the entry of a text; none for an empty text
  abbrev pub entry_of_text : Cell → List ℕ → Texts
  entry_of_text cell [] = []
  entry_of_text cell (byte ∷ bytes) = (cell, byte ∷ bytes) ∷ []

  of_some : (cell : Cell) (text : List ℕ) → 0 < length text → entry_of_text cell text ≡ (cell, text) ∷ []
  of_some cell [] some = absurd (omega (arith, some))
  of_some cell (byte ∷ bytes) some = refl

  pub one_text_more : (k : ℕ) (texts : Texts) (from : ℕ) → AreTextsFrom grid from texts
      → texts_before (k + 1) texts ≡ texts_before k texts ++ entry_of_text (cell_at grid k) (text_at texts (cell_at grid k))
  one_text_more k [] from are = refl
  one_text_more k (entry ∷ texts) from are =
      let i = index_of grid entry.0 in
      let cell = cell_at grid k in
      let tests : same_cell cell entry.0 ≡ eqb k i = same_cell-cell_at grid k entry.0 are.0 in
      let others = lookup (same_cell cell) texts in
      let new : Bool → Texts = λ b. entry_of_text cell (unwrap_or (cond b (Some entry.1) others) []) in
      let rest = one_text_more k texts (i + 1) are.4 in
      elim (cases_lt i k) [
        | inl less ↦
            let other : same_cell cell entry.0 ≡ false = tests ∙ apart i k (λ e. absurd (omega (arith, e, less))) in
            step_less entry _ _ (new (same_cell cell entry.0)) (nat_lt i (k + 1)) (nat_lt i k) (is_less i (k + 1) (omega (arith, less))) (is_less i k less)
            (rest ∙ ap (λ b. texts_before k texts ++ new b) (sym other))
        | inr most ↦ elim (cases_lt k i) [
          | inl more ↦
              let other : same_cell cell entry.0 ≡ false = tests ∙ apart i k (λ e. absurd (omega (arith, e, more))) in
              step_more entry _ _ (new (same_cell cell entry.0)) (nat_lt i (k + 1)) (nat_lt i k) (is_no_less i (k + 1) (omega (arith, more))) (is_no_less i k most)
              (rest ∙ ap (λ b. texts_before k texts ++ new b) (sym other))
          | inr least ↦
              let equal : k ≡ i = omega (arith, most, least) in
              let same : same_cell cell entry.0 ≡ true = tests ∙ eq-eqb k i equal in
              let here : cell ≡ entry.0 = ap (cell_at grid) equal ∙ cell_at-index_of grid entry.0 are.0 in
              step_same entry _ _ (new (same_cell cell entry.0)) (nat_lt i (k + 1)) (nat_lt i k) (is_less i (k + 1) (omega (arith, least))) (is_no_less i k most)
              (no_texts_before texts (i + 1) (k + 1) are.4 (omega (arith, equal))) (no_texts_before texts (i + 1) k are.4 (omega (arith, equal)))
              (ap new same ∙ of_some cell entry.1 are.2 ∙ ap (λ c. (c, entry.1) ∷ []) here)
        ]
      ]

  plain_one : (texts : Texts) (cell : Cell) (text : List ℕ) (b : Bool) → has_nul text ≡ false → has_nul (text_at texts cell) ≡ false
      → has_nul (unwrap_or (cond b (Some text) (lookup (same_cell cell) texts)) []) ≡ false
  plain_one texts cell text true plain others = plain
  plain_one texts cell text false plain others = others

  -- no stored text has a NUL
  pub plain_at : (texts : Texts) (from : ℕ) (cell : Cell) → AreTextsFrom grid from texts → has_nul (text_at texts cell) ≡ false
  plain_at [] from cell are = refl
  plain_at (entry ∷ texts) from cell are = plain_one texts cell entry.1 (same_cell cell entry.0) are.3 (plain_at texts (index_of grid entry.0 + 1) cell are.4)

  -- the text of the next cell is appended to those before it
  module _ (k : ℕ) (text : List ℕ) (wide : 0 < grid.width) where
    put_behind : (entry : Cell × List ℕ) (before : Texts) (b : Bool) → nat_lt (index_of grid entry.0) k ≡ b → is_inside grid entry.0 ≡ true
        → insert_entry cell_cmp before (cell_at grid k) text ≡ before ++ (cell_at grid k, text) ∷ []
        → insert_entry cell_cmp (cond b (entry ∷ before) before) (cell_at grid k) text ≡ cond b (entry ∷ before) before ++ (cell_at grid k, text) ∷ []
    put_behind entry before false e inside others = others
    put_behind entry before true e inside others =
        let less : index_of grid entry.0 < k = grind (arith, nat_tests, e) in
        let after = ap (cell_cmp (cell_at grid k)) (sym (cell_at-index_of grid entry.0 inside)) ∙ in_order grid k (index_of grid entry.0) wide less in
        ap (λ o. match_ordering o ((cell_at grid k, text) ∷ entry ∷ before) ((entry.0, text) ∷ before) (entry ∷ insert_entry cell_cmp before (cell_at grid k) text)) after
        ∙ ap (λ es. entry ∷ es) others

    pub put_last : (texts : Texts) (from : ℕ) → AreTextsFrom grid from texts → insert_entry cell_cmp (texts_before k texts) (cell_at grid k) text ≡ texts_before k texts ++ (cell_at grid k, text) ∷ []
    put_last [] from are = refl
    put_last (entry ∷ texts) from are = put_behind entry (texts_before k texts) (nat_lt (index_of grid entry.0) k) refl are.0 (put_last texts (index_of grid entry.0 + 1) are.4)

-- ---- circles stored in reading order

module _ (grid : Grid) (circles : List Cell) (are : AreFrom grid 0 circles) where
  some_circles : (k : ℕ) → k ≤ grid.width * grid.height → filter (is_circled circles) (take k (cells grid)) ≡ cells_before grid k circles
  some_circles zero within = sym (no_cells_before grid circles 0 0 are (omega arith))
  some_circles (suc k) within =
      let next : suc k ≡ k + 1 = omega arith in
      let below : k < grid.width * grid.height = omega (arith, within) in
      ap (λ n. filter (is_circled circles) (take n (cells grid))) next
      ∙ ap (filter (is_circled circles)) (take-cells grid k below)
      ∙ filter-append (is_circled circles) (take k (cells grid)) (cell_at grid k ∷ [])
      ∙ ap (λ xs. xs ++ filter (is_circled circles) (cell_at grid k ∷ [])) (some_circles k (omega (arith, within)))
      ∙ sym (one_cell_more grid k circles 0 are)
      ∙ ap (λ n. cells_before grid n circles) (sym next)

  pub all_circles : filter (is_circled circles) (cells grid) ≡ circles
  all_circles =
      ap (filter (is_circled circles)) (sym (all-cells grid (grid.width * grid.height) (omega arith)))
      ∙ some_circles (grid.width * grid.height) (omega arith)
      ∙ all_cells_before grid circles 0 are
