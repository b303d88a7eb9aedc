-- Lists in reading order stay so when an element is added or removed.
use Rattle.std.proofs.Common.{◌≡◌, ℕ, ◌+◌, ◌*◌, ◌/◌, ◌%◌, ◌<◌, ◌≤◌, Bool, true, false, cond, List, [], ◌∷◌, length, filter, sym, ◌∙◌, ap, subst, inl, inr, arith}
use Rattle.std.specs.BTreeMap.{insert_entry}
use Rattle.std.specs.BTreeSet.{insert_key}
use Rattle.std.specs.declared.cmp.Ordering.{Ordering}
use Rattle.std.specs.declared.cmp.Ordering.TheVariants.{Less, Equal, Greater}
use Rattle.std.specs.Ordering.{nat_cmp, ordering_then, match_ordering}
use Rattle.std.specs.Cmp.{nat_cmp_is}
use Rattle.std.proofs.Math.Nat.{div-add-mod}
use Rattle.std.proofs.lemmas.Bool.{cases_lt}
use Rattle.std.proofs.lemmas.Nat.{mod_below, mul-le}
use Rattle.xw_grid.specs.declared.cell.Cell.{Cell}
use Rattle.xw_grid.specs.declared.cell.Direction.{Direction}
use Rattle.xw_grid.specs.declared.cell.Direction.TheVariants.{Across, Down}
use Rattle.xw_grid.specs.Grid.{Grid, is_inside, index_of, cell_at, cell_cmp}
use Rattle.xw_grid.specs.Clue.{Texts, ClueMap, with_text, with_circle, with_clue}
use Rattle.xw_grid.proofs.GridLemmas.{cell_at-index_of}
use Rattle.xw_answers.specs.Escape.{has_nul}
use Rattle.xw_session_laws.specs.Replay.{AreFrom, AreTextsFrom, clues_of}
use Rattle.xw_session_laws.proofs.CirclesAgain.{in_order}
use Rattle.xw_session_laws.proofs.Replaying.{same_order}

-- ---- reading order

before_row : (row other col way : ℕ) → row < other → ordering_then (nat_cmp row other) (nat_cmp col way) ≡ Less
before_row row other col way less = ap (λ o. ordering_then o (nat_cmp col way)) (sym (nat_cmp_is row other Less less))

before_col : (row other col way : ℕ) → row ≡ other → col < way → ordering_then (nat_cmp row other) (nat_cmp col way) ≡ Less
before_col row other col way same less =
    ap (λ o. ordering_then o (nat_cmp col way)) (sym (nat_cmp_is row other Equal same)) ∙ sym (nat_cmp_is col way Less less)

-- a cell comes before those with higher indices
in_order_before : (grid : Grid) (i k : ℕ) → 0 < grid.width → i < k → cell_cmp (cell_at grid i) (cell_at grid k) ≡ Less
in_order_before grid i k wide less =
    let w = grid.width in
    let here = div-add-mod k w in
    let there = div-add-mod i w in
    let small : k % w < w = mod_below k w wide in
    let low : i % w < w = mod_below i w wide in
    elim (cases_lt (i / w) (k / w)) [
      | inl rows ↦ before_row (i / w + 1) (k / w + 1) (i % w + 1) (k % w + 1) (omega (arith, rows))
      | inr most ↦ elim (cases_lt (k / w) (i / w)) [
        | inl more ↦
            let far : w * (k / w + 1) ≤ w * (i / w) = mul-le w (k / w + 1) w (i / w) (omega arith) (omega (arith, more)) in
            let parts : w * (k / w + 1) ≡ w * (k / w) + w = omega arith in
            absurd (omega (arith, far, parts, here, there, small, less))
        | inr least ↦
            let same : i / w ≡ k / w = omega (arith, most, least) in
            let rows : w * (k / w) ≡ w * (i / w) = ap (λ n. w * n) (sym same) in
            before_col (i / w + 1) (k / w + 1) (i % w + 1) (k % w + 1) (ap (λ n. n + 1) same) (omega (arith, rows, here, there, less))
      ]
    ]

module _ (grid : Grid) (wide : 0 < grid.width) (cell other : Cell) (inside : is_inside grid cell ≡ true) (there : is_inside grid other ≡ true) where
  by_indices : cell_cmp cell other ≡ cell_cmp (cell_at grid (index_of grid cell)) (cell_at grid (index_of grid other))
  by_indices = ap (λ c. cell_cmp c other) (sym (cell_at-index_of grid cell inside)) ∙ ap (cell_cmp (cell_at grid (index_of grid cell))) (sym (cell_at-index_of grid other there))

  comes_first : index_of grid cell < index_of grid other → cell_cmp cell other ≡ Less
  comes_first less = by_indices ∙ in_order_before grid (index_of grid cell) (index_of grid other) wide less

  comes_last : index_of grid other < index_of grid cell → cell_cmp cell other ≡ Greater
  comes_last less = by_indices ∙ in_order grid (index_of grid cell) (index_of grid other) wide less

  comes_there : index_of grid cell ≡ index_of grid other → cell_cmp cell other ≡ Equal
  comes_there same =
      let one : cell ≡ other = sym (cell_at-index_of grid cell inside) ∙ ap (cell_at grid) same ∙ cell_at-index_of grid other there in
      ap (cell_cmp cell) (sym one) ∙ same_order cell

module _ (grid : Grid) where
  -- ---- cells

  earlier : (kept : List Cell) (from before : ℕ) → before ≤ from → AreFrom grid from kept → AreFrom grid before kept
  earlier [] from before low are = tt
  earlier (cell ∷ kept) from before low are = (are.0, omega (arith, low, are.1), are.2)

  cells_filtered : (test : Cell → Bool) (kept : List Cell) (from : ℕ) → AreFrom grid from kept → AreFrom grid from (filter test kept)
  cells_filtered test [] from are = tt
  cells_filtered test (cell ∷ kept) from are = by_test (test cell) (filter test kept) (cells_filtered test kept (index_of grid cell + 1) are.2) where
    by_test : (b : Bool) (rest : List Cell) → AreFrom grid (index_of grid cell + 1) rest → AreFrom grid from (cond b (cell ∷ rest) rest)
    by_test true rest good = (are.0, are.1, good)
    by_test false rest good = earlier rest (index_of grid cell + 1) from (omega (arith, are.1)) good

  cells_inserted : (wide : 0 < grid.width) (cell : Cell) (kept : List Cell) (from : ℕ) → is_inside grid cell ≡ true → from ≤ index_of grid cell → AreFrom grid from kept → AreFrom grid from (insert_key cell_cmp kept cell)
  cells_inserted wide cell [] from inside low are = (inside, low, tt)
  cells_inserted wide cell (other ∷ kept) from inside low are =
      let P : Ordering → Type 0 = λ o. AreFrom grid from (match_ordering o (cell ∷ other ∷ kept) (other ∷ kept) (other ∷ insert_key cell_cmp kept cell)) in
      elim (cases_lt (index_of grid cell) (index_of grid other)) [
        | inl less ↦ subst P (sym (comes_first grid wide cell other inside are.0 less)) (inside, low, (are.0, omega (arith, less), are.2))
        | inr most ↦ elim (cases_lt (index_of grid other) (index_of grid cell)) [
          | inl more ↦ subst P (sym (comes_last grid wide cell other inside are.0 more)) (are.0, are.1, cells_inserted wide cell kept (index_of grid other + 1) inside (omega (arith, more)) are.2)
          | inr least ↦ subst P (sym (comes_there grid wide cell other inside are.0 (omega (arith, most, least)))) are
        ]
      ]

  pub circle_kept : (wide : 0 < grid.width) (cell : Cell) (kept : List Cell) (b : Bool) → is_inside grid cell ≡ true → AreFrom grid 0 kept → AreFrom grid 0 (with_circle kept cell b)
  circle_kept wide cell kept true inside are = cells_inserted wide cell kept 0 inside (omega arith) are
  circle_kept wide cell kept false inside are = cells_filtered _ kept 0 are

  -- ---- texts

  texts_earlier : (texts : Texts) (from before : ℕ) → before ≤ from → AreTextsFrom grid from texts → AreTextsFrom grid before texts
  texts_earlier [] from before low are = tt
  texts_earlier (entry ∷ texts) from before low are = (are.0, omega (arith, low, are.1), are.2, are.3, are.4)

  texts_filtered : (test : Cell × List ℕ → Bool) (texts : Texts) (from : ℕ) → AreTextsFrom grid from texts → AreTextsFrom grid from (filter test texts)
  texts_filtered test [] from are = tt
  texts_filtered test (entry ∷ texts) from are = by_test (test entry) (filter test texts) (texts_filtered test texts (index_of grid entry.0 + 1) are.4) where
    by_test : (b : Bool) (rest : Texts) → AreTextsFrom grid (index_of grid entry.0 + 1) rest → AreTextsFrom grid from (cond b (entry ∷ rest) rest)
    by_test true rest good = (are.0, are.1, are.2, are.3, good)
    by_test false rest good = texts_earlier rest (index_of grid entry.0 + 1) from (omega (arith, are.1)) good

  texts_inserted : (wide : 0 < grid.width) (cell : Cell) (text : List ℕ) (texts : Texts) (from : ℕ) → is_inside grid cell ≡ true → from ≤ index_of grid cell → 0 < length text → has_nul text ≡ false
      → AreTextsFrom grid from texts → AreTextsFrom grid from (insert_entry cell_cmp texts cell text)
  texts_inserted wide cell text [] from inside low some plain are = (inside, low, some, plain, tt)
  texts_inserted wide cell text (entry ∷ texts) from inside low some plain are =
      let P : Ordering → Type 0 = λ o. AreTextsFrom grid from (match_ordering o ((cell, text) ∷ entry ∷ texts) ((entry.0, text) ∷ texts) (entry ∷ insert_entry cell_cmp texts cell text)) in
      elim (cases_lt (index_of grid cell) (index_of grid entry.0)) [
        | inl less ↦ subst P (sym (comes_first grid wide cell entry.0 inside are.0 less)) (inside, low, some, plain, (are.0, omega (arith, less), are.2, are.3, are.4))
        | inr most ↦ elim (cases_lt (index_of grid entry.0) (index_of grid cell)) [
          | inl more ↦ subst P (sym (comes_last grid wide cell entry.0 inside are.0 more)) (are.0, are.1, are.2, are.3, texts_inserted wide cell text texts (index_of grid entry.0 + 1) inside (omega (arith, more)) some plain are.4)
          | inr least ↦ subst P (sym (comes_there grid wide cell entry.0 inside are.0 (omega (arith, most, least)))) (are.0, are.1, some, plain, are.4)
        ]
      ]

  text_kept : (wide : 0 < grid.width) (cell : Cell) (text : List ℕ) (texts : Texts) → is_inside grid cell ≡ true → has_nul text ≡ false → AreTextsFrom grid 0 texts → AreTextsFrom grid 0 (with_text texts cell text)
  text_kept wide cell [] texts inside plain are = texts_filtered _ texts 0 are
  text_kept wide cell (byte ∷ bytes) texts inside plain are = texts_inserted wide cell (byte ∷ bytes) texts 0 inside (omega arith) (omega arith) plain are

  pub clue_kept : (wide : 0 < grid.width) (clues : ClueMap) (cell : Cell) (way : Direction) (text : List ℕ) → is_inside grid cell ≡ true → has_nul text ≡ false
      → ((direction : Direction) → AreTextsFrom grid 0 (clues_of clues direction)) → (direction : Direction) → AreTextsFrom grid 0 (clues_of (with_clue clues cell way text) direction)
  clue_kept wide clues cell Across text inside plain are Across = text_kept wide cell text clues.across inside plain (are Across)
  clue_kept wide clues cell Across text inside plain are Down = are Down
  clue_kept wide clues cell Down text inside plain are Across = are Across
  clue_kept wide clues cell Down text inside plain are Down = text_kept wide cell text clues.down inside plain (are Down)

-- ---- another grid of the same size

module _ (grid next : Grid) (wide : next.width ≡ grid.width) (high : next.height ≡ grid.height) where
  inside_same : (cell : Cell) → is_inside next cell ≡ is_inside grid cell
  inside_same cell = ap (λ w. is_inside (record next { width = w }) cell) wide ∙ ap (λ h. is_inside (record next { width = grid.width; height = h }) cell) high

  index_same : (cell : Cell) → index_of next cell ≡ index_of grid cell
  index_same cell = ap (λ w. index_of (record next { width = w }) cell) wide

  pub cells_there : (kept : List Cell) (from : ℕ) → AreFrom grid from kept → AreFrom next from kept
  cells_there [] from are = tt
  cells_there (cell ∷ kept) from are =
      (inside_same cell ∙ are.0, omega (arith, index_same cell, are.1), subst (λ n. AreFrom next (n + 1) kept) (sym (index_same cell)) (cells_there kept (index_of grid cell + 1) are.2))

  pub texts_there : (texts : Texts) (from : ℕ) → AreTextsFrom grid from texts → AreTextsFrom next from texts
  texts_there [] from are = tt
  texts_there (entry ∷ texts) from are =
      (inside_same entry.0 ∙ are.0, omega (arith, index_same entry.0, are.1), are.2, are.3, subst (λ n. AreTextsFrom next (n + 1) texts) (sym (index_same entry.0)) (texts_there texts (index_of grid entry.0 + 1) are.4))
