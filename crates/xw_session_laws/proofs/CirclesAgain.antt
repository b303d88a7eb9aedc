-- The circle commands of a record, in reading order.
use Rattle.std.proofs.Common.{◌≡◌, ℕ, ◌+◌, ◌*◌, ◌/◌, ◌%◌, ◌<◌, ◌≤◌, Bool, true, false, not, ◌||◌, List, [], ◌∷◌, ◌++◌, length, take, get_or, filter, Some, None, refl, sym, ◌∙◌, ap, inl, inr, append-nil, arith}
use Rattle.std.specs.Prelude.{Err, if◌then◌else◌, All}
use Rattle.std.specs.declared.cmp.Ordering.TheVariants.{Equal, Greater}
use Rattle.std.specs.Ordering.{nat_cmp, is_eq, ordering_then, match_ordering}
use Rattle.std.specs.Cmp.{nat_cmp_is}
use Rattle.std.specs.BTreeSet.{insert_key}
use Rattle.std.proofs.Math.Nat.{div-add-mod}
use Rattle.std.proofs.lemmas.Bool.{cases_lt}
use Rattle.std.proofs.lemmas.Nat.{mod_below, mul-le}
use Rattle.std.proofs.lemmas.List.{get_or-take, get_or-replicate, length-take, length-replicate}
use Rattle.std.proofs.lemmas.List.FromFn.{get_or-map-range_with_len}
use Rattle.std.proofs.lemmas.List.Elements.{All-tail, All-from_get_or, All-filter, filter-append}
use Rattle.xw_grid.specs.declared.cell.Cell.{Cell}
use Rattle.xw_grid.specs.declared.cell.Square.TheVariants.{Block, Open}
use Rattle.xw_grid.specs.declared.fault.GridFault.TheVariants.{OutOfGrid, OnBlock}
use Rattle.xw_grid.specs.Grid.{Grid, IsGrid, is_inside, is_open, is_open_square, cell_at, cells, cell_cmp}
use Rattle.xw_grid.specs.Edit.{blank}
use Rattle.xw_grid.specs.Clue.{ClueMap, is_circled, with_circle}
use Rattle.xw_grid.proofs.ClueLemmas.{same_at}
use Rattle.xw_grid.proofs.GridLemmas.{cell_at-inside, take-cells, all-cells}
use Rattle.xw_commands.specs.declared.change.Change.TheVariants as changes
use Rattle.xw_answers.specs.declared.record.Part.TheVariants.{Circles}
use Rattle.xw_answers.specs.declared.refusal.CommandRefusal.TheVariants as refusals
use Rattle.xw_feas.specs.declared.edit.Refusal.TheVariants as edits
use Rattle.xw_session.specs.State.{SessionState}
use Rattle.xw_session.specs.Reply.{edited}
use Rattle.xw_answers.specs.Record.{spot_of, cell_commands, part_commands}
use Rattle.xw_session_laws.specs.Replay.{state_left, replayed, with_grid}
use Rattle.xw_session_laws.proofs.Replaying.{next_done}
use Rattle.xw_session_laws.proofs.CellsAgain.{each_cell_again, square_is}

-- ---- reading order

after_row : (row other col way : ℕ) → other < row → ordering_then (nat_cmp row other) (nat_cmp col way) ≡ Greater
after_row row other col way less = ap (λ o. ordering_then o (nat_cmp col way)) (sym (nat_cmp_is row other Greater less))

after_col : (row other col way : ℕ) → row ≡ other → way < col → ordering_then (nat_cmp row other) (nat_cmp col way) ≡ Greater
after_col row other col way same less =
    ap (λ o. ordering_then o (nat_cmp col way)) (sym (nat_cmp_is row other Equal same)) ∙ sym (nat_cmp_is col way Greater less)

-- a cell comes after those with lower indices
pub in_order : (grid : Grid) (k i : ℕ) → 0 < grid.width → i < k → cell_cmp (cell_at grid k) (cell_at grid i) ≡ Greater
in_order grid k i wide less =
    let w = grid.width in
    let here = div-add-mod k w in
    let there = div-add-mod i w in
    let small : k % w < w = mod_below k w wide in
    let low : i % w < w = mod_below i w wide in
    elim (cases_lt (i / w) (k / w)) [
      | inl rows ↦ after_row (k / w + 1) (i / w + 1) (k % w + 1) (i % w + 1) (omega (arith, rows))
      | inr most ↦ elim (cases_lt (k / w) (i / w)) [
        | inl more ↦
            let far : w * (k / w + 1) ≤ w * (i / w) = mul-le w (k / w + 1) w (i / w) (omega arith) (omega (arith, more)) in
            let parts : w * (k / w + 1) ≡ w * (k / w) + w = omega arith in
            absurd (omega (arith, far, parts, here, there, small, less))
        | inr least ↦
            let same : k / w ≡ i / w = omega (arith, most, least) in
            let rows : w * (k / w) ≡ w * (i / w) = ap (λ n. w * n) same in
            after_col (k / w + 1) (i / w + 1) (k % w + 1) (i % w + 1) (ap (λ n. n + 1) same) (omega (arith, rows, here, there, less))
      ]
    ]

-- ---- a set that grows at its end

inserted_last : (circles : List Cell) (cell : Cell) → All (λ other. cell_cmp cell other ≡ Greater) circles → insert_key cell_cmp circles cell ≡ circles ++ cell ∷ []
inserted_last [] cell after = refl
inserted_last (other ∷ circles) cell after =
    ap (λ o. match_ordering o (cell ∷ other ∷ circles) (other ∷ circles) (other ∷ insert_key cell_cmp circles cell)) (after 0 other (omega arith))
    ∙ ap (λ rest. other ∷ rest) (inserted_last circles cell (All-tail (λ other. cell_cmp cell other ≡ Greater) other circles after))

not_circled : (circles : List Cell) (cell : Cell) → All (λ other. cell_cmp cell other ≡ Greater) circles → is_circled circles cell ≡ false
not_circled [] cell after = refl
not_circled (other ∷ circles) cell after =
    ap (λ b. b || is_circled circles cell) (sym (same_at cell other) ∙ ap is_eq (after 0 other (omega arith)))
    ∙ not_circled circles cell (All-tail (λ other. cell_cmp cell other ≡ Greater) other circles after)

circled : (state : SessionState) (inside opened : Bool) (next : SessionState) → inside ≡ true → opened ≡ true
    → state_left (if not inside then Err (refusals.Engine (edits.Grid OutOfGrid)) else if not opened then Err (refusals.Engine (edits.Grid OnBlock)) else edited next) ≡ Some next
circled state true true next p q = refl
circled state true false next p q = cc
circled state false opened next p q = cc

module _ (state : SessionState) (grid : Grid) (is : IsGrid grid) (circles : List Cell) where
  abbrev some_cells : ℕ → List Cell
  some_cells k = filter (is_circled circles) (take k (cells grid))

  abbrev after_some : ℕ → SessionState
  after_some k = record (with_grid state (blank grid.width grid.height)) { circles = some_cells k }

  module _ (k : ℕ) (below : k < grid.width * grid.height) where
    abbrev here : Cell
    here = cell_at grid k

    comes_after : All (λ other. cell_cmp here other ≡ Greater) (some_cells k)
    comes_after =
        All-filter (is_circled circles) (λ other. cell_cmp here other ≡ Greater) (take k (cells grid))
        (All-from_get_or (λ other. cell_cmp here other ≡ Greater) (take k (cells grid)) here (λ i within.
        let before : i < k = omega (arith, within, length-take k (cells grid)) in
        let at : get_or (take k (cells grid)) i here ≡ cell_at grid i =
        get_or-take k (cells grid) i here before ∙ get_or-map-range_with_len (cell_at grid) 0 (grid.width * grid.height) i i here (omega (arith, before, below)) (omega arith) in
        ap (cell_cmp here) at ∙ in_order grid k i (omega (arith, is.wide)) before))

    -- the circled cells, with the next cell added if it is circled
    one_more : (b : Bool) → is_circled circles here ≡ b → some_cells (k + 1) ≡ some_cells k ++ (if b then here ∷ [] else [])
    one_more b e =
        ap (filter (is_circled circles)) (take-cells grid k below) ∙ filter-append (is_circled circles) (take k (cells grid)) (here ∷ [])
        ∙ ap (λ b. some_cells k ++ (if b then here ∷ [] else [])) e

    circle_step : (b : Bool) → is_circled circles here ≡ b → replayed (after_some k) (if b then changes.Circle (spot_of here) ∷ [] else []) ≡ Some (after_some (k + 1))
    circle_step false e = ap (λ cs. Some (record (with_grid state (blank grid.width grid.height)) { circles = cs })) (sym (one_more false e ∙ append-nil (some_cells k)))
    circle_step true e =
        let inside : is_inside grid here ≡ true = cell_at-inside grid k is below in
        let long : length (blank grid.width grid.height).squares ≡ grid.width * grid.height = length-replicate (grid.width * grid.height) (Open None) in
        let opened : is_open (blank grid.width grid.height) here ≡ true =
        ap is_open_square (square_is (blank grid.width grid.height) k inside (omega (arith, below, long)) ∙ ap Some (get_or-replicate (grid.width * grid.height) k (Open None) Block below)) in
        let made : with_circle (some_cells k) here (not (is_circled (some_cells k) here)) ≡ some_cells (k + 1) =
        ap (λ b. with_circle (some_cells k) here (not b)) (not_circled (some_cells k) here comes_after) ∙ inserted_last (some_cells k) here comes_after ∙ sym (one_more true e) in
        next_done (after_some k) (after_some (k + 1)) (changes.Circle (spot_of here)) []
        (circled state (is_inside grid here) (is_open (blank grid.width grid.height) here) (record (after_some k) { circles = with_circle (some_cells k) here (not (is_circled (some_cells k) here)) }) inside opened
        ∙ ap (λ cs. Some (record (with_grid state (blank grid.width grid.height)) { circles = cs })) made)

  pub circles_again : (clues : ClueMap) → replayed (record (with_grid state (blank grid.width grid.height)) { circles = [] }) (part_commands grid clues circles Circles)
      ≡ Some (record (with_grid state (blank grid.width grid.height)) { circles = filter (is_circled circles) (cells grid) })
  circles_again clues =
      each_cell_again grid (cell_commands grid clues circles Circles) after_some (λ k below. circle_step k below (is_circled circles (cell_at grid k)) refl)
      ∙ ap (λ cs. Some (record (with_grid state (blank grid.width grid.height)) { circles = filter (is_circled circles) cs })) (all-cells grid (grid.width * grid.height) (omega arith))
