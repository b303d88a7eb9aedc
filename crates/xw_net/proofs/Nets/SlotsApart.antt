-- In a grid, each slot belongs to at most one position of a light.
use Rattle.std.proofs.Common.{◌≡◌, ℕ, ◌+◌, ◌*◌, ◌<◌, ◌≤◌, true, false, cond, eqb, List, length, get_or, refl, sym, ap, ◌∙◌, subst, inl, inr, arith}
use Rattle.std.proofs.lemmas.Bool.{cases_eq, eq-eqb, ne_eqb}
use Rattle.xw_grid.specs.declared.cell.Direction.{Direction}
use Rattle.xw_grid.specs.declared.cell.Direction.TheVariants.{Across, Down}
use Rattle.xw_grid.specs.Grid.{Grid, is_inside, index_of}
use Rattle.xw_grid.specs.Light.{step, lights_of, no_light}
use Rattle.xw_grid.proofs.GridLemmas.{IsInside-is_inside}
use Rattle.xw_grid.proofs.LightLemmas.{size_of_light}
use Rattle.xw_grid.proofs.OrderLemmas.{lights_are_apart}
use Rattle.xw_feas.specs.Board.{board_of, light_at}
use Rattle.xw_feas.specs.Fits.{stride_of}
use Rattle.xw_feas.proofs.BoardLemmas.{first_step, index_of-step}
use Rattle.xw_feas.proofs.FormedLemmas.{light_in, length-light_at, within_lights, index_is, inside_at, same_cell_in, steps_apart}
use Rattle.xw_feas.specs.Board.{Board}
use Rattle.xw_feas.specs.State.{State}
use Rattle.xw_feas.specs.WellFormed.{IsWellFormed}
use Rattle.xw_net.specs.Change.{AreReadsOf}
use Rattle.xw_net.specs.Marks.{side_of, cell_at, AreSlotsApart, IsSetting}
use Rattle.xw_words.specs.Dictionary.{Entry}

abbrev towards : Grid → ℕ → Direction
towards grid light = (light_in grid light).name.direction

pub side_small : (cells : List ℕ) → side_of cells ≤ 1
side_small cells = elim (eqb (get_or cells 1 0) (get_or cells 0 0 + 1)) as (λ b. cond b 0 1 ≤ 1) [ true ↦ omega arith | false ↦ omega arith ]

module _ (grid : Grid) (light position : ℕ) (below : position < length (light_at (board_of grid) light)) where
  within : light < length (lights_of grid)
  within = within_lights grid light position below

  long : 2 ≤ length (light_at (board_of grid) light)
  long = omega (arith, size_of_light grid light no_light within, length-light_at grid light within)

  first_cell : get_or (light_at (board_of grid) light) 0 0 ≡ index_of grid (light_in grid light).start
  first_cell = index_is grid light 0 (omega (arith, long)) ∙ ap (index_of grid) (first_step (towards grid light) (light_in grid light).start)

  start_inside : is_inside grid (light_in grid light).start ≡ true
  start_inside = ap (is_inside grid) (sym (first_step (towards grid light) (light_in grid light).start)) ∙ inside_at grid light 0 (omega (arith, long))

  -- the second cell is one stride further on
  second_cell : get_or (light_at (board_of grid) light) 1 0 ≡ get_or (light_at (board_of grid) light) 0 0 + stride_of grid (towards grid light)
  second_cell =
      let e : 1 * stride_of grid (towards grid light) ≡ stride_of grid (towards grid light) = omega arith in
      omega (arith, index_is grid light 1 (omega (arith, long)), index_of-step grid (towards grid light) (light_in grid light).start 1 start_inside, first_cell, e)

  side_by : (stride : ℕ) → stride_of grid (towards grid light) ≡ stride → side_of (light_at (board_of grid) light) ≡ cond (eqb stride 1) 0 1
  side_by stride is =
      elim (cases_eq stride 1) [
        | inl e ↦
            ap (λ b. cond b 0 1) (eq-eqb (get_or (light_at (board_of grid) light) 1 0) (get_or (light_at (board_of grid) light) 0 0 + 1) (omega (arith, second_cell, is, e)))
            ∙ sym (ap (λ b. cond b 0 1) (eq-eqb stride 1 e))
        | inr n ↦
            ap (λ b. cond b 0 1) (ne_eqb (get_or (light_at (board_of grid) light) 1 0) (get_or (light_at (board_of grid) light) 0 0 + 1) (λ e. n (omega (arith, second_cell, is, e))))
            ∙ sym (ap (λ b. cond b 0 1) (ne_eqb stride 1 n))
      ]

  -- an across light needs two columns
  across_wide : towards grid light ≡ Across → 2 ≤ grid.width
  across_wide is =
      let next = subst (λ d. is_inside grid (step d (light_in grid light).start 1) ≡ true) is (inside_at grid light 1 (omega (arith, long))) in
      let here = IsInside-is_inside grid (light_in grid light).start start_inside in
      let there = IsInside-is_inside grid (step Across (light_in grid light).start 1) next in
      omega (arith, here.col_low, there.col_high)

  side_across : towards grid light ≡ Across → side_of (light_at (board_of grid) light) ≡ 0
  side_across is = side_by 1 (ap (stride_of grid) is)

  side_down : 2 ≤ grid.width → towards grid light ≡ Down → side_of (light_at (board_of grid) light) ≡ 1
  side_down wide is = side_by grid.width (ap (stride_of grid) is) ∙ ap (λ b. cond b 0 1) (ne_eqb grid.width 1 (λ e. omega (arith, wide, e)))

-- lights through a cell with the same side have the same direction
same_towards : (grid : Grid) (light position other other_position : ℕ) (below : position < length (light_at (board_of grid) light)) (below' : other_position < length (light_at (board_of grid) other))
    → side_of (light_at (board_of grid) light) ≡ side_of (light_at (board_of grid) other) → towards grid light ≡ towards grid other
same_towards grid light position other other_position below below' sides = by_directions (towards grid light) (towards grid other) refl refl where
  by_directions : (a b : Direction) → towards grid light ≡ a → towards grid other ≡ b → towards grid light ≡ towards grid other
  by_directions Across Across first second = first ∙ sym second
  by_directions Down Down first second = first ∙ sym second
  by_directions Across Down first second =
      absurd (omega (arith, sides, side_across grid light position below first, side_down grid other other_position below' (across_wide grid light position below first) second))
  by_directions Down Across first second =
      absurd (omega (arith, sides, side_across grid other other_position below' second, side_down grid light position below (across_wide grid other other_position below' second) first))

pub slots_apart : (grid : Grid) → AreSlotsApart (board_of grid)
slots_apart grid light position other other_position here there same =
    let board = board_of grid in
    let small = side_small (light_at board light) in
    let small' = side_small (light_at board other) in
    let cells : cell_at board light position ≡ cell_at board other other_position = omega (arith, same, small, small') in
    let sides : side_of (light_at board light) ≡ side_of (light_at board other) = omega (arith, same, cells) in
    let direction = same_towards grid light position other other_position here.1 there.1 sides in
    let within = within_lights grid light position here.1 in
    let within' = within_lights grid other other_position there.1 in
    let lights : light ≡ other = lights_are_apart grid light other no_light position other_position within within' direction
    (omega (arith, here.1, length-light_at grid light within)) (omega (arith, there.1, length-light_at grid other within')) (same_cell_in grid light other position other_position here.1 there.1 cells) in
    let position_there : other_position < length (light_at (board_of grid) light) = subst (λ n. other_position < length (light_at (board_of grid) n)) (sym lights) there.1 in
    let cells_here : get_or (light_at (board_of grid) light) position 0 ≡ get_or (light_at (board_of grid) light) other_position 0 = cells ∙ ap (λ n. cell_at board n other_position) (sym lights) in
    (lights, steps_apart (towards grid light) (light_in grid light).start position other_position (same_cell_in grid light light position other_position here.1 position_there cells_here))

-- the setting of a well-formed state
pub setting_of : (state : State) (board : Board) (entries : ℕ → List Entry) → board ≡ board_of state.grid → AreReadsOf entries state.words → IsWellFormed state → IsSetting board entries state.words
setting_of state board entries same read formed =
    subst (λ b. IsSetting b entries state.words) (sym same) (record { laid_out = formed.board; apart = slots_apart state.grid; words = formed.dictionary; read = read })
