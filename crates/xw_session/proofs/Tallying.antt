-- Feasible words counted by letter.
use Rattle.std.proofs.Common.{◌≡◌, ℕ, ◌<◌, true, length, refl, sym, ◌∙◌, ap, arith}
use Rattle.std.specs.Prelude.{Some, slice_get, slice_index, count_by, ◌==◌}
use Rattle.std.proofs.lemmas.Bool.{and_parts}
use Rattle.std.proofs.lemmas.List.Quantifiers.{position-Some}
use Rattle.std.proofs.lemmas.Option.{get_or_from_slice_get}
use Rattle.xw_grid.specs.declared.cell.Cell.{Cell}
use Rattle.xw_grid.specs.declared.cell.Direction.{Direction}
use Rattle.xw_grid.specs.declared.cell.Direction.TheVariants.{Across, Down}
use Rattle.xw_grid.specs.declared.lights.Light.{Light}
use Rattle.xw_grid.specs.Grid.{Grid}
use Rattle.xw_grid.specs.Light.{step, lights_of, no_light, same_direction, holds, passes, index_through}
use Rattle.xw_grid.proofs.LightTableLemmas.{held_step}
use Rattle.xw_feas.specs.Board.{board_of, light_at}
use Rattle.xw_feas.specs.Feasible.{Answers}
use Rattle.xw_feas.specs.Queries.{tally_of}
use Rattle.xw_feas.specs.State.{State}
use Rattle.xw_feas.proofs.FormedLemmas.{light_in, length-light_at}
use Rattle.xw_search.specs.Position.{position_of}
use Rattle.xw_search.proofs.FeasibleWordsLemmas.{answered_words}
use Rattle.xw_session.specs.Tally.{distance, start_of, words_with}
use Rattle.xw_session.proofs.Engine.{Knows}

-- ---- a cell of a light

same_ways : (a b : Direction) → same_direction a b ≡ true → a ≡ b
same_ways Across Across e = refl
same_ways Across Down e = cc
same_ways Down Across e = cc
same_ways Down Down e = refl

distance_steps : (direction : Direction) (first : Cell) (k : ℕ) → distance direction first (step direction first k) ≡ k
distance_steps Across first k = omega arith
distance_steps Down first k = omega arith

module _ (grid : Grid) (direction : Direction) (cell : Cell) (light : ℕ) (found : index_through (lights_of grid) direction cell ≡ Some light) where
  -- the light through a cell is a light of the grid
  pub light_there : light < length (lights_of grid)
  light_there = (position-Some (passes direction cell) (lights_of grid) light no_light found).0

  -- the cell is one of its cells
  pub cell_there : distance direction (start_of grid light) cell < length (light_at (board_of grid) light)
  cell_there =
      let at = position-Some (passes direction cell) (lights_of grid) light no_light found in
      let one = light_in grid light in
      let both = and_parts (same_direction one.name.direction direction) (holds one cell) at.1 in
      let way = same_ways one.name.direction direction both.0 in
      let stands = held_step one.name.direction one.start one.size cell both.1 in
      let far : distance direction one.start cell ≡ stands.0 =
      ap (distance direction one.start) stands.2 ∙ ap (λ (d : Direction). distance direction one.start (step d one.start stands.0)) way ∙ distance_steps direction one.start stands.0 in
      omega (arith, far, stands.1, length-light_at grid light at.0)

pub start_found : (grid : Grid) (light : ℕ) (found : Light) → slice_get (lights_of grid) light ≡ Some found → found.start ≡ start_of grid light
start_found grid light found is = ap (λ (l : Light). l.start) (sym (get_or_from_slice_get (lights_of grid) light found no_light is))

-- an engine counts the feasible words
pub words_counted : (engine : State) (answers : Answers) (direction : Direction) (cell : Cell) (letter light : ℕ) → Knows engine answers
    → tally_of answers light (distance direction (start_of engine.grid light) cell) letter ≡ words_with engine direction cell letter light
words_counted engine answers direction cell letter light exact =
    ap (count_by (λ word. slice_index word (distance direction (start_of engine.grid light) cell) == letter)) (answered_words (position_of engine) answers exact light)
