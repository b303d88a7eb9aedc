-- The arrays of a net at rest have the right sizes.
use Rattle.std.proofs.Common.{◌≡◌, ℕ, ◌*◌, ◌<◌, List, length, sym, ◌∙◌, ap, subst, arith}
use Rattle.xw_bits.specs.Bits.{RowOfBits}
use Rattle.xw_words.specs.Dictionary.{Entry}
use Rattle.xw_grid.specs.Grid.{Grid}
use Rattle.xw_grid.specs.declared.lights.Light.{Light}
use Rattle.xw_grid.specs.Light.{lights_of}
use Rattle.xw_feas.specs.Board.{board_of, light_at}
use Rattle.xw_feas.proofs.BoardLemmas.{length-lights, length-open_cells}
use Rattle.xw_feas.proofs.FormedLemmas.{length-light_at}
use Rattle.xw_net.specs.declared.net.Net.{Net}
use Rattle.xw_net.specs.Room.{counts_of, size_at, HaveBits, HaveRoom}
use Rattle.xw_net.specs.Nets.{IsShaped, IsChained, HasBits}
use Rattle.xw_net.specs.Spread.{bits_in}
use Rattle.xw_net.specs.Worklist.{HasSeeds}
use Rattle.xw_net.specs.Brought.{HasBase}
use Rattle.xw_net.specs.Filled.{HasRowRoom}
use Rattle.xw_net.specs.Fit.{IsAtRest}
use Rattle.xw_net.proofs.Lists.ListsOfLights.{waiting-none}
use Rattle.xw_net.proofs.Nets.MovedNets.{row_bits}

module _ (grid : Grid) (lights : List Light) (cells : ℕ) (net : Net) (are : lights ≡ lights_of grid) (many : cells ≡ length grid.squares) (rest : IsAtRest lights cells net) where
  lights_long : length lights ≡ length (board_of grid).lights
  lights_long = ap length are ∙ sym (length-lights grid)

  cells_long : cells ≡ length (board_of grid).open_cells
  cells_long = many ∙ sym (length-open_cells grid)

  pub rest_shaped : IsShaped (board_of grid) net
  rest_shaped = record {
    few_cells = omega (arith, rest.few_cells, cells_long);
    rows = omega (arith, rest.rows, lights_long);
    entered = omega (arith, rest.entered, lights_long);
    letters = rest.letters ∙ cells_long;
    held = rest.held ∙ ap (λ n. 52 * n) cells_long;
    restart = rest.restart ∙ ap (λ n. 2 * n) cells_long;
    pending = rest.pending ∙ ap (λ n. 2 * n) cells_long;
    queue = omega (arith, rest.queued_long, lights_long);
  }

  pub rest_chained : IsChained (board_of grid) net
  rest_chained = record {
    base = omega (arith, rest.base, lights_long);
    chain = omega (arith, rest.marked_long, lights_long);
  }

  bits_here : (entries : ℕ → List Entry) (rows : List RowOfBits) → HaveBits lights (counts_of entries) rows → (light : ℕ) → light < length (board_of grid).lights → length (bits_in rows light) ≡ length (entries (length (light_at (board_of grid) light)))
  bits_here entries rows have light in_board =
      let lt : light < length lights = omega (arith, in_board, lights_long) in
      let lt' : light < length (lights_of grid) = subst (λ ls. light < length ls) are lt in
      ap length (row_bits rows light) ∙ have light lt ∙ ap (λ ls. length (entries (size_at ls light))) are ∙ ap (λ n. length (entries n)) (sym (length-light_at grid light lt'))

  pub rest_room : (entries : ℕ → List Entry) (rows : List RowOfBits) → HaveRoom lights (counts_of entries) rows → HasRowRoom (board_of grid) entries rows
  rest_room entries rows have light in_board =
      let lt : light < length lights = omega (arith, in_board, lights_long) in
      let lt' : light < length (lights_of grid) = subst (λ ls. light < length ls) are lt in
      omega (arith, have light lt, ap (λ ls. length (entries (size_at ls light))) are, ap (λ n. length (entries n)) (length-light_at grid light lt'))

  pub rest_bits : (entries : ℕ → List Entry) → HaveBits lights (counts_of entries) net.rows.items → HasBits (board_of grid) entries net
  rest_bits entries have = bits_here entries net.rows.items have

  pub rest_base : (entries : ℕ → List Entry) → HaveBits lights (counts_of entries) net.base.items → HasBase (board_of grid) entries net.base.items
  rest_base entries have = record { rows = omega (arith, rest.base, lights_long); bits = bits_here entries net.base.items have }

  pub rest_queued : HasSeeds net.queue
  rest_queued light = rest.is_queued light ∙ sym (waiting-none net.queue.lights light rest.queue)

  pub rest_marked : HasSeeds net.chain
  rest_marked light = rest.is_marked light ∙ sym (waiting-none net.chain.lights light rest.taken)
