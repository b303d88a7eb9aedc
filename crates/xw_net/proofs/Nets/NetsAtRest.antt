-- A settled net is at rest, and meets the requirements of the next update.
use Rattle.std.proofs.Common.{◌≡◌, ℕ, ◌+◌, ◌<◌, ◌≤◌, false, List, length, refl, sym, ap, ◌∙◌, subst, arith}
use Rattle.std.specs.Prelude.{Option, vec_len}
use Rattle.std.specs.Coded.{Coded-set, coded_ℕ, coded_list, le_prop}
use Rattle.std.proofs.Math.Logic.{∥∥₁_elim}
use mathlib.Core.HLevel.{Π_prop, ×_prop}
use mathlib.Core.Bool.{Bool-set}
use Rattle.xw_bits.specs.Bits.{RowOfBits}
use Rattle.xw_words.specs.Dictionary.{Dictionary, known_words}
use Rattle.xw_grid.specs.declared.lights.Light.{Light}
use Rattle.xw_grid.specs.Grid.{Grid}
use Rattle.xw_grid.specs.Light.{lights_of}
use Rattle.xw_feas.specs.Board.{board_of, light_at}
use Rattle.xw_feas.proofs.BoardLemmas.{length-lights}
use Rattle.xw_feas.proofs.FormedLemmas.{length-light_at}
use Rattle.xw_net.specs.Nets.{queued_in}
use Rattle.xw_net.specs.Spread.{bits_in}
use Rattle.xw_net.specs.Worklist.{is_marked}
use Rattle.xw_net.specs.Room.{size_at, row_at}
use Rattle.xw_net.specs.Filled.{IsWholeNet, IsQuiet, IsFilled}
use Rattle.xw_net.specs.Fit.{lacking, AreNear, IsAtRest}
use Rattle.xw_net.specs.Net.{known_counts, StoodFor, IsSettledFor}
use Rattle.xw_net.specs.declared.net.Net.{Net}
use Rattle.xw_net.proofs.Nets.RowRoom.{bits_are}

module _ (grid : Grid) (dictionary : Dictionary) (net : Net) (whole : IsWholeNet (board_of grid) (known_words dictionary) net) (quiet : IsQuiet net) where
  pub whole_rest : IsAtRest (lights_of grid) (vec_len net.letters) net
  unfolding queued_in is_marked
  whole_rest =
      let shaped = whole.shaped in
      let chained = whole.chained in
      record {
        few_cells = omega (arith, shaped.few_cells, shaped.letters);
        rows = omega (arith, shaped.rows, length-lights grid);
        base = omega (arith, chained.base, length-lights grid);
        entered = omega (arith, shaped.entered, length-lights grid);
        letters = refl;
        held = omega (arith, shaped.held, shaped.letters);
        restart = omega (arith, shaped.restart, shaped.letters);
        pending = omega (arith, shaped.pending, shaped.letters);
        queue = quiet.queue;
        queued_long = omega (arith, shaped.queue, length-lights grid);
        is_queued = quiet.queued;
        taken = quiet.taken;
        marked_long = omega (arith, chained.chain, length-lights grid);
        is_marked = quiet.marked;
      }

module _ (grid : Grid) (dictionary : Dictionary) (net : Net) (filled : IsFilled (board_of grid) dictionary net) where
  pub filled_rest : IsAtRest (lights_of grid) (vec_len net.letters) net
  filled_rest = whole_rest grid dictionary net filled.whole filled.quiet

  -- if at most the changed word is new, a row that was complete lacks at most its bit
  near : (counts : ℕ → ℕ) (word : Option (ℕ × ℕ)) → ((len : ℕ) → (known_counts dictionary len ≤ counts len) × (counts len ≤ known_counts dictionary len + lacking word len)) → (rows : List RowOfBits)
      → ((light : ℕ) → light < length (board_of grid).lights → length (bits_in rows light) ≡ length (known_words dictionary (length (light_at (board_of grid) light)))) → AreNear (lights_of grid) counts word rows
  near counts word grown rows bits light lt =
      let size = length-light_at grid light lt in
      let long : length (row_at rows light).bits ≡ known_counts dictionary (size_at (lights_of grid) light) =
      ap length (sym (bits_are rows light)) ∙ bits light (omega (arith, lt, length-lights grid)) ∙ ap (known_counts dictionary) size in
      let is = grown (size_at (lights_of grid) light) in
      (omega (arith, long, is.0), omega (arith, long, is.1))

  pub filled_near : (counts : ℕ → ℕ) (word : Option (ℕ × ℕ)) → ((len : ℕ) → (known_counts dictionary len ≤ counts len) × (counts len ≤ known_counts dictionary len + lacking word len)) → AreNear (lights_of grid) counts word net.rows.items × AreNear (lights_of grid) counts word net.base.items
  filled_near counts word grown = (near counts word grown net.rows.items filled.whole.bits, near counts word grown net.base.items filled.whole.base.bits)

-- ---- uniqueness of the proof

pub rest_prop : (lights : List Light) (cells : ℕ) (net : Net) → IsProp (IsAtRest lights cells net)
rest_prop lights cells net x y = λ i. record {
  few_cells = le_prop x.few_cells y.few_cells i;
  rows = le_prop x.rows y.rows i;
  base = le_prop x.base y.base i;
  entered = le_prop x.entered y.entered i;
  letters = Coded-set coded_ℕ _ _ x.letters y.letters i;
  held = Coded-set coded_ℕ _ _ x.held y.held i;
  restart = Coded-set coded_ℕ _ _ x.restart y.restart i;
  pending = Coded-set coded_ℕ _ _ x.pending y.pending i;
  queue = Coded-set (coded_list coded_ℕ) _ _ x.queue y.queue i;
  queued_long = Coded-set coded_ℕ _ _ x.queued_long y.queued_long i;
  is_queued = Π_prop (λ light. Bool-set (is_marked net.queue.marks light) false) x.is_queued y.is_queued i;
  taken = Coded-set (coded_list coded_ℕ) _ _ x.taken y.taken i;
  marked_long = Coded-set coded_ℕ _ _ x.marked_long y.marked_long i;
  is_marked = Π_prop (λ light. Bool-set (is_marked net.chain.marks light) false) x.is_marked y.is_marked i;
}

near_prop : (lights : List Light) (counts : ℕ → ℕ) (word : Option (ℕ × ℕ)) (rows : List RowOfBits) → IsProp (AreNear lights counts word rows)
near_prop lights counts word rows = Π_prop (λ light. Π_prop (λ lt. ×_prop le_prop le_prop))

module _ (lights : List Light) (word : Option (ℕ × ℕ)) (counts : ℕ → ℕ) (net : Net) (stood : StoodFor lights word counts net) where
  pub stood_rest : IsAtRest lights (vec_len net.letters) net
  stood_rest =
      let state = stood.stands.state in
      ∥∥₁_elim stood.stands.settled (rest_prop lights (vec_len net.letters) net)
      (λ settled. subst (λ ls. IsAtRest ls (vec_len net.letters) net) stood.stands.are_lights (filled_rest stood.stands.state.grid stood.stands.state.words net settled.filled))

  near_rows : IsSettledFor stood.stands.state net → AreNear lights counts word net.rows.items × AreNear lights counts word net.base.items
  near_rows settled =
      subst (λ ls. AreNear ls counts word net.rows.items × AreNear ls counts word net.base.items) stood.stands.are_lights (filled_near stood.stands.state.grid stood.stands.state.words net settled.filled counts word stood.near)

  pub stood_rows : AreNear lights counts word net.rows.items
  stood_rows = ∥∥₁_elim stood.stands.settled (near_prop lights counts word net.rows.items) (λ settled. (near_rows settled).0)

  pub stood_base : AreNear lights counts word net.base.items
  stood_base = ∥∥₁_elim stood.stands.settled (near_prop lights counts word net.base.items) (λ settled. (near_rows settled).1)
