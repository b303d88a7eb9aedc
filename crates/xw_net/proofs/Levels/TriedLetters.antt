-- A net in which a search tries letters: its sizes, and what it is after they were entered.
use Rattle.std.proofs.Common.{◌≡◌, ℕ, false, List, sym, ap, subst}
use Rattle.std.specs.Prelude.{Option}
use Rattle.std.specs.Coded.{Coded-set, coded_ℕ, coded_list, le_prop}
use Rattle.std.proofs.Math.Logic.{∥∥₁_elim, ∥∥₁_map}
use mathlib.Core.HLevel.{Π_prop, ⊥_prop}
use mathlib.Core.Bool.{Bool-set}
use Rattle.xw_words.specs.Dictionary.{Dictionary, Entry, known_words}
use Rattle.xw_grid.specs.declared.cell.Cell.{Cell}
use Rattle.xw_grid.specs.Grid.{Grid}
use Rattle.xw_feas.specs.Board.{Board, board_of}
use Rattle.xw_feas.specs.Feasible.{IsFeasibleWord}
use Rattle.xw_net.specs.Entered.{FillsEntered, DiesEntered, IsEntered, IsTriedOn}
use Rattle.xw_net.specs.Filled.{IsFilled, IsQuiet}
use Rattle.xw_net.specs.Marks.{IsSetting}
use Rattle.xw_net.specs.Net.{IsSettledFor}
use Rattle.xw_net.specs.Nets.{queued_in}
use Rattle.xw_net.specs.Room.{IsRoomier}
use Rattle.xw_net.specs.Update.{IsSized, state_of}
use Rattle.xw_net.specs.Worklist.{is_marked}
use Rattle.xw_net.specs.declared.net.Net.{Net}
use Rattle.xw_net.proofs.Nets.NetsAlike.{roomier_filled}
use Rattle.xw_net.proofs.Nets.SettledNets.{filled_settled}
use Rattle.xw_net.proofs.Nets.SlotsApart.{setting_of}

-- there is one proof that the sizes are right
sized_prop : (board : Board) (entries : ℕ → List Entry) (net : Net) → IsProp (IsSized board entries net)
sized_prop board entries net x y = λ i. record {
  shaped = record {
    few_cells = le_prop x.shaped.few_cells y.shaped.few_cells i;
    rows = le_prop x.shaped.rows y.shaped.rows i;
    entered = le_prop x.shaped.entered y.shaped.entered i;
    letters = Coded-set coded_ℕ _ _ x.shaped.letters y.shaped.letters i;
    held = Coded-set coded_ℕ _ _ x.shaped.held y.shaped.held i;
    restart = Coded-set coded_ℕ _ _ x.shaped.restart y.shaped.restart i;
    pending = Coded-set coded_ℕ _ _ x.shaped.pending y.shaped.pending i;
    queue = Coded-set coded_ℕ _ _ x.shaped.queue y.shaped.queue i;
  };
  chained = record { base = le_prop x.chained.base y.chained.base i; chain = Coded-set coded_ℕ _ _ x.chained.chain y.chained.chain i };
  bits = Π_prop (λ light. Π_prop (λ lt. Coded-set coded_ℕ _ _)) x.bits y.bits i;
  base = record {
    rows = le_prop x.base.rows y.base.rows i;
    bits = Π_prop (λ light. Π_prop (λ lt. Coded-set coded_ℕ _ _)) x.base.bits y.base.bits i;
  };
}

quiet_prop : (net : Net) → IsProp (IsQuiet net)
quiet_prop net x y = λ i. record {
  queue = Coded-set (coded_list coded_ℕ) _ _ x.queue y.queue i;
  queued = Π_prop (λ light. Bool-set (queued_in net light) false) x.queued y.queued i;
  taken = Coded-set (coded_list coded_ℕ) _ _ x.taken y.taken i;
  marked = Π_prop (λ light. Bool-set (is_marked net.chain.marks light) false) x.marked y.marked i;
}

-- a filled net has the sizes for a board with other entries
filled_sized : (board : Board) (dictionary : Dictionary) (net : Net) (entries : List (Option ℕ)) → IsFilled board dictionary net → IsSized (record board { entries = entries }) (known_words dictionary) net
filled_sized board dictionary net entries filled =
    let shaped = filled.whole.shaped in
    record {
      shaped = record {
        few_cells = shaped.few_cells;
        rows = shaped.rows;
        entered = shaped.entered;
        letters = shaped.letters;
        held = shaped.held;
        restart = shaped.restart;
        pending = shaped.pending;
        queue = shaped.queue;
      };
      chained = record { base = filled.whole.chained.base; chain = filled.whole.chained.chain };
      bits = filled.whole.bits;
      base = record { rows = filled.whole.base.rows; bits = filled.whole.base.bits };
    }

module _ (grid : Grid) (dictionary : Dictionary) (written : List (Cell × Option ℕ)) (net : Net) (tried : IsTriedOn (state_of grid dictionary) written net)
    (board : Board) (words : Dictionary) (is_board : board ≡ board_of grid) (are_words : words ≡ dictionary) where
  pub tried_sized : IsSized board (known_words words) net
  tried_sized =
      subst (λ w. IsSized board (known_words w) net) (sym are_words)
      (subst (λ b. IsSized b (known_words dictionary) net) (sym is_board)
      (subst (λ b. IsSized b (known_words dictionary) net) (sym tried.entered.entries_only)
      (subst (λ w. IsSized (record (board_of tried.before.grid) { entries = (board_of grid).entries }) (known_words w) net) (sym tried.words)
      (∥∥₁_elim tried.settled (sized_prop _ _ net) (λ settled. filled_sized (board_of tried.before.grid) tried.before.words net (board_of grid).entries settled.filled)))))

  pub tried_quiet : IsQuiet net
  tried_quiet = ∥∥₁_elim tried.settled (quiet_prop net) (λ settled. settled.filled.quiet)

  setting : IsSetting board (known_words words) dictionary
  setting = setting_of (state_of grid dictionary) board (known_words words) is_board (λ len. ap (λ w. known_words w len) are_words) tried.formed

  entered : IsEntered (board_of tried.before.grid) dictionary grid written board
  entered = subst (λ b. IsEntered (board_of tried.before.grid) dictionary grid written b) (sym is_board) tried.entered

  was_filled : IsSettledFor tried.before net → IsFilled (board_of tried.before.grid) dictionary net
  was_filled settled = subst (λ w. IsFilled (board_of tried.before.grid) w net) (sym tried.words) settled.filled

  -- the net is settled once the letters were entered and it was stripped
  pub tried_settled : (placed new : Net) → FillsEntered grid board (known_words words) written net placed → IsRoomier placed new → ∥ IsSettledFor (state_of grid dictionary) new ∥₁
  tried_settled placed new fills more = ∥∥₁_map tried.settled (λ settled.
      filled_settled grid dictionary new (roomier_filled placed new more (board_of grid) dictionary
      (subst (λ b. IsFilled b dictionary placed) is_board (fills (board_of tried.before.grid) dictionary setting entered (was_filled settled)))))

  -- a light that died has no feasible word
  pub tried_dies : (light : ℕ) → DiesEntered grid board (known_words words) written net light → (word : List ℕ) → ¬ IsFeasibleWord (board_of grid) dictionary light word
  tried_dies light dies word feasible = ∥∥₁_elim tried.settled ⊥_prop (λ settled.
      dies (board_of tried.before.grid) dictionary setting entered (was_filled settled) word (subst (λ b. IsFeasibleWord b dictionary light word) (sym is_board) feasible))
