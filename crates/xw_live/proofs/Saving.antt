-- Saved states of an engine.
use Rattle.std.proofs.Common.{◌≡◌, ℕ, ◌<◌, eqb, List, length, get_or, count_by, sym, ◌∙◌, ap, subst, arith}
use Rattle.std.specs.Prelude.{false, is_some}
use Rattle.std.proofs.Math.Logic.{∥∥₁_elim}
use mathlib.Core.Logic.{∥∥₁_prop}
use Rattle.xw_words.specs.Dictionary.{Dictionary}
use Rattle.xw_grid.specs.declared.lights.Light.{Light}
use Rattle.xw_grid.specs.Grid.{Grid}
use Rattle.xw_grid.specs.Light.{lights_of}
use Rattle.xw_feas.specs.Board.{board_of}
use Rattle.xw_feas.specs.Queries.{tally_of}
use Rattle.xw_feas.specs.Snapshot.{CanSave}
use Rattle.xw_feas.specs.State.{State}
use Rattle.xw_feas.specs.WellFormed.{IsWellFormed}
use Rattle.xw_feas.proofs.AnswersLemmas.{rows_at}
use Rattle.xw_feas.proofs.BoardLemmas.{length-lights}
use Rattle.xw_feas.proofs.SnapshotLemmas.{saved_counts}
use Rattle.xw_net.specs.declared.net.Net.{Net}
use Rattle.xw_net.specs.Copy.{IsReusable, CanCopy, IsCopy}
use Rattle.xw_net.specs.Net.{flags_of, sets_of, known_counts}
use Rattle.xw_net.specs.Tally.{net_tally}
use Rattle.xw_net.proofs.Nets.CopiedNets.{settled_reusable}
use Rattle.xw_live.specs.Engine.{IsKept, net_answers}
use Rattle.xw_live.proofs.Keeping.{kept_from, kept_cells}

-- a copy of a kept net is kept
pub kept_copy : (state : State) (net new : Net) (lights : List Light) → lights ≡ lights_of state.grid → IsCopy lights net new → is_some new.spare ≡ false → IsKept state net → IsKept state new
kept_copy state net new lights are copy none_waits kept =
    kept_from state new (∥∥₁_elim kept.settled ∥∥₁_prop (λ settled. ∣ copy.settled state (sym are) settled ∣₁)) none_waits

-- the same fact for an equal dictionary
pub kept_same : (grid : Grid) (net : Net) {words other : Dictionary} → words ≡ other → IsKept (record { grid = grid; words = words }) net → IsKept (record { grid = grid; words = other }) net
kept_same grid net same kept = subst (λ (words : Dictionary). IsKept (record { grid = grid; words = words }) net) same kept

-- the same fact for an equal grid and an equal net
pub kept_moved : {grid other : Grid} {net kept_net : Net} {words : Dictionary} → other ≡ grid → kept_net ≡ net → IsKept (record { grid = grid; words = words }) net → IsKept (record { grid = other; words = words }) kept_net
kept_moved {grid} {other} {net} {kept_net} {words} same same_net kept =
    subst (λ (grid : Grid). IsKept (record { grid = grid; words = words }) kept_net) (sym same) (subst (λ (net : Net). IsKept (record { grid = grid; words = words }) net) (sym same_net) kept)

-- an equal state is well formed
pub formed_moved : {grid other : Grid} {words others : Dictionary} → other ≡ grid → words ≡ others → IsWellFormed (record { grid = grid; words = words }) → IsWellFormed (record { grid = other; words = others })
formed_moved same_grid same_words formed = subst IsWellFormed (λ i. record { grid = sym same_grid i; words = same_words i }) formed

module _ (saved state : State) (can : CanSave saved state) (net kept_net : Net) (kept : IsKept state net) (saved_kept : IsKept saved kept_net) where
  -- a net can be copied into one for a state with the same shape
  pub can_copy : (lights : List Light) → lights ≡ lights_of state.grid → CanCopy lights net kept_net
  can_copy lights are = record {
    counts = known_counts state.words;
    cells = length state.grid.squares;
    from = subst (λ ls. IsReusable ls (known_counts state.words) (length state.grid.squares) net) (sym are) (settled_reusable state net kept.settled);
    to = subst (λ ls. IsReusable ls (known_counts state.words) (length state.grid.squares) kept_net) (sym (are ∙ can.shape.lights))
        (subst (λ counts. IsReusable (lights_of saved.grid) counts (length state.grid.squares) kept_net) (λ i len. sym (saved_counts saved state can len) i)
        (subst (λ cells. IsReusable (lights_of saved.grid) (known_counts saved.words) cells kept_net) (sym can.shape.cells) (settled_reusable saved kept_net saved_kept.settled)));
  }

  -- both nets have as many cells
  pub same_sets : length (sets_of net) ≡ length (sets_of kept_net)
  same_sets = kept_cells state net kept ∙ can.shape.cells ∙ sym (kept_cells saved kept_net saved_kept)

-- the tally of a net is that of its answers
pub tally_is : (state : State) (net : Net) (light position letter : ℕ) → light < length (lights_of state.grid) → net_tally state net light position letter ≡ tally_of (net_answers state net) light position letter
tally_is state net light position letter below =
    ap (λ (words : List (List ℕ)). count_by (λ word. eqb (get_or word position 0) letter) words)
    (sym (rows_at (board_of state.grid) state.words (flags_of (lights_of state.grid) net) (sets_of net) light (omega (arith, below, length-lights state.grid))))
