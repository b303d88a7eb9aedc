-- A light of a settled net has no word in it exactly if it has no feasible word.
use Rattle.std.proofs.Common.{ℕ, ◌<◌, List, length}
use Rattle.std.proofs.Math.Logic.{∥∥₁_elim}
use Rattle.std.proofs.lemmas.Bool.{false_from_ne_true}
use mathlib.Core.HLevel.{⊥_prop}
use Rattle.xw_feas.specs.Board.{board_of}
use Rattle.xw_feas.specs.Choices.{choice_at}
use Rattle.xw_feas.specs.Feasible.{IsFeasibleWord}
use Rattle.xw_feas.specs.State.{State}
use Rattle.xw_net.specs.Net.{IsSettledFor}
use Rattle.xw_net.specs.Nets.{word_stands, letter_stands}
use Rattle.xw_net.specs.Steps.{IsEmptied}
use Rattle.xw_net.specs.declared.net.Net.{Net}
use Rattle.xw_net.proofs.Edits.ExactFamilies.{exact_covers}
use Rattle.xw_net.proofs.Stripping.DeadLights.{covered_dead}

module _ (state : State) (net : Net) (light : ℕ) (settled : ∥ IsSettledFor state net ∥₁) where
  pub emptied_dead : IsEmptied net light → (word : List ℕ) → ¬ IsFeasibleWord (board_of state.grid) state.words light word
  emptied_dead emptied word feasible = ∥∥₁_elim settled ⊥_prop (λ settled.
      covered_dead (board_of state.grid) state.words (word_stands net) (letter_stands net) light
      (exact_covers (board_of state.grid) state.words (word_stands net) (letter_stands net) settled.filled.exact) emptied word feasible)

  pub dead_emptied : light < length (board_of state.grid).lights → ((word : List ℕ) → ¬ IsFeasibleWord (board_of state.grid) state.words light word) → IsEmptied net light
  dead_emptied in_board dead choice = false_from_ne_true (word_stands net light choice) (λ stands. ∥∥₁_elim settled ⊥_prop (λ settled.
      dead (choice_at (board_of state.grid) state.words light choice) ((settled.filled.exact.words light choice in_board).0 stands).1))
