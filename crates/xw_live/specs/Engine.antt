-- The invariant of the engine between edits.
use Rattle.std.specs.Prelude.{◌≡◌, false, is_some, length}
use Rattle.xw_grid.specs.Light.{lights_of}
use Rattle.xw_feas.specs.AnswersOf.{answers_of}
use Rattle.xw_feas.specs.Board.{board_of}
use Rattle.xw_feas.specs.Feasible.{Answers, AreAnswers}
use Rattle.xw_feas.specs.Single.{AreAnswers-prop}
use Rattle.xw_feas.specs.State.{State}
use Rattle.xw_feas.specs.Written.{Fields}
use Rattle.xw_feas.specs.declared.engine_state.EngineState.{EngineState}
use Rattle.xw_net.specs.declared.net.Net.{Net}
use Rattle.xw_net.specs.Fit.{HasRoomBetween}
use Rattle.xw_net.specs.Net.{flags_of, sets_of, known_counts, IsSettledFor, StoodFor}
use Rattle.xw_net.specs.Update.{AreInside}
use mathlib.Core.Logic.{∥∥₁_prop}
use mathlib.Core.Bool.{Bool-set}

-- the answers that a net holds
abbrev pub net_answers : State → Net → Answers
net_answers state net = answers_of (board_of state.grid) state.words (flags_of (lights_of state.grid) net) (sets_of net)

-- the net holds the answers for the grid and the dictionary, and has no spare arrays reserved for
-- an edit
pub record IsKept (state : State) (net : Net) : Type 0 where
  pub settled : ∥ IsSettledFor state net ∥₁
  pub none_waits : is_some net.spare ≡ false
  pub answers : AreAnswers (board_of state.grid) state.words (net_answers state net)

-- the invariant is a proposition (two proofs of it are equal), so a ghost field can hold it
pub IsKept-prop : (state : State) (net : Net) → IsProp (IsKept state net)
IsKept-prop state net x y = λ i. record {
  settled = ∥∥₁_prop x.settled y.settled i;
  none_waits = Bool-set (is_some net.spare) false x.none_waits y.none_waits i;
  answers = AreAnswers-prop (board_of state.grid) state.words (net_answers state net) x.answers y.answers i;
}

-- the conditions of `Net::settle` that do not concern the words
pub record CanFollow (now : EngineState) (fields : Fields) (net : Net) : Type 0 where
  pub inside : AreInside now.grid fields.cells
  pub cells : length (sets_of net) ≡ length now.grid.squares
  pub stood : StoodFor fields.before fields.word (known_counts now.bank.words) net
  pub room : HasRoomBetween fields.before now.lights (known_counts now.bank.words) net net.spare
