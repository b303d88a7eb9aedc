-- The disk and the streams of a call, and what a step of the call does with them.
use Rattle.std.specs.Prelude.{◌≡◌, ◌⊎◌, ◌++◌, ◌∷◌, ℕ, Bool, true, false, List, []}
use Rattle.xw_lines.specs.Device.{Begins, HasFailed, flushed}
use Rattle.xw_disk.specs.Disk.{Event}

-- The disk and the streams of a call at some moment. Of the disk: what it was asked. Of the input: what was read, whether
-- it was at its end, and how many reads failed. Of the output: what was written, how many writes failed, and whether its
-- reader is gone. Of the messages: what was written, and how many writes failed. The rest stays the same: whether messages
-- go to a terminal, whether lines come from one too, and whether failures are explained.
pub record Moment : Type 0 where
  pub asked : List Event
  pub read : List ℕ
  pub is_at_end : Bool
  pub read_failures : ℕ
  pub told : List ℕ
  pub write_failures : ℕ
  pub is_closed : Bool
  pub reported : List ℕ
  pub report_failures : ℕ
  pub is_terminal : Bool
  pub is_dialogue : Bool
  pub explains : Bool

-- the disk was asked this, and nothing else happened
abbrev pub Asks : Event → Moment → Moment → Type 0
Asks event old new = new ≡ record old { asked = old.asked ++ event ∷ [] }

-- The text was written to the messages, or a write failed. Nothing else happened.
pub record Reports (text : List ℕ) (old new : Moment) : Type 0 where
  pub reported : List ℕ
  pub failures : ℕ
  pub goes_out : ((reported ≡ old.reported ++ text) × (failures ≡ old.report_failures)) ⊎ HasFailed old.report_failures failures
  pub alone : new ≡ record old { reported = reported; report_failures = failures }

-- the text is written to the messages if it is due, and otherwise nothing happens
abbrev pub ReportsIf : Bool → List ℕ → Moment → Moment → Type 0
ReportsIf true text old new = Reports text old new
ReportsIf false text old new = new ≡ old

-- The text was written to the output and flushed. Nothing else happened.
pub record Shows (text : List ℕ) (old new : Moment) : Type 0 where
  pub closed : Bool
  pub alone : new ≡ record old { told = old.told ++ (text ++ flushed ∷ []); is_closed = closed }

-- The output failed after a part of the text. Nothing else happened.
pub record FailsToShow (text : List ℕ) (old new : Moment) : Type 0 where
  pub told : List ℕ
  pub failures : ℕ
  pub closed : Bool
  pub begins : Begins old.told told (text ++ flushed ∷ [])
  pub failed : HasFailed old.write_failures failures
  pub alone : new ≡ record old { told = told; write_failures = failures; is_closed = closed }
