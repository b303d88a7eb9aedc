-- What the program does with the words of its command line.
use Rattle.std.specs.Prelude.{◌≡◌, ◌⊎◌, ℕ, List, []}
use Rattle.xw_arguments.specs.declared.arguments.Call.{Call}
use Rattle.xw_arguments.specs.declared.arguments.Usage.{Usage}
use Rattle.xw_arguments.specs.Calls.{IsCall}
use Rattle.xw_arguments.specs.Shapes as shapes
use Rattle.xw_arguments.specs.Usage.{IsUsageOf}
use Rattle.xw_desk.specs.declared.failure.ExitStatus.{ExitStatus}
use Rattle.xw_desk.specs.Desk.{Moment}
use Rattle.xw_desk.specs.Explained.{IsExplained}
use Rattle.xw_cli.specs.Performed.{Performs}

-- The words have no fault, and the call that they describe is performed.
pub record IsCalled (words : List (List ℕ)) (status : ExitStatus) (old new : Moment) : Type 0 where
  pub faultless : shapes.faults_in words ≡ []
  pub call : Call
  pub is_call : IsCall call (shapes.subcommand_in words)
  pub performs : Performs call status old new

-- The words ask for help or have a fault, which is explained, and nothing else is done.
pub record IsRefused (words : List (List ℕ)) (status : ExitStatus) (old new : Moment) : Type 0 where
  pub usage : Usage
  pub is_usage : IsUsageOf (shapes.faults_in words) words (shapes.subcommand_in words) usage
  pub explained : IsExplained usage old new status

abbrev pub AnswersWords : List (List ℕ) → ExitStatus → Moment → Moment → Type 0
AnswersWords words status old new = IsCalled words status old new ⊎ IsRefused words status old new
