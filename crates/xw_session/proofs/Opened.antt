-- The state in which a session begins.
use Rattle.std.proofs.Common.{◌≡◌, ◌∙◌, ap, subst, false}
use Rattle.xw_words.specs.Dictionary.{Dictionary}
use Rattle.xw_grid.specs.Edit.{blank}
use Rattle.xw_grid.specs.Grid.{Grid}
use Rattle.xw_grid.specs.Puzzle.{PuzzleShown}
use Rattle.xw_feas.specs.State.{State}
use Rattle.xw_answers.specs.Record.{known_counts}
use Rattle.xw_session.specs.State.{SessionState}
use Rattle.xw_session.specs.Opening.{empty_puzzle, opened_on}

abbrev pub state_at : PuzzleShown → State → SessionState
state_at puzzle engine = record {
  engine = engine;
  texts = puzzle.texts;
  clues = puzzle.clues;
  circles = puzzle.circles;
  is_watched = false;
  begun = known_counts engine.words;
}

pub opened_at : (state : SessionState) (engine : State) (words : Dictionary) (puzzle : PuzzleShown)
    → state ≡ state_at puzzle engine → engine ≡ record { grid = puzzle.grid; words = words } → state ≡ opened_on words puzzle
opened_at state engine words puzzle made is = made ∙ ap (state_at puzzle) is

-- a session on an empty grid
pub opened_on_empty : (state : SessionState) (engine : State) (words : Dictionary) (grid : Grid)
    → state ≡ state_at empty_puzzle engine → engine ≡ record { grid = grid; words = words } → grid ≡ blank 15 15 → state ≡ opened_on words empty_puzzle
opened_on_empty state engine words grid made is empty =
    opened_at state engine words empty_puzzle made (subst (λ (g : Grid). engine ≡ record { grid = g; words = words }) empty is)
