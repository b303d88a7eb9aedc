-- The state in which a session begins, and the puzzle of a state.
use Rattle.std.specs.Prelude.{false, []}
use Rattle.xw_words.specs.Dictionary.{Dictionary}
use Rattle.xw_grid.specs.Edit.{blank}
use Rattle.xw_grid.specs.Clue.{no_clues}
use Rattle.xw_grid.specs.Puzzle.{PuzzleShown}
use Rattle.xw_answers.specs.Record.{known_counts}
use Rattle.xw_session.specs.State.{SessionState}

-- the puzzle without texts, clues and circles on an empty grid of 15 rows and columns
abbrev pub empty_puzzle : PuzzleShown
empty_puzzle = record { grid = blank 15 15; texts = record { title = []; author = []; copyright = []; notes = [] }; clues = no_clues; circles = [] }

-- the state in which a session begins
abbrev pub opened_on : Dictionary → PuzzleShown → SessionState
opened_on words puzzle = record {
  engine = record { grid = puzzle.grid; words = words };
  texts = puzzle.texts;
  clues = puzzle.clues;
  circles = puzzle.circles;
  is_watched = false;
  begun = known_counts words;
}

-- the puzzle of a session
abbrev pub puzzle_of : SessionState → PuzzleShown
puzzle_of state = record { grid = state.engine.grid; texts = state.texts; clues = state.clues; circles = state.circles }
