-- Executing commands one after another when no allocation fails, and the laws of records.
use Rattle.std.specs.Prelude.{◌≡◌, ℕ, ◌+◌, ◌<◌, ◌≤◌, true, false, List, [], ◌∷◌, ◌++◌, map, length, slice_index_or, Option, Some, None, Result, Ok, Err}
use Rattle.std.specs.Option.{option_and_then}
use Rattle.xw_words.specs.Dictionary.{Dictionary, Entry, IsDictionary, known_words, entry_at}
use Rattle.xw_grid.specs.declared.cell.Square.{Square}
use Rattle.xw_grid.specs.declared.cell.Square.TheVariants.{Block, Open}
use Rattle.xw_grid.specs.declared.cell.Cell.{Cell}
use Rattle.xw_grid.specs.declared.cell.Direction.{Direction}
use Rattle.xw_grid.specs.declared.cell.Direction.TheVariants.{Across, Down}
use Rattle.xw_grid.specs.declared.cell.Side.{Side}
use Rattle.xw_grid.specs.Grid.{Grid, IsGrid, is_inside, is_edge, bars, index_of}
use Rattle.xw_grid.specs.Edit.{blank}
use Rattle.xw_grid.specs.Clue.{Texts, ClueMap, no_clues}
use Rattle.xw_feas.specs.State.{State}
use Rattle.xw_feas.specs.WellFormed.{IsWellFormed}
use Rattle.xw_files.specs.declared.fault.ReadFault.{ReadFault}
use Rattle.xw_grid.specs.Puzzle.{PuzzleShown}
use Rattle.xw_commands.specs.declared.command.Command.{Command}
use Rattle.xw_commands.specs.declared.command.Command.TheVariants as commands
use Rattle.xw_commands.specs.declared.change.Change.{Change}
use Rattle.xw_commands.specs.declared.command.SyntaxFault.{SyntaxFault}
use Rattle.xw_commands.specs.declared.command.TextField.{TextField}
use Rattle.xw_lines.specs.declared.outcome.Step.{Step}
use Rattle.xw_lines.specs.declared.outcome.Step.TheVariants.{Refused}
use Rattle.xw_answers.specs.declared.refusal.CommandRefusal.{CommandRefusal}
use Rattle.xw_commands.specs.Command.{command_of}
use Rattle.xw_lines.specs.Cut.{lines_of}
use Rattle.xw_session.specs.Put.{text_of_field}
use Rattle.xw_answers.specs.Record.{known_counts}
use Rattle.xw_session.specs.Record.{record_commands, record_lines}
use Rattle.xw_session.specs.Reply.{Reply, changed, reply_to, want_of}
use Rattle.xw_answers.specs.Escape.{has_nul}
use Rattle.xw_session.specs.Answer.{Answers}
use Rattle.xw_lines.specs.Spoken.{Spoken}
use Rattle.xw_session.specs.State.{SessionState}
use Rattle.xw_answers.specs.Text.{refused}

-- the state after a reply, or None if the command is refused
abbrev pub state_left : Result Reply CommandRefusal → Option SessionState
state_left (Ok reply) = Some reply.state
state_left (Err refusal) = None

-- the state after all these changes, or None if one is refused
abbrev pub replayed : SessionState → List Change → Option SessionState
replayed state [] = Some state
replayed state (change ∷ changes) = option_and_then (λ next. replayed next changes) (state_left (changed state change))

-- the state after the one reply to a command, or None if it is refused or has no single reply
abbrev pub left_by : Option (Result Reply CommandRefusal) → Option SessionState
left_by None = None
left_by (Some reply) = state_left reply

-- the same for lines
abbrev pub left_by_line : SessionState → Result (Option Command) SyntaxFault → Option SessionState
left_by_line state (Ok None) = Some state
left_by_line state (Ok (Some command)) = left_by (reply_to state command)
left_by_line state (Err fault) = None

abbrev pub replayed_lines : SessionState → List (List ℕ) → Option SessionState
replayed_lines state [] = Some state
replayed_lines state (line ∷ lines) = option_and_then (λ next. replayed_lines next lines) (left_by_line state (command_of line))

-- the square without its letter
abbrev pub bared : Square → Square
bared Block = Block
bared (Open entered) = Open None

-- the state with its grid replaced
abbrev pub with_grid : SessionState → Grid → SessionState
with_grid state grid = record state { engine = record state.engine { grid = grid } }

-- the state with its dictionary replaced
abbrev pub with_words : SessionState → Dictionary → SessionState
with_words state words = record state { engine = record state.engine { words = words } }

-- ---- the invariant of a session

-- a word with this grade, as it is when a session starts: active, and nothing was done to it
abbrev pub fresh : List ℕ → ℕ → Entry
fresh word grade = record { word = word; active = true; struck = false; grade = grade; regraded = false }

-- Nothing had been done to the word when the session started. It has the same grade now, unless it came back with
-- another one.
abbrev pub IsSince : Entry → Entry → Type 0
IsSince begun entry = (begun ≡ fresh entry.word begun.grade) × (entry.regraded ≡ false → begun.grade ≡ entry.grade)

-- the known words begin with those from the start of the session
pub record ComeFirst (begun entries : List Entry) : Type 0 where
  pub few : length begun ≤ length entries
  pub since : (index : ℕ) → index < length begun → IsSince (entry_at begun index) (entry_at entries index)

-- no bar lies on the border of the grid
abbrev pub BarsAreOnEdges : Grid → Type 0
BarsAreOnEdges grid = (side : Side) (cell : Cell) → is_inside grid cell ≡ true → is_edge grid cell side ≡ false → slice_index_or (bars grid side) (index_of grid cell) false ≡ false

-- a blank grid of the same size, with the bars on the right of cells
abbrev pub barred_right : Grid → Grid
barred_right grid = record (blank grid.width grid.height) { right = grid.right }

-- the same with the bars below cells too
abbrev pub barred : Grid → Grid
barred grid = record (barred_right grid) { below = grid.below }

-- the cells are in the grid and in strict reading order, starting at this index or later
abbrev pub AreFrom : Grid → ℕ → List Cell → Type 0
AreFrom grid index [] = Unit {0}
AreFrom grid index (cell ∷ cells) = (is_inside grid cell ≡ true) × (index ≤ index_of grid cell) × AreFrom grid (index_of grid cell + 1) cells

-- the texts belong to cells of the grid in strict reading order, starting at this index or later; each is not empty and
-- has no NUL
abbrev pub AreTextsFrom : Grid → ℕ → Texts → Type 0
AreTextsFrom grid index [] = Unit {0}
AreTextsFrom grid index (entry ∷ texts) =
    (is_inside grid entry.0 ≡ true) × (index ≤ index_of grid entry.0) × (0 < length entry.1) × (has_nul entry.1 ≡ false) × AreTextsFrom grid (index_of grid entry.0 + 1) texts

-- the clues of one direction
abbrev pub clues_of : ClueMap → Direction → Texts
clues_of clues Across = clues.across
clues_of clues Down = clues.down

-- the invariant of a session that started with these words
pub record BeganWith (words : Dictionary) (state : SessionState) : Type 0 where
  pub grid : IsGrid state.engine.grid
  pub bars : BarsAreOnEdges state.engine.grid
  pub known : IsDictionary words
  pub least : words.least ≡ 0
  pub dictionary : IsDictionary state.engine.words
  pub first : (count : ℕ) → ComeFirst (known_words words count) (known_words state.engine.words count)
  pub begun : state.begun ≡ known_counts words
  pub texts : (name : TextField) → has_nul (text_of_field state.texts name) ≡ false
  pub clues : (direction : Direction) → AreTextsFrom state.engine.grid 0 (clues_of state.clues direction)
  pub circles : AreFrom state.engine.grid 0 state.circles

-- no word is left out or struck, and none came back with another grade
pub record IsFresh (words : Dictionary) : Type 0 where
  pub least : words.least ≡ 0
  pub first : (count : ℕ) → ComeFirst (known_words words count) (known_words words count)

-- a session started on a dictionary to which nothing was done, with no texts, clues and circles, meets the invariant
abbrev pub SessionsBegin : Type 0
SessionsBegin =
    (engine : State) → IsWellFormed engine → BarsAreOnEdges engine.grid → IsFresh engine.words
    → BeganWith engine.words (record {
      engine = engine;
      texts = record { title = []; author = []; copyright = []; notes = [] };
      clues = no_clues;
      circles = [];
      is_watched = false;
      begun = known_counts engine.words;
    })

-- the state of a session opened with a dictionary and a puzzle
abbrev pub opened_on : Dictionary → PuzzleShown → SessionState
opened_on words puzzle = record {
  engine = record { grid = puzzle.grid; words = words };
  texts = puzzle.texts;
  clues = puzzle.clues;
  circles = puzzle.circles;
  is_watched = false;
  begun = known_counts words;
}

-- a session opened on the puzzle of some bytes, with a dictionary to which nothing was done, meets the invariant
abbrev pub SessionsOpen : (List ℕ → Result PuzzleShown ReadFault) → Type 0
SessionsOpen spelled =
    (words : Dictionary) (bytes : List ℕ) (puzzle : PuzzleShown) → spelled bytes ≡ Ok puzzle → IsWellFormed (opened_on words puzzle).engine → IsFresh words
    → BeganWith words (opened_on words puzzle)

-- Every line keeps the invariant. The contract of the engine gives the well-formedness of the new state.
abbrev pub SessionsStay : Type 0
SessionsStay =
    (words : Dictionary) (state next : SessionState) (line : List ℕ) (outcome : Step) (answer : List ℕ) → BeganWith words state → Answers state line outcome answer next
    → IsWellFormed next.engine → BeganWith words next

-- ---- the laws of records

-- The commands of a record, executed in a session with the words at the start of the recorded one, are all accepted and
-- rebuild its state, except for the word counts at the start.
abbrev pub CommandsMakeSessionsAgain : Type 0
CommandsMakeSessionsAgain =
    (words : Dictionary) (made state : SessionState) → BeganWith words made → state.engine.words ≡ words
    → replayed state (record_commands made) ≡ Some (record made { begun = state.begun })

-- each line of a record parses as its command
abbrev pub LinesAreReadAgain : Type 0
LinesAreReadAgain =
    (words : Dictionary) (made : SessionState) → BeganWith words made
    → map command_of (lines_of (record_lines made)) ≡ map (λ change. Ok (Some (commands.Change change))) (record_commands made)

-- the lines of a record rebuild the state too
abbrev pub LinesMakeSessionsAgain : Type 0
LinesMakeSessionsAgain =
    (words : Dictionary) (made state : SessionState) → BeganWith words made → state.engine.words ≡ words
    → replayed_lines state (lines_of (record_lines made)) ≡ Some (record made { begun = state.begun })

-- ---- the same laws for the answers of a session

-- the answer is the failed allocation that the line's command may meet
abbrev pub WantsMemory : SessionState → Result (Option Command) SyntaxFault → List ℕ → Type 0
WantsMemory state (Ok None) answer = ⊥
WantsMemory state (Ok (Some command)) answer = (refusal : CommandRefusal) × (want_of state command ≡ Some refusal) × (answer ≡ refused refusal)
WantsMemory state (Err fault) answer = ⊥

-- a session that starts with the same words and accepts every line of a record ends in the recorded state
abbrev pub AnsweredLinesMakeSessionsAgain : Type 0
AnsweredLinesMakeSessionsAgain =
    (words : Dictionary) (made state last : SessionState) (out : List ℕ) → BeganWith words made → state.engine.words ≡ words
    → Spoken Answers state (lines_of (record_lines made)) out 0 last → last ≡ record made { begun = state.begun }

-- the first line of a record that a session refuses, if any, is refused for a failed allocation
abbrev pub RecordsAreRefusedForMemoryOnly : Type 0
RecordsAreRefusedForMemoryOnly =
    (words : Dictionary) (made state mid last : SessionState) (front rest : List (List ℕ)) (line out answer : List ℕ) → BeganWith words made → state.engine.words ≡ words
    → lines_of (record_lines made) ≡ front ++ line ∷ rest → Spoken Answers state front out 0 mid → Answers mid line Refused answer last
    → WantsMemory mid (command_of line) answer
