-- The first part of an update: from a settled net before an edit to the start of the revival.
use Rattle.std.specs.Prelude.{◌≡◌, ℕ, ◌<◌, Bool, true, false, List, [], length, slice_index_or, Option, Some, IsTrue}
use Rattle.xw_bits.specs.Bits.{RowOfBits}
use Rattle.xw_words.specs.Dictionary.{Entry}
use Rattle.xw_grid.specs.declared.lights.Light.{Light}
use Rattle.xw_grid.specs.Grid.{Grid}
use Rattle.xw_feas.specs.Board.{Board, board_of, light_at}
use Rattle.xw_feas.specs.Flags.{set_has}
use Rattle.xw_feas.specs.State.{State, Action}
use Rattle.xw_net.specs.declared.net.Net.{Net}
use Rattle.xw_net.specs.Change.{Fields}
use Rattle.xw_net.specs.Revival.{same_light}
use Rattle.xw_net.specs.Region.{IsRegion}
use Rattle.xw_net.specs.Marks.{known}
use Rattle.xw_net.specs.Nets.{marks_of, word_stands, letter_stands}
use Rattle.xw_net.specs.Spread.{no_positions, HasAll, IsSpread, bits_in}
use Rattle.xw_net.specs.Worklist.{ListOfLights, is_marked, is_waiting, HasSeeds, Grows, MarksAll, MarksOnly}
use Rattle.xw_net.specs.Brought.{IsBase, IsBegun, IsReadyBut}
use Rattle.xw_net.specs.Begin.{IsNewLight, IsThroughListed, HasLength, AreEdited, Prepares}
use Rattle.xw_net.specs.Gone.{IsFreed, IsThroughFreed}

-- the arrays that the start of an update writes
pub record Arrays : Type 0 where
  pub rows : List RowOfBits
  pub base : List RowOfBits
  pub letters : List ℕ
  pub queue : ListOfLights
  pub chain : ListOfLights

-- the arrays of a net that the start of an update writes
abbrev pub arrays_of : Net → Arrays
arrays_of net = record { rows = net.rows.items; base = net.base.items; letters = net.letters.items; queue = net.queue; chain = net.chain }

-- the least grade made words of the light's length active, or left them out
abbrev pub HasTurnedWords : Board → (ℕ → Bool) → ℕ → Type 0
HasTurnedWords board turned light = (light < length board.lights) × (turned (length (light_at board light)) ≡ true)

-- and may have made some active
abbrev pub IsRegained : Board → Fields → ℕ → Type 0
IsRegained board change light = (change.back ≡ true) × HasTurnedWords board change.turned light

-- the edit may take words or letters from the light: it is new, an edited cell is in it, it has the length of the changed
-- word, or the least grade changed which words of its length are active
pub data IsTouched (grid : Grid) (board : Board) (lights : List Light) (change : Fields) (light : ℕ) : Type 0 where
  by_light : IsNewLight change.before lights light → IsTouched grid board lights change light
  by_cell : IsThroughListed grid board change.cells light → IsTouched grid board lights change light
  by_word : HasLength board change.word light → IsTouched grid board lights change light
  by_grade : HasTurnedWords board change.turned light → IsTouched grid board lights change light

-- the edit may give words or letters to the light: it is touched, was queued, or a letter is missing
-- at a cell of it that was in a removed light
pub data MayGain (grid : Grid) (board : Board) (lights : List Light) (change : Fields) (letters : List ℕ) (queue : ListOfLights) (light : ℕ) : Type 0 where
  if_touched : IsTouched grid board lights change light → MayGain grid board lights change letters queue light
  if_queued : is_marked queue.marks light ≡ true → MayGain grid board lights change letters queue light
  if_freed : IsThroughFreed board (IsFreed grid change.before lights (length change.before)) letters light → MayGain grid board lights change letters queue light

-- the new lights, those through edited cells and those with other active words were queued, those that may gain were
-- marked, and the edited and freed cells got their letters
pub record Touches (grid : Grid) (board : Board) (lights : List Light) (change : Fields) (letters : List ℕ) (queue chain : ListOfLights) (letters' : List ℕ) (queue' chain' : ListOfLights) : Type 0 where
  pub letters_len : length letters' ≡ length letters
  pub queue_grows : Grows queue queue'
  pub chain_grows : Grows chain chain'
  pub new_queued : MarksAll (IsNewLight change.before lights) queue'
  pub new_marked : MarksAll (IsNewLight change.before lights) chain'
  pub turned_queued : MarksAll (HasTurnedWords board change.turned) queue'
  pub turned_marked : MarksAll (IsRegained board change) chain'
  pub edited : AreEdited grid board change.cells (set_has letters') (is_marked queue'.marks) (is_marked chain'.marks)
  pub spread : IsSpread board (set_has letters) (set_has letters') (is_marked chain'.marks) (is_waiting chain'.lights) no_positions
  pub freed : (cell : ℕ) → IsFreed grid change.before lights (length change.before) cell → HasAll board (set_has letters') cell
  pub queued_within : MarksOnly (IsTouched grid board lights change) queue queue'
  pub within : MarksOnly (MayGain grid board lights change letters queue) chain chain'

-- what the start of an update has written, by the description of the edit
pub record IsOpening (grid : Grid) (board : Board) (lights : List Light) (entries : ℕ → List Entry) (change : Fields) (filled : Option ℕ) (old new : Arrays) : Type 0 where
  pub size : length new.queue.marks ≡ length board.lights
  -- exactly the marked lights are in the queue and in the chain
  pub queue : Grows old.queue new.queue
  pub listed : HasSeeds new.queue
  pub chain : Grows old.chain new.chain
  pub seeds : HasSeeds new.chain
  -- the new lights, those through edited cells and those with other active words are queued, and those that may gain are
  -- marked
  pub new_queued : MarksAll (IsNewLight change.before lights) new.queue
  pub new_marked : MarksAll (IsNewLight change.before lights) new.chain
  pub turned_queued : MarksAll (HasTurnedWords board change.turned) new.queue
  pub turned_marked : MarksAll (IsRegained board change) new.chain
  pub edited : AreEdited grid board change.cells (set_has new.letters) (is_marked new.queue.marks) (is_marked new.chain.marks)
  pub spread : IsSpread board (set_has old.letters) (set_has new.letters) (is_marked new.chain.marks) (is_waiting new.chain.lights) no_positions
  pub freed : (cell : ℕ) → IsFreed grid change.before lights (length change.before) cell → HasAll board (set_has new.letters) cell
  pub prepared : Prepares board entries change.word filled old.rows new.rows old.base new.base new.queue new.chain
  -- no other light was queued or marked
  pub queued_within : MarksOnly (IsTouched grid board lights change) old.queue new.queue
  pub within : MarksOnly (MayGain grid board lights change old.letters old.queue) old.chain new.chain

module _ (before now : State) where
  -- a settled net was adapted to the lights after an edit: each light that stays has its data,
  -- except for the bit of a new word, and no light is queued or marked
  pub record IsMoved (settled net : Net) : Type 0 where
    pub rows : (light other : ℕ) → light < length (board_of now.grid).lights → same_light before.grid now.grid light ≡ Some other → known (board_of now.grid) now.words light ≡ known (board_of before.grid) before.words other
        → bits_in net.rows.items light ≡ bits_in settled.rows.items other
    pub base : (light other : ℕ) → light < length (board_of now.grid).lights → same_light before.grid now.grid light ≡ Some other → known (board_of now.grid) now.words light ≡ known (board_of before.grid) before.words other
        → bits_in net.base.items light ≡ bits_in settled.base.items other
    pub base_at : (light other index : ℕ) → light < length (board_of now.grid).lights → same_light before.grid now.grid light ≡ Some other → slice_index_or (bits_in net.base.items light) index false ≡ slice_index_or (bits_in settled.base.items other) index false
    pub entered : (light other : ℕ) → light < length (board_of now.grid).lights → same_light before.grid now.grid light ≡ Some other → slice_index_or net.entered.items light false ≡ slice_index_or settled.entered.items other false
    pub lights : (light choice : ℕ) → word_stands net light choice ≡ true → light < length (board_of now.grid).lights
    pub letters : net.letters.items ≡ settled.letters.items
    pub held : net.held.items ≡ settled.held.items
    pub restart : net.restart.items ≡ settled.restart.items
    pub pending : net.pending.items ≡ settled.pending.items
    pub queue : net.queue.lights ≡ []
    pub is_queued : (light : ℕ) → is_marked net.queue.marks light ≡ false
    pub taken : net.chain.lights ≡ []
    pub is_marked : (light : ℕ) → is_marked net.chain.marks light ≡ false

  -- the net is ready for the revival: its base rows are up to date, the marked lights are seeds,
  -- every other light is ready for stripping, and all queued and marked lights are in the region
  pub record IsOpened (action : Action) (settled net : Net) : Type 0 where
    pub is_base : IsBase (board_of now.grid) now.words net.base.items
    pub begun : IsBegun (board_of before.grid) (board_of now.grid) before.words now.words (same_light before.grid now.grid) (word_stands settled) (letter_stands settled) (word_stands net) (letter_stands net) (is_marked net.chain.marks)
    pub ready : IsReadyBut (board_of now.grid) now.words (marks_of net) (is_marked net.chain.marks)
    pub queued_within : (member : List ℕ → Bool) → IsRegion before now action member → (light : ℕ) → is_marked net.queue.marks light ≡ true → IsTrue (member (light_at (board_of now.grid) light))
    pub within : (member : List ℕ → Bool) → IsRegion before now action member → (light : ℕ) → is_marked net.chain.marks light ≡ true → IsTrue (member (light_at (board_of now.grid) light))
