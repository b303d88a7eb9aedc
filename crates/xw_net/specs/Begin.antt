-- The start of an update: which lights are queued, and which are seeds of the chain.
use Rattle.std.specs.Prelude.{◌≡◌, ℕ, ◌+◌, ◌<◌, Bool, true, false, List, [], ◌∷◌, length, if◌then◌else◌, slice_index, slice_index_or, Option, Some, None, is_some, is_none, Contains, ◌&&◌, ◌||◌, ◌==◌, nat_le}
use Rattle.xw_bits.specs.Bits.{RowOfBits}
use Rattle.xw_letters.specs.Letter.{is_capital}
use Rattle.xw_words.specs.Dictionary.{Entry, Dictionary}
use Rattle.xw_feas.specs.Flags.{set_has}
use Rattle.xw_feas.specs.Board.{Board, entry, light_at, is_wholly_entered}
use Rattle.xw_feas.specs.Feasible.{may_stand}
use Rattle.xw_feas.specs.declared.effect.Effect.{Effect}
use Rattle.xw_feas.specs.declared.notes.Notes.{Notes}
use Rattle.xw_feas.specs.Effect.{cells_by, is_shape_by}
use Rattle.xw_net.specs.Base.{base_bits, IsBaseBut, WasBase}
use Rattle.xw_feas.specs.Known.{spellings, actives}
use Rattle.xw_feas.specs.Choices.{is_base_at}
use Rattle.xw_net.specs.Revival.{StandsOn}
use Rattle.xw_net.specs.Marks.{Marks, IsPositionIn, cell_at, slot_at, known, puts}
use Rattle.xw_grid.specs.declared.cell.Cell.{Cell}
use Rattle.xw_grid.specs.declared.lights.Light.{Light}
use Rattle.xw_grid.specs.Grid.{Grid, index_of}
use Rattle.xw_net.specs.Renumber.{same_before}
use Rattle.xw_net.specs.Spread.{HasAll, IsThrough, KeepsSpread, bits_in}
use Rattle.xw_net.specs.Worklist.{ListOfLights, is_marked, Grows, MarksOnly}

-- whether an empty cell got a letter
abbrev pub is_fill : Board → ℕ → Option ℕ → Bool
is_fill board cell old = is_none old && is_some (entry board cell)

-- the index of the cell that an edit filled, if it wrote no other cell
abbrev pub only_filled : Grid → Board → List (Cell × Option ℕ) → Option ℕ
only_filled grid board [] = None
only_filled grid board (listed ∷ []) = if is_fill board (index_of grid listed.0) listed.1 then Some (index_of grid listed.0) else None
only_filled grid board (listed ∷ other ∷ rest) = None

-- the same of an edit that keeps the lights
abbrev pub filled_by : Grid → Board → Notes → Effect → Option ℕ
filled_by grid board notes effect = if is_shape_by effect then None else only_filled grid board (cells_by notes effect)

abbrev pub filled_of : Grid → Board → Notes → Option ℕ
filled_of grid board notes = filled_by grid board notes notes.effect

-- whether the changed word has this length
abbrev pub is_long : Option (ℕ × ℕ) → ℕ → Bool
is_long None len = false
is_long (Some word) len = word.0 == len

-- whether the changed word has this length, and is in the row or is the last known word or past the
-- end of the row
abbrev pub may_have : Option (ℕ × ℕ) → ℕ → List Bool → Bool
may_have None len bits = false
may_have (Some word) len bits = (word.0 == len) && (nat_le (length bits) (word.1 + 1) || slice_index_or bits word.1 false)

-- whether the changed word may be a base word of the light, or may be among its words in the net
abbrev pub has_changed : Option (ℕ × ℕ) → ℕ → List Bool → List Bool → Bool
has_changed word len base bits = may_have word len base || may_have word len bits

-- whether a light's base row is updated: the light is queued or has the length of the changed word
abbrev pub is_read : Board → Option (ℕ × ℕ) → (ℕ → Bool) → ℕ → Bool
is_read board word in_queue light = in_queue light || is_long word (length (light_at board light))

-- whether a queued light is a seed: it is filled, or the changed word may be a base word of it
abbrev pub is_seed : Board → Option (ℕ × ℕ) → List ℕ → List Bool → Bool
is_seed board word cells bits = is_wholly_entered board cells || may_have word (length cells) bits

-- the light has the length of the changed word
abbrev pub HasLength : Board → Option (ℕ × ℕ) → ℕ → Type 0
HasLength board word light = (index : ℕ) × (word ≡ Some (length (light_at board light), index)) × (light < length board.lights)

-- no light before the edit has the cells of this one
abbrev pub IsNewLight : List Light → List Light → ℕ → Type 0
IsNewLight before lights light = (light < length lights) × (same_before before lights light ≡ None)

-- the changed word may concern the light
abbrev pub MayConcern : Board → Option (ℕ × ℕ) → List RowOfBits → List RowOfBits → ℕ → Type 0
MayConcern board word base words light = has_changed word (length (light_at board light)) (bits_in base light) (bits_in words light) ≡ true

-- a light of the board that the changed word may concern
abbrev pub IsConcerned : Board → Option (ℕ × ℕ) → List RowOfBits → List RowOfBits → ℕ → Type 0
IsConcerned board word base words light = (light < length board.lights) × MayConcern board word base words light

-- the light is a seed if it is queued
abbrev pub IsSeed : Board → Option (ℕ × ℕ) → List RowOfBits → ℕ → Type 0
IsSeed board word base light = is_seed board word (light_at board light) (bits_in base light) ≡ true

-- a queued light of the board that is a seed
abbrev pub IsQueuedSeed : Board → Option (ℕ × ℕ) → List RowOfBits → ListOfLights → ℕ → Type 0
IsQueuedSeed board word base queue light = (light < length board.lights) × (is_marked queue.marks light ≡ true) × IsSeed board word base light

-- the row keeps only base words. If the changed word has the light's length, only that word need be
-- removed
pub record IsNarrowedRow (word : Option (ℕ × ℕ)) (word_len : ℕ) (bits base bits' : List Bool) : Type 0 where
  pub len : length bits' ≡ length bits
  pub from : (k : ℕ) → slice_index_or bits' k false ≡ true → slice_index_or bits k false ≡ true
  pub stays : (k : ℕ) → slice_index_or bits k false ≡ true → slice_index_or base k false ≡ true → slice_index_or bits' k false ≡ true
  pub goes : (k : ℕ) → (is_long word word_len ≡ true → word ≡ Some (word_len, k)) → slice_index_or base k false ≡ false → slice_index_or bits' k false ≡ false

module _ (board : Board) where
  -- the state at an edited cell, whose entry before was `old`: it has only allowed letters, and the
  -- lights through it are queued. Unless an empty cell got a letter, it has all allowed letters,
  -- and the lights through it are on the chain
  pub record IsEdited (letters : ℕ → ℕ → Bool) (in_queue in_chain : ℕ → Bool) (cell : ℕ) (old : Option ℕ) : Type 0 where
    pub may : (letter : ℕ) → letters cell letter ≡ true → may_stand board cell letter ≡ true
    pub queued : (light position : ℕ) → IsPositionIn board light position → cell_at board light position ≡ cell → in_queue light ≡ true
    pub all : is_fill board cell old ≡ false → HasAll board letters cell
    pub marked : is_fill board cell old ≡ false → (light position : ℕ) → IsPositionIn board light position → cell_at board light position ≡ cell → in_chain light ≡ true

  -- the edited cell is in such a state after a step if it was before
  abbrev pub StaysEdited : List ℕ → ListOfLights → ListOfLights → List ℕ → ListOfLights → ListOfLights → ℕ → Option ℕ → Type 0
  StaysEdited letters queue chain letters' queue' chain' cell old =
      IsEdited (set_has letters) (is_marked queue.marks) (is_marked chain.marks) cell old → IsEdited (set_has letters') (is_marked queue'.marks) (is_marked chain'.marks) cell old

  -- the row of a light keeps only base words
  abbrev pub IsNarrowed : Option (ℕ × ℕ) → ℕ → List RowOfBits → List RowOfBits → List RowOfBits → Type 0
  IsNarrowed word light base rows rows' = IsNarrowedRow word (length (light_at board light)) (bits_in rows light) (bits_in base light) (bits_in rows' light)

  -- the rows of all queued lights keep only base words
  abbrev pub AreNarrowed : Option (ℕ × ℕ) → List RowOfBits → (ℕ → Bool) → List RowOfBits → List RowOfBits → Type 0
  AreNarrowed word base in_queue rows rows' =
      (light : ℕ) → light < length board.lights → in_queue light ≡ true → IsNarrowed word light base rows rows'

-- a light through a cell that the edit wrote
abbrev pub IsThroughListed : Grid → Board → List (Cell × Option ℕ) → ℕ → Type 0
IsThroughListed grid board cells light = (listed : Cell × Option ℕ) × Contains cells listed × IsThrough board (index_of grid listed.0) light

-- the state at all cells that the edit wrote
abbrev pub AreEdited : Grid → Board → List (Cell × Option ℕ) → (ℕ → ℕ → Bool) → (ℕ → Bool) → (ℕ → Bool) → Type 0
AreEdited grid board cells letters in_queue in_chain = (listed : Cell × Option ℕ) → Contains cells listed → IsEdited board letters in_queue in_chain (index_of grid listed.0) listed.1

-- the edited cells got their letters, and lights through them were queued and marked
pub record EditsCells (grid : Grid) (board : Board) (cells : List (Cell × Option ℕ)) (letters : List ℕ) (queue chain : ListOfLights) (letters' : List ℕ) (queue' chain' : ListOfLights) : Type 0 where
  pub letters_len : length letters' ≡ length letters
  pub queue_grows : Grows queue queue'
  pub queued_within : MarksOnly (IsThroughListed grid board cells) queue queue'
  pub chain_grows : Grows chain chain'
  pub within : MarksOnly (IsThroughListed grid board cells) chain chain'
  pub edited : AreEdited grid board cells (set_has letters') (is_marked queue'.marks) (is_marked chain'.marks)
  pub spread : KeepsSpread board letters chain letters' chain'

-- the state at which a revival starts: the lights that the edit touches are queued, and those that
-- may get words back are seeds
pub record IsStarted (before after : Board) (old new : Dictionary) (same : ℕ → Option ℕ) (settled start : Marks) (seed : ℕ → Bool) : Type 0 where
  pub matched : (light : ℕ) → light < length after.lights → seed light ≡ false → (other : ℕ) × (same light ≡ Some other)
  -- at a light that is not a seed, at most empty cells got letters; if it is not queued either, no
  -- entry changed
  pub entry_kept : (light cell entered : ℕ) → light < length after.lights → seed light ≡ false → Contains (light_at after light) cell → entry before cell ≡ Some entered → entry after cell ≡ entry before cell
  pub entry_calm : (light cell : ℕ) → light < length after.lights → start.queued light ≡ false → seed light ≡ false → Contains (light_at after light) cell → entry after cell ≡ entry before cell
  pub entered : (light : ℕ) → light < length after.lights → start.queued light ≡ true → is_wholly_entered after (light_at after light) ≡ true → seed light ≡ true
  -- a light that is not a seed has the same known words as before, and no base word that was not
  -- active
  pub spelled : (light : ℕ) → light < length after.lights → seed light ≡ false → spellings new (length (light_at after light)) ≡ spellings old (length (light_at after light))
  pub active : (light choice : ℕ) → light < length after.lights → seed light ≡ false → is_base_at after new light choice ≡ true → slice_index_or (actives new (length (light_at after light))) choice false ≡ true → slice_index_or (actives old (length (light_at after light))) choice false ≡ true
  -- at a light that is not queued, each word in the net is still a base word
  pub words_calm : (light other choice : ℕ) → light < length after.lights → start.queued light ≡ false → seed light ≡ false → same light ≡ Some other → settled.words other choice ≡ true → is_base_at after new light choice ≡ true
  -- the net keeps those words that are base words
  pub lights : (light choice : ℕ) → start.words light choice ≡ true → light < length after.lights
  pub words_on : (light other choice : ℕ) → light < length after.lights → seed light ≡ false → start.queued light ≡ true → same light ≡ Some other → start.words light choice ≡ (settled.words other choice && is_base_at after new light choice)
  pub words_off : (light other choice : ℕ) → light < length after.lights → seed light ≡ false → start.queued light ≡ false → same light ≡ Some other → start.words light choice ≡ settled.words other choice
  -- the net keeps each letter that is still allowed, and some letters come back
  pub letters_from : (cell letter : ℕ) → start.letters cell letter ≡ true → may_stand after cell letter ≡ true
  pub letters_stay : (cell letter : ℕ) → may_stand after cell letter ≡ true → settled.letters cell letter ≡ true → start.letters cell letter ≡ true
  pub letters_come : (cell letter : ℕ) → may_stand after cell letter ≡ true → ¬ (may_stand before cell letter ≡ true) → start.letters cell letter ≡ true
  pub letters_reach : (light position letter : ℕ) → IsPositionIn after light position → start.letters (cell_at after light position) letter ≡ true
      → ¬ (settled.letters (cell_at after light position) letter ≡ true) → seed light ≡ true
  pub freed : (other k : ℕ) → other < length before.lights → ¬ StandsOn after same other → k < length (light_at before other) → HasAll after start.letters (slice_index (light_at before other) k)
  -- a light that is not a seed keeps its supports
  pub held : (light position letter : ℕ) → IsPositionIn after light position → is_capital letter ≡ true → seed light ≡ false
      → start.held (slot_at after light position) letter ≡ settled.held (slot_at after light position) letter
  pub restart : (slot letter : ℕ) → start.restart slot letter ≡ settled.restart slot letter
  pub pending : (light position letter : ℕ) → IsPositionIn after light position → start.pending (slot_at after light position) letter ≡ false
  pub hits : (light position letter : ℕ) → IsPositionIn after light position → is_capital letter ≡ true
      → start.held (slot_at after light position) letter < known after new light → puts after new light position letter (start.held (slot_at after light position) letter) ≡ true

-- each base row is right except perhaps for the changed word
abbrev pub AreBaseBut : Board → (ℕ → List Entry) → Option (ℕ × ℕ) → List RowOfBits → Type 0
AreBaseBut board entries word base = (light : ℕ) → light < length board.lights → IsBaseBut board (light_at board light) (entries (length (light_at board light))) word (bits_in base light)

-- the base rows and the rows of words of the net are prepared for a revival
pub record IsPrepared (board : Board) (entries : ℕ → List Entry) (word : Option (ℕ × ℕ)) (rows rows' base base' : List RowOfBits) (in_queue in_chain : ℕ → Bool) : Type 0 where
  pub base_on : (light : ℕ) → light < length board.lights → is_read board word in_queue light ≡ true → bits_in base' light ≡ base_bits board (light_at board light) (entries (length (light_at board light)))
  pub base_off : (light : ℕ) → is_read board word in_queue light ≡ false → bits_in base' light ≡ bits_in base light
  pub rows_on : (light : ℕ) → light < length board.lights → in_queue light ≡ true → IsNarrowedRow word (length (light_at board light)) (bits_in rows light) (base_bits board (light_at board light) (entries (length (light_at board light)))) (bits_in rows' light)
  pub rows_off : (light : ℕ) → in_queue light ≡ false → bits_in rows' light ≡ bits_in rows light
  -- at a light that is not queued, the changed word is not a base word and was not in the net
  pub calm : (light : ℕ) → light < length board.lights → in_queue light ≡ false → may_have word (length (light_at board light)) (base_bits board (light_at board light) (entries (length (light_at board light)))) ≡ false
  pub stood_not : (light : ℕ) → light < length board.lights → in_queue light ≡ false → may_have word (length (light_at board light)) (bits_in rows light) ≡ false
  pub seeds : (light : ℕ) → light < length board.lights → in_queue light ≡ true → is_seed board word (light_at board light) (base_bits board (light_at board light) (entries (length (light_at board light)))) ≡ true → in_chain light ≡ true

-- if the edit only filled a cell, each base row is right for the board before it
abbrev pub WereBase : Board → (ℕ → List Entry) → Option ℕ → List RowOfBits → Type 0
WereBase board entries filled base = (light : ℕ) → light < length board.lights → WasBase board entries filled light (bits_in base light)

-- the rows are prepared if each base row was right except perhaps for the changed word, or for the letter of the filled cell
abbrev pub Prepares : Board → (ℕ → List Entry) → Option (ℕ × ℕ) → Option ℕ → List RowOfBits → List RowOfBits → List RowOfBits → List RowOfBits → ListOfLights → ListOfLights → Type 0
Prepares board entries word filled rows rows' base base' queue chain =
    AreBaseBut board entries word base → WereBase board entries filled base → IsPrepared board entries word rows rows' base base' (is_marked queue.marks) (is_marked chain.marks)
